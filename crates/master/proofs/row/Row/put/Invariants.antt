-- The bytes so far, with the pairs of the row that are left put in, are what is wanted, and none of these is bad.
use mathlib.Core.Path.{◌≡◌}
use lib.ListN.{length}
use Rattle.master.specs.Put.{puts}
use Rattle.master.specs.WriteRow.{first_bad, with_row}
use Rattle.std.specs.Prelude.{Ok}
use Rattle.master.proofs.row.Row.put.Given as goal

abbrev pub invariant-loop-s : goal.invariant-loop-s
invariant-loop-s l = (length l.bytes ≡ length l.initial.bytes)
    × (first_bad l.t.words.now (length l.yielded) (puts l.s-iterator.a.rest.now l.s-iterator.b.rest.now) ≡ Ok tt)
    × (with_row l.t.words.now l.initial.bytes (puts l.self.signals.now l.self.values.now)
    ≡ with_row l.t.words.now l.bytes (puts l.s-iterator.a.rest.now l.s-iterator.b.rest.now))
