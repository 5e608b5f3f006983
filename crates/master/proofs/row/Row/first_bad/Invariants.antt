-- The verdict on the whole row is that on the pairs that are left.
use Rattle.std.proofs.Common.{◌≡◌}
use Rattle.master.specs.WriteRow.{first_bad}
use Rattle.master.specs.Put.{puts}
use Rattle.master.proofs.row.Row.first_bad.Given as goal

abbrev pub invariant-loop-i : goal.invariant-loop-i
invariant-loop-i l = first_bad l.t.words.now 0 (puts l.self.signals.now l.self.values.now)
    ≡ first_bad l.t.words.now l.i-iterator.count (puts l.i-iterator.iter.a.rest.now l.i-iterator.iter.b.rest.now)
