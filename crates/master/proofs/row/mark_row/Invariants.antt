-- The bits so far, with the later signals of the row marked, are what is wanted.
use mathlib.Core.Path.{◌≡◌}
use lib.ListN.{drop}
use Rattle.master.specs.WriteRow.{marked_bits}
use Rattle.master.proofs.row.mark_row.Given as goal

abbrev pub invariant-loop-s : goal.invariant-loop-s
invariant-loop-s l =
    marked_bits l.t.words.now l.signals l.initial.pending ≡ marked_bits l.t.words.now (drop l.s-index l.signals) l.pending
