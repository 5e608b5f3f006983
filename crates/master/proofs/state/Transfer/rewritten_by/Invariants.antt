-- The transfer so far, rewritten by the later signals of the row, is what is wanted.
use mathlib.Core.Path.{◌≡◌}
use lib.ListN.{drop}
use Rattle.master.specs.WriteRow.{rewritten_by}
use Rattle.master.proofs.state.Transfer.rewritten_by.Given as goal

abbrev pub invariant-loop-s : goal.invariant-loop-s
invariant-loop-s l = rewritten_by l.t.words.now l.signals l.initial.next ≡ rewritten_by l.t.words.now (drop l.s-index l.signals) l.next
