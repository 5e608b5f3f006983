-- The bits of the frames of the placements before are set.
use Rattle.master.proofs.Marking.{Set}
use Rattle.master.proofs.PlacedTurns.{Left}
use Rattle.master.proofs.placed.mark.Given as goal

abbrev pub invariant-loop-k : goal.invariant-loop-k
invariant-loop-k l = Left l.t.words.now l.s (λ m. Set l.t.words.now l.s m l.fn.pending l.pending) l.k-iterator.start l.k-iterator.end
