-- None of the placements before is one of the signal in the frame.
use Rattle.master.proofs.PlacedTurns.{Left, Unmet}
use Rattle.master.proofs.placed.touches.Given as goal

abbrev pub invariant-loop-k : goal.invariant-loop-k
invariant-loop-k l = Left l.t.words.now l.s (Unmet l.t.words.now l.s l.f) l.k-iterator.start l.k-iterator.end
