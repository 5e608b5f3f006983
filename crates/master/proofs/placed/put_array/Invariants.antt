-- What is put from the start is what is put at the placements that are left.
use Rattle.cluster.specs.Values.{with_array_at, with_array}
use Rattle.master.proofs.PlacedTurns.{Left, Whole}
use Rattle.master.proofs.placed.put_array.Given as goal

abbrev pub invariant-loop-k : goal.invariant-loop-k
invariant-loop-k l =
    Left l.t.words.now l.s
    (Whole l.t.words.now l.s (λ m cs. with_array_at l.t.words.now cs m l.values) (with_array l.t.words.now l.fn.bytes l.s l.values) l.bytes)
    l.k-iterator.start l.k-iterator.end
