-- The line is what the bytes of the pairs passed and the rest make of it.
use Rattle.buslog.proofs.Reading.{LeftPairs}
use Rattle.buslog.proofs.pairs.read.Given as goal

abbrev pub invariant-loop-part : goal.invariant-loop-part
invariant-loop-part l = LeftPairs l.line l.part-iterator.rest.now l.part-iterator.size l.bytes.items
