-- Each turn puts one byte more.
use Rattle.std.proofs.Common.{arith}
use Rattle.script.proofs.Putting.{puts_nothing, puts_then}
use Rattle.script.proofs.Patterns.{pairs_next, pairs_over}
use Rattle.script.proofs.print.pairs.Goals as goal

pub loop-byte-preserved : goal.loop-byte-preserved
loop-byte-preserved c = record {
  size = omega (arith, c.spaced-end.auto.out);
  rest = λ r after p.
      c.loop-byte.invariant.rest r after
      (rw (pairs_next c.args.bytes.now c.loop-byte.byte-index c.loop-byte-test.true) (puts_then _ _ _ _ c.spaced-end.ensures p));
}

pub returns : goal.returns
returns c =
    c.loop-byte.invariant.rest _ _ (rw (pairs_over c.args.bytes.now c.loop-byte.byte-index c.loop-byte-test.false) (puts_nothing _ _))
