-- Each turn puts what one character more stands for.
use Rattle.std.proofs.Common.{arith, drop}
use Rattle.script.proofs.Putting.{puts_nothing, puts_then}
use Rattle.script.proofs.Patterns.{pattern_next, pattern_over}
use Rattle.script.proofs.print.by_pattern.Goals as goal

pub loop-c-preserved : goal.loop-c-preserved
loop-c-preserved c = record {
  size = omega (arith, c.shown-end.auto.out);
  rest = λ r after p.
      c.loop-c.invariant.rest r after
      (rw (
        pattern_next c.args.pattern.now (drop c.loop-c.place c.args.numbers.now) c.loop-c.c-index c.loop-c-test.true,
        ← c.number.ensures,
        ← c.next-place.ensures,
      ) (puts_then _ _ _ _ c.shown-end.ensures p));
}

pub returns : goal.returns
returns c =
    c.loop-c.invariant.rest _ _
    (rw (pattern_over c.args.pattern.now (drop c.loop-c.place c.args.numbers.now) c.loop-c.c-index c.loop-c-test.false) (puts_nothing _ _))
