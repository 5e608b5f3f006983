-- By cases of the judgement; a position is small enough for the low sixteen bits.
use Rattle.std.proofs.Common.{sym, ◌∙◌, arith}
use Rattle.timing.proofs.JudgeExactly.{refused_high}
use Rattle.host.specs.Coded.{judge_coded}
use Rattle.host.proofs.lin_judge.Goals as goal

pub placed-requires : goal.placed-requires
placed-requires c = omega (arith, refused_high _ _ _ _ (sym c.in-Err.ensures.value))

pub returns-in-Ok-None : goal.returns-in-Ok-None
unfolding judge_coded
returns-in-Ok-None c = rw (sym c.in-Ok-None.ensures.value, c.in-Ok-None.field-0-is)

pub returns-in-Ok-Some : goal.returns-in-Ok-Some
unfolding judge_coded
returns-in-Ok-Some c = rw (sym c.in-Ok-Some.ensures.value, c.in-Ok-Some.field-0-is) (omega arith)

pub returns-in-Err : goal.returns-in-Err
unfolding judge_coded
returns-in-Err c = rw (sym c.in-Err.ensures.value) (c.placed.ensures ∙ omega arith)
