-- The table is taken, and the verdict on the line is the answer.
use Rattle.std.proofs.Common.{ap, ◌∙◌}
use Rattle.std.specs.declared.result.Result.TheVariants as result
use Rattle.refusal.proofs.PassedOn.{passed_on}
use Rattle.buslog.specs.Verdict.{line_verdict}
use Rattle.buslog.proofs.Judging.{judge_refused, judge_accepted}
use Rattle.buslog.proofs.AnswerLaws.{judge_told_lem}
use Rattle.buslog.proofs.judge.judge.Goals as goal

pub returns-in_err-taken : goal.returns-in_err-taken
returns-in_err-taken c =
    let a = c.args in
    let all = judge_told_lem a.t.now a.line.now c.from_residual.result
    (passed_on _ _ c.from_residual.ensures.1 ∙ judge_refused a.t.now a.line.now _ c.in_err-taken.ensures.refused) in
    record { value = all.0; told = all.1 }

pub returns : goal.returns
returns c =
    let a = c.args in
    let same = ap (λ t. line_verdict t a.line.now) c.in_ok-taken.ensures.words in
    let all = judge_told_lem a.t.now a.line.now (result.Ok c.of_line.result)
    (judge_accepted a.t.now a.line.now _ c.in_ok-taken.ensures.right (c.of_line.ensures ∙ same)) in
    record { value = all.0; told = all.1 }
