-- Each way out has the tests that led to it, and what the calls answer is put in.
use Rattle.std.proofs.Common.{◌∙◌, ap, Ok}
use Rattle.refusal.proofs.PassedOn.{passed_on}
use Rattle.master.specs.Answers.{handed}
use Rattle.master.specs.State.{with_plan}
use Rattle.master.specs.Select.{select_of}
use Rattle.master.proofs.ToldLaws.{select_told_lem}
use Rattle.master.proofs.state.State.select.Goals as goal

pub returns-in_err-judge_select : goal.returns-in_err-judge_select
unfolding select_of
returns-in_err-judge_select c =
    let a = c.args in
    let all =
    select_told_lem a.t.now a.self.now a.n (handed a.self.now c.from_residual.result)
    (ap (handed a.self.now) (passed_on _ _ c.from_residual.ensures.1) ∙ rw (← c.in_err-judge_select.ensures)) in
    record { value = all.0; told = all.1 }

pub returns : goal.returns
unfolding select_of
returns c =
    let a = c.args in
    let all =
    select_told_lem a.t.now a.self.now a.n (handed (with_plan a.self.now c.asking-self.result) (Ok tt))
    (rw (← c.in_ok-judge_select.ensures, c.asking-self.ensures)) in
    record { value = all.0; told = all.1 }
