-- Each way out has the tests that led to it, and what the calls answer is put in.
use Rattle.std.proofs.Common.{◌∙◌, ap, Ok}
use Rattle.refusal.proofs.PassedOn.{passed_on}
use Rattle.master.specs.Answers.{handed}
use Rattle.master.specs.State.{with_status}
use Rattle.master.specs.Status.{status_of}
use Rattle.master.proofs.ToldLaws.{status_told_lem}
use Rattle.master.proofs.state.State.read_status.Goals as goal

pub returns-in_err-admit : goal.returns-in_err-admit
unfolding status_of
returns-in_err-admit c =
    let a = c.args in
    let all =
    status_told_lem a.t.now a.self.now (handed a.self.now c.from_residual.result)
    (ap (handed a.self.now) (passed_on _ _ c.from_residual.ensures.1) ∙ rw (← c.buffer_size.ensures, ← c.in_err-admit.ensures.value)) in
    record { value = all.0; told = all.1 }

pub returns : goal.returns
unfolding status_of
returns c =
    let a = c.args in
    let all =
    status_told_lem a.t.now a.self.now (handed (with_status a.self.now c.none-self.result) (Ok c.word-word.result))
    (rw (← c.buffer_size.ensures, ← c.in_ok-admit.ensures.value, c.word-word.ensures, c.none-self.ensures)) in
    record { value = all.0; told = all.1 }
