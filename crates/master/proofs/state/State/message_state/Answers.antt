-- Each way out has the tests that led to it, and what the calls answer is put in.
use Rattle.std.proofs.Common.{◌∙◌, Ok}
use Rattle.refusal.proofs.PassedOn.{passed_on}
use Rattle.master.specs.Message.{message_of}
use Rattle.master.proofs.ToldLaws.{message_told_lem}
use Rattle.master.proofs.state.State.message_state.Goals as goal

pub returns-in_err-admit : goal.returns-in_err-admit
unfolding message_of
returns-in_err-admit c =
    let a = c.args in
    let all =
    message_told_lem a.t.now a.self (c.from_residual.result)
    (passed_on _ _ c.from_residual.ensures.1 ∙ rw (← c.buffer_size.ensures, ← c.in_err-admit.ensures.value)) in
    record { value = all.0; told = all.1 }

pub returns : goal.returns
unfolding message_of
returns c =
    let a = c.args in
    let all = message_told_lem a.t.now a.self (Ok c.into.result) (rw (← c.buffer_size.ensures, ← c.in_ok-admit.ensures.value, c.into.ensures)) in
    record { value = all.0; told = all.1 }
