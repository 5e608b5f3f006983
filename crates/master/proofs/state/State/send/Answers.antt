-- Each way out has the tests that led to it, and what the calls answer is put in.
use Rattle.std.proofs.Common.{◌∙◌, sym, ap, arith, Ok}
use Rattle.refusal.proofs.PassedOn.{passed_on}
use Rattle.master.specs.Answers.{handed}
use Rattle.master.specs.declared.state.Message.TheVariants.{Sending}
use Rattle.master.specs.State.{with_message}
use Rattle.master.specs.Message.{send_of}
use Rattle.master.proofs.Verdicts.{send_length}
use Rattle.master.proofs.ToldLaws.{send_told_lem}
use Rattle.master.proofs.state.State.send.Goals as goal

pub returns-in_err-judge_send : goal.returns-in_err-judge_send
unfolding send_of
returns-in_err-judge_send c =
    let a = c.args in
    let all =
    send_told_lem a.t.now a.self.now a.nad a.size (handed a.self.now c.from_residual.result)
    (ap (handed a.self.now) (passed_on _ _ c.from_residual.ensures.1) ∙ rw (← c.in_err-judge_send.ensures)) in
    record { value = all.0; told = all.1 }

pub overflow_cast-self : goal.overflow_cast-self
overflow_cast-self c =
    record { fits = omega (arith, send_length c.args.t.now c.args.self.now c.args.size (sym c.in_ok-judge_send.ensures)) }

pub returns : goal.returns
unfolding send_of
returns c =
    let a = c.args in
    let all =
    send_told_lem a.t.now a.self.now a.nad a.size (handed (with_message a.self.now (Sending (record { nad = a.nad; length = a.size; next = 0 }))) (Ok tt))
    (rw (← c.in_ok-judge_send.ensures)) in
    record { value = all.0; told = all.1 }
