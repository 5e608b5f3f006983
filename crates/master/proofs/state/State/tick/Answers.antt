-- Each way out has the tests that led to it, and what the calls answer is put in.
use Rattle.std.proofs.Common.{Ok, Err}
use Rattle.master.specs.Answers.{handed}
use Rattle.master.specs.declared.tick.TickAnswer.TheVariants.{Waiting}
use Rattle.master.specs.Tick.{tick_of, tick_effect}
use Rattle.master.proofs.ToldLaws.{tick_told_lem}
use Rattle.master.proofs.state.State.tick.Goals as goal

pub returns-in-Err : goal.returns-in-Err
unfolding tick_of tick_effect
returns-in-Err c =
    let a = c.args in
    let all = tick_told_lem a.t.now a.bytes.now a.lent.now a.self (handed a.self (Err c.in-Err.refusal)) (rw c.in-Err.ensures) in
    record { value = all.0; told = all.1 }

pub returns-then-waits : goal.returns-then-waits
unfolding tick_of tick_effect
returns-then-waits c =
    let a = c.args in
    let all =
    tick_told_lem a.t.now a.bytes.now a.lent.now a.self (handed c.with_plan.result (Ok Waiting))
    (rw (c.in-Ok.ensures.0, ← c.waits.ensures, c.if-waits.true, c.with_plan.ensures, c.waited.ensures)) in
    record { value = all.0; told = all.1 }

pub slot-answer-requires : goal.slot-answer-requires
slot-answer-requires c = rw c.in-Ok.ensures.1 c.in-Ok.ensures.0

pub returns : goal.returns
unfolding tick_of tick_effect
returns c =
    let a = c.args in
    let t = c.in-Ok.ensures in
    let all =
    tick_told_lem a.t.now a.bytes.now a.lent.now a.self (handed c.slot-answer.result.0 (Ok c.slot-answer.result.1))
    (rw (t.0, ← t.1, ← c.waits.ensures, c.if-waits.false) c.slot-answer.ensures) in
    record { value = all.0; told = all.1 }
