-- Each way out has the tests that led to it, and what the calls answer is put in.
use Rattle.std.proofs.Common.{◌∙◌, arith, Ok}
use Rattle.refusal.proofs.PassedOn.{passed_on}
use Rattle.cluster.specs.Lists.{frames_ahead}
use Rattle.master.specs.Ahead.{ahead_of}
use Rattle.master.proofs.Verdicts.{ahead_member}
use Rattle.master.proofs.ToldLaws.{ahead_told_lem}
use Rattle.master.proofs.state.State.number_ahead.Goals as goal

pub returns-in_err-t : goal.returns-in_err-t
unfolding ahead_of frames_ahead
returns-in_err-t c =
    let a = c.args in
    let all = ahead_told_lem a.t.now a.self a.f c.from_residual.result (passed_on _ _ c.from_residual.ensures.1 ∙ rw c.in_err-t.ensures) in
    record { value = all.0; told = all.1 }

pub count-requires : goal.count-requires
count-requires c =
    let t = c.in_ok-t.ensures in
    omega (arith, c.of_frame-m.ensures, rw (← t.1) at (ahead_member _ _ _ t.0))

pub returns : goal.returns
unfolding ahead_of frames_ahead
returns c =
    let a = c.args in
    let t = c.in_ok-t.ensures in
    let all =
    ahead_told_lem a.t.now a.self a.f (Ok c.count.result)
    (rw (t.0, ← t.1, c.count.ensures, c.list-list.ensures, c.of_frame-m.ensures)) in
    record { value = all.0; told = all.1 }
