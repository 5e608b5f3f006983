-- Each way out has the tests that led to it, and what the calls answer is put in.
use Rattle.std.proofs.Common.{◌∙◌, Ok}
use Rattle.refusal.proofs.PassedOn.{passed_on}
use Rattle.master.specs.Read.{read_scalar_of}
use Rattle.master.specs.Received.{scalar_from}
use Rattle.master.proofs.ToldLaws.{read_told_lem}
use Rattle.master.proofs.state.State.read.Goals as goal

pub returns-in_err-t : goal.returns-in_err-t
unfolding read_scalar_of
returns-in_err-t c =
    let a = c.args in
    let all =
    read_told_lem a.t.now a.self a.bytes.now a.s c.from_residual.result
    (passed_on _ _ c.from_residual.ensures.1 ∙ rw c.in_err-t.ensures) in
    record { value = all.0; told = all.1 }

pub returns-in-None : goal.returns-in-None
unfolding read_scalar_of scalar_from
returns-in-None c =
    let a = c.args in
    let t = c.in_ok-t.ensures in
    let all =
    read_told_lem a.t.now a.self a.bytes.now a.s (Ok c.start.result)
    (rw (t.0, ← t.1, ← c.source.ensures, c.in-None.is, c.start.ensures)) in
    record { value = all.0; told = all.1 }

pub returns-in-Some : goal.returns-in-Some
unfolding read_scalar_of scalar_from
returns-in-Some c =
    let a = c.args in
    let t = c.in_ok-t.ensures in
    let all =
    read_told_lem a.t.now a.self a.bytes.now a.s (Ok c.scalar_at.result)
    (rw (t.0, ← t.1, ← c.source.ensures, c.in-Some.is, c.scalar_at.ensures)) in
    record { value = all.0; told = all.1 }
