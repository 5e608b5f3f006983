-- Each way out has the tests that led to it, and what the calls answer is put in.
use Rattle.std.proofs.Common.{◌∙◌, Ok}
use Rattle.refusal.proofs.PassedOn.{passed_on}
use Rattle.master.specs.Read.{read_array_of}
use Rattle.master.specs.Received.{array_from}
use Rattle.master.proofs.ToldLaws.{read_array_told}
use Rattle.master.proofs.state.State.read_array.Goals as goal

pub returns-in_err-t : goal.returns-in_err-t
unfolding read_array_of
returns-in_err-t c =
    let a = c.args in
    let all =
    read_array_told a.t.now a.self a.bytes.now a.s c.from_residual.result
    (passed_on _ _ c.from_residual.ensures.1 ∙ rw c.in_err-t.ensures) in
    record { value = all.0; told = all.1 }

pub returns-in-None : goal.returns-in-None
unfolding read_array_of array_from
returns-in-None c =
    let a = c.args in
    let t = c.in_ok-t.ensures in
    let all =
    read_array_told a.t.now a.self a.bytes.now a.s (Ok c.start_array.result)
    (rw (t.0, ← t.1, ← c.source.ensures, c.in-None.is, c.start_array.ensures)) in
    record { value = all.0; told = all.1 }

pub returns-in-Some : goal.returns-in-Some
unfolding read_array_of array_from
returns-in-Some c =
    let a = c.args in
    let t = c.in_ok-t.ensures in
    let all =
    read_array_told a.t.now a.self a.bytes.now a.s (Ok c.array_at.result)
    (rw (t.0, ← t.1, ← c.source.ensures, c.in-Some.is, c.array_at.ensures)) in
    record { value = all.0; told = all.1 }
