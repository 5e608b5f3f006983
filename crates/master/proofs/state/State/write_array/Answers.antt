-- Each way out has the tests that led to it, and what the calls answer is put in.
use Rattle.std.proofs.Common.{◌∙◌, ap, Ok}
use Rattle.refusal.proofs.PassedOn.{passed_on}
use Rattle.master.specs.Answers.{handed}
use Rattle.master.specs.Put.{put, array}
use Rattle.master.specs.Write.{write_of}
use Rattle.master.proofs.ToldLaws.{write_told_lem}
use Rattle.master.proofs.state.State.write_array.Goals as goal

pub returns-in_err-t : goal.returns-in_err-t
unfolding write_of
returns-in_err-t c =
    let a = c.args in
    let refused = rw c.array_fits.ensures at c.in_err-t.ensures in
    let all =
    write_told_lem a.t.now a.self.now a.bytes.now (put a.s (array a.values.now)) (handed a.self.now c.from_residual.result) a.bytes.now
    (record { handed = ap (handed a.self.now) (passed_on _ _ c.from_residual.ensures.1) ∙ rw refused; kept = rw refused }) in
    record { leaves = all.0; told = all.1 }

pub returns : goal.returns
unfolding write_of
returns c =
    let a = c.args in
    let accepted = rw c.array_fits.ensures at c.in_ok-t.ensures.0 in
    let all =
    write_told_lem a.t.now a.self.now a.bytes.now (put a.s (array a.values.now)) (handed c.marked.result (Ok tt)) c.put_array.new.bytes
    (record { handed = rw (accepted, ← c.in_ok-t.ensures.1, c.marked.ensures); kept = rw (accepted, ← c.in_ok-t.ensures.1) c.put_array.ensures }) in
    record { leaves = all.0; told = all.1 }
