-- Each way out has the tests that led to it, and what the calls answer is put in.
use Rattle.std.proofs.Common.{◌∙◌, ap, length, arith, Ok}
use Rattle.refusal.proofs.PassedOn.{passed_on}
use Rattle.master.specs.Answers.{handed}
use Rattle.master.specs.Put.{put, scalar}
use Rattle.master.specs.Write.{write_of}
use Rattle.master.proofs.ToldLaws.{write_told_lem}
use Rattle.master.proofs.Verdicts.{write_value_below}
use Rattle.master.proofs.state.State.write.Goals as goal

pub returns-in_err-t : goal.returns-in_err-t
unfolding write_of
returns-in_err-t c =
    let a = c.args in
    let refused = rw c.scalar_fits.ensures at c.in_err-t.ensures in
    let all =
    write_told_lem a.t.now a.self.now a.bytes.now (put a.s (scalar a.v)) (handed a.self.now c.from_residual.result) a.bytes.now
    (record { handed = ap (handed a.self.now) (passed_on _ _ c.from_residual.ensures.1) ∙ rw refused; kept = rw refused }) in
    record { leaves = all.0; told = all.1 }

pub overflow_cast-v : goal.overflow_cast-v
overflow_cast-v c =
    let a = c.args in
    let accepted = rw c.scalar_fits.ensures at c.in_ok-t.ensures.0 in
    record { fits = omega (arith, write_value_below a.t.now (length a.bytes.now) a.self.now a.s a.v accepted) }

pub returns : goal.returns
unfolding write_of
returns c =
    let a = c.args in
    let accepted = rw c.scalar_fits.ensures at c.in_ok-t.ensures.0 in
    let all =
    write_told_lem a.t.now a.self.now a.bytes.now (put a.s (scalar a.v)) (handed c.marked.result (Ok tt)) c.put_scalar.new.bytes
    (record { handed = rw (accepted, ← c.in_ok-t.ensures.1, c.marked.ensures); kept = rw (accepted, ← c.in_ok-t.ensures.1) c.put_scalar.ensures }) in
    record { leaves = all.0; told = all.1 }
