-- Each way out has the tests that led to it, and what the calls answer is put in.
use Rattle.std.proofs.Common.{◌∙◌, ap, Ok}
use Rattle.refusal.proofs.PassedOn.{passed_on}
use Rattle.master.specs.Answers.{handed}
use Rattle.master.specs.WriteRow.{row_of}
use Rattle.master.proofs.RowTold.{row_told_lem}
use Rattle.master.proofs.RowTurns.{row_knows}
use Rattle.master.proofs.state.State.write_row.Goals as goal

pub returns-in_err-t : goal.returns-in_err-t
unfolding row_of
returns-in_err-t c =
    let a = c.args in
    let all =
    row_told_lem a.t.now a.self.now a.bytes.now a.signals.now a.values.now (handed a.self.now c.from_residual.result) a.bytes.now
    (record {
      handed = ap (handed a.self.now) (passed_on _ _ c.from_residual.ensures.1) ∙ rw c.in_err-t.ensures;
      kept = rw c.in_err-t.ensures;
    }) in
    record { leaves = all.0; told = all.1 }

pub put-requires : goal.put-requires
put-requires c = rw c.in_ok-t.ensures.1 (row_knows _ _ _ _ _ c.in_ok-t.ensures.0).good

pub returns : goal.returns
unfolding row_of
returns c =
    let a = c.args in
    let t = c.in_ok-t.ensures in
    let all =
    row_told_lem a.t.now a.self.now a.bytes.now a.signals.now a.values.now (handed c.marked_row.result (Ok tt)) c.put.new.bytes
    (record { handed = rw (t.0, ← t.1, c.marked_row.ensures); kept = rw (t.0, ← t.1) c.put.ensures }) in
    record { leaves = all.0; told = all.1 }
