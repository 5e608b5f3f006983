-- The table is taken, and the rows are the answer.
use Rattle.std.proofs.Common.{sym, ◌∙◌, Ok, length}
use Rattle.refusal.proofs.PassedOn.{passed_on}
use Rattle.buslog.proofs.Reporting.{refuses, accepts}
use Rattle.buslog.proofs.AnswerLaws.{report_told_lem}
use Rattle.buslog.proofs.report.write.Goals as goal

pub returns-in_err-taken : goal.returns-in_err-taken
returns-in_err-taken c =
    let a = c.args in
    let out = a.out.now in
    let left = refuses a.t.now a.number a.text.now out _ c.in_err-taken.ensures.refused in
    let all = report_told_lem a.t.now a.number (length out) a.text.now out c.from_residual.result out
    (record { handed = passed_on _ _ c.from_residual.ensures.1 ∙ left.handed; left = left.left }) in
    record { leaves = all.0; told = all.1 }

pub returns : goal.returns
returns c =
    let a = c.args in
    let out = a.out.now in
    let all = report_told_lem a.t.now a.number (length out) a.text.now out (Ok c.rows.result) c.rows.new.out
    (accepts a.t.now a.number a.text.now out c.in_ok-taken.ensures.right (rw (sym c.in_ok-taken.ensures.words) c.rows.ensures)) in
    record { leaves = all.0; told = all.1 }
