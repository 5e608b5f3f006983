-- The second row is read where the first is right.
use Rattle.script.proofs.TwoRows.{reads_wrong, reads_both}
use Rattle.script.proofs.rows.read.Goals as goal

pub returns-in_err-row : goal.returns-in_err-row
returns-in_err-row c = rw c.from_residual.ensures (reads_wrong _ _ _ _ c.in_err-row.ensures)

pub returns-in_err-count : goal.returns-in_err-count
returns-in_err-count c = rw c.from_residual-in_err-count.ensures (reads_both _ _ _ _ c.in_ok-row.ensures c.in_err-count.ensures)

pub returns : goal.returns
returns c = reads_both _ _ _ _ c.in_ok-row.ensures c.in_ok-count.ensures
