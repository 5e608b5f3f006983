-- Each turn reports one line more, until the room or the text ends.
use Rattle.std.proofs.Common.{refl, arith}
use Rattle.buslog.proofs.Fronting.{behind_within}
use Rattle.buslog.proofs.Reporting.{begun, full, ended, one_more}
use Rattle.buslog.proofs.report.rows.Goals as goal

pub loop-out-init : goal.loop-out-init
loop-out-init c = begun _ _ _ _

pub returns-then-end-text : goal.returns-then-end-text
returns-then-end-text c = rw c.reported_so_far.ensures (ended _ _ _ _ _ _ _ _ c.loop-out.invariant _ c.find-end.ensures.index c.if-end-text.true)

pub overflow_add-put : goal.overflow_add-put
overflow_add-put c =
    omega (arith, behind_within _ c.loop-out.out c.loop-out.put (omega arith) c.put-put.ensures c.put-put.auto.out)

pub loop-out-preserved : goal.loop-out-preserved
loop-out-preserved c =
    one_more _ _ _ _ _ _ _ _ c.loop-out.invariant _
    c.find-end.ensures.index
    (omega (arith, c.find-end.ensures.at_most (omega arith)))
    (omega (arith, c.loop-out.invariant.size)) _ _ _ _ _
    c.of_line-verdict.ensures refl
    c.put-put.ensures c.put-put.auto.out refl

pub returns : goal.returns
returns c = rw c.reported_so_far-2.ensures (full _ _ _ _ _ _ _ _ c.loop-out.invariant (omega arith))
