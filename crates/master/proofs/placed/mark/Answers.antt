-- One bit more is set.
use Rattle.std.proofs.Common.{arith}
use Rattle.cluster.proofs.HeaderLaws.{frame_count_lem}
use Rattle.cluster.proofs.PlacementLaws.{placement_frame_below}
use Rattle.master.proofs.Marking.{marks_begin, marks_on, marks_end}
use Rattle.master.proofs.PlacedTurns.{all_left, one_less, none_left}
use Rattle.master.proofs.placed.mark.Goals as goal

pub loop-k-init : goal.loop-k-init
loop-k-init c =
    rw c.into_iter-k-iterator.ensures.into_iter_gives
    (all_left _ _ _ _ _ c.of_signal-k-items.ensures (marks_begin _ c.args.t.right _ _))

pub bounds-pending-frame : goal.bounds-pending-frame
bounds-pending-frame c =
    let ok = c.args.t.right in
    let step = c.in-Some.ensures.steps in
    let start = c.loop-k.k-iterator.start in
    let here = (c.loop-k.invariant.each start (omega arith) (omega (arith, step.1.0))).there in
    omega (arith, rw step.1.1 at c.frame.ensures, placement_frame_below _ ok start here, frame_count_lem _ ok)

pub loop-k-preserved : goal.loop-k-preserved
loop-k-preserved c =
    let at = c.loop-k in
    let step = c.in-Some.ensures.steps in
    rw (step.0, step.1.2)
    (one_less _ _ _ _ _ at.invariant _ (omega (arith, step.1.0))
    (λ w o. marks_on _ c.args.t.right _ _ _ at.pending w o _ (rw (c.frame.ensures, step.1.1))))

pub returns : goal.returns
returns c =
    let at = c.loop-k in
    marks_end _ c.args.t.right _ _ _ at.pending (none_left _ _ _ _ _ at.invariant c.in-None.ensures.steps.1.0) at.invariant.stop
