-- One placement more is seen: it stands in the frame, or none does so far.
use Rattle.std.proofs.Common.{sym, ◌∙◌, arith}
use Rattle.master.proofs.PlacedTurns.{all_left, one_less, none_left, touch_begins, touch_on, touch_ends, touch_found}
use Rattle.master.proofs.placed.touches.Goals as goal

pub loop-k-init : goal.loop-k-init
loop-k-init c =
    rw c.into_iter-k-iterator.ensures.into_iter_gives
    (all_left _ _ _ _ _ c.of_signal-k-items.ensures (touch_begins _ c.args.t.right _ _))

pub returns-then-frame-f : goal.returns-then-frame-f
returns-then-frame-f c =
    let step = c.in-Some.ensures.steps in
    let here = c.loop-k.invariant.each c.loop-k.k-iterator.start (omega arith) (omega (arith, step.1.0)) in
    touch_found _ c.args.t.right _ _ _ here (rw step.1.1 at (sym c.frame.ensures ∙ c.if-frame-f.true))

pub loop-k-preserved : goal.loop-k-preserved
loop-k-preserved c =
    let at = c.loop-k in
    let step = c.in-Some.ensures.steps in
    rw (step.0, step.1.2)
    (one_less _ _ _ _ _ at.invariant _ (omega (arith, step.1.0))
    (λ w o. touch_on _ c.args.t.right _ _ _ w o (λ e. c.if-frame-f.false (c.frame.ensures ∙ rw step.1.1 e))))

pub returns : goal.returns
returns c =
    let at = c.loop-k in
    touch_ends _ c.args.t.right _ _ _ (none_left _ _ _ _ _ at.invariant c.in-None.ensures.steps.1.0) at.invariant.stop
