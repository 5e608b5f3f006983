-- The placements before are received.
use mathlib.Core.Path.{refl, sym, ◌∙◌}
use native.Mathlib.Omega.{arith}
use Rattle.cluster.proofs.HeaderLaws.{signal_count_lem}
use Rattle.cluster.proofs.PlacementLaws.{placement_signal_below}
use Rattle.master.specs.Received.{received_up_to}
use Rattle.master.proofs.ReceivedSteps.{up_to_here, up_to_not}
use Rattle.master.proofs.received.received_in.Goals.{then-frame-f, else-frame-f}
use Rattle.master.proofs.received.received_in.Goals as goal

pub loop-k-init : goal.loop-k-init
unfolding received_up_to
loop-k-init c = refl

pub bounds-next-s : goal.bounds-next-s
bounds-next-s c =
    let ok = c.args.t.right in
    let below = placement_signal_below _ ok c.loop-k.k (omega (arith, c.count-n.ensures, c.loop-k-test.true)) in
    omega (arith, c.signal-s.ensures, below, signal_count_lem _ ok)

pub loop-k-preserved : goal.loop-k-preserved
loop-k-preserved c =
    let at = c.loop-k in
    let is = c.frame.ensures in
    elim c.if-frame-f.branch [
      | then-frame-f w ↦ rw (w.next-is, w.signal-s.ensures) (up_to_here _ _ at.k _ _ at.invariant (sym is ∙ w.if-frame-f.true))
      | else-frame-f w ↦ rw w.next-is (up_to_not _ _ at.k _ _ at.invariant (λ e. w.if-frame-f.false (is ∙ e)))
    ]
