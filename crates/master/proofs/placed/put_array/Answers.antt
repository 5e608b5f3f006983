-- One placement more is put.
use Rattle.std.proofs.Common.{refl, ◌∙◌, arith}
use Rattle.cluster.specs.Values.{with_array}
use Rattle.master.proofs.PlacedTurns.{all_left, one_less, none_left, each_begins, each_on, each_ends}
use Rattle.master.proofs.placed.put_array.Goals as goal

pub loop-k-init : goal.loop-k-init
unfolding with_array
loop-k-init c =
    rw c.into_iter-k-iterator.ensures.into_iter_gives
    (all_left _ _ _ _ _ c.of_signal-k-items.ensures (each_begins _ c.args.t.right _ _ _ _ refl))

pub loop-k-preserved : goal.loop-k-preserved
loop-k-preserved c =
    let at = c.loop-k in
    let step = c.in-Some.ensures.steps in
    rw (step.0, step.1.2)
    (one_less _ _ _ _ _ at.invariant _ (omega (arith, step.1.0))
    (λ w o. each_on _ c.args.t.right _ _ _ _ at.bytes _ w o (c.put_array_at.ensures ∙ rw step.1.1)))

pub returns : goal.returns
returns c =
    let at = c.loop-k in
    let rest = at.k-iterator in
    each_ends _ c.args.t.right _ _ _ rest.end at.bytes
    (none_left _ _ _ rest.start rest.end at.invariant c.in-None.ensures.steps.1.0) at.invariant.stop
