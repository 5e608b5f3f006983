-- The start values of the first k placements are put.
use mathlib.Core.Path.{◌≡◌}
use native.Mathlib.Omega.{arith}
use lib.ListN.{length}
use Rattle.cluster.specs.Table.{placement_count}
use Rattle.cluster.proofs.Filling.{filled_none, filled_turn, filled_same, filled_all}
use Rattle.cluster.proofs.fresh.fill.Goals as goal

pub loop-k-init : goal.loop-k-init
loop-k-init c =
    let size = length c.args.bytes.now in
    filled_none _ _ size (c.fill.ensures.after (λ y h. h))

pub loop-k-preserved : goal.loop-k-preserved
loop-k-preserved c = filled_turn _ _ _ _ _ c.loop-k.invariant c.put_start.ensures

pub shape_of-bytes : goal.shape_of-bytes
shape_of-bytes c = filled_same _ _ _ _ _ (c.fill.ensures.after (λ y h. h)) c.loop-k.invariant

pub returns : goal.returns
returns c =
    let e : c.loop-k.k ≡ placement_count c.args.t.now = omega arith in
    filled_all _ _ _ _ _ e (c.fill.ensures.after (λ y h. h)) c.loop-k.invariant
