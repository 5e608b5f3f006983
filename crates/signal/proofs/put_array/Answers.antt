-- Each turn puts one more byte.
use mathlib.Core.Path.{◌≡◌, sym, ◌∙◌}
use native.Mathlib.Omega.{arith}
use lib.ListN.{length}
use Rattle.signal.specs.Signal.{put_array}
use Rattle.signal.proofs.Arrays.{put_turn}
use Rattle.signal.proofs.PutBits.{put_none}
use Rattle.signal.proofs.put_array.Goals as goal

pub loop-i-init : goal.loop-i-init
loop-i-init c = sym (put_none _ _ _ (λ i. (c.type_inv.bytes i).fits))

pub loop-i-preserved : goal.loop-i-preserved
loop-i-preserved c =
    put_turn _ _ _ _ _ _ _ _ c.byte.ensures.place c.loop-i.invariant (rw c.byte.ensures.width at c.put.ensures)

pub returns : goal.returns
unfolding put_array
returns c = let e : c.loop-i.i ≡ length c.args.values.now = omega arith in c.loop-i.invariant ∙ rw e
