-- Each turn gets one more byte.
use mathlib.Core.Path.{◌∙◌}
use native.Mathlib.Omega.{arith}
use Rattle.signal.specs.Signal.{get_array}
use Rattle.signal.proofs.Arrays.{gotten_none, gotten_all, get_turn}
use Rattle.signal.proofs.get_array.Goals as goal

pub loop-i-init : goal.loop-i-init
loop-i-init c = gotten_none _ _

pub loop-i-preserved : goal.loop-i-preserved
loop-i-preserved c =
    get_turn _ _ _ _ _ _ _ _ c.byte.ensures.place c.loop-i-test.true c.loop-i.invariant (rw c.byte.ensures.width at c.get.ensures)

pub returns : goal.returns
unfolding get_array
returns c = c.loop-i.invariant ∙ gotten_all _ _ _ (omega arith)
