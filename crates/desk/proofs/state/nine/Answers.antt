-- So many bytes were taken.
use Prim.Native.Nat.{◌+◌}
use mathlib.Core.Path.{refl}
use native.Mathlib.Omega.{arith}
use lib.ListN.{length-set}
use Rattle.desk.specs.Taken.{byte_at, nine_on}
use Rattle.desk.proofs.Filling.{taken_none, taken_next, taken_all}
use Rattle.desk.proofs.state.nine.Goals as goal

pub loop-i-init : goal.loop-i-init
unfolding nine_on
loop-i-init c = (refl, taken_none _)

pub loop-i-preserved : goal.loop-i-preserved
unfolding nine_on
loop-i-preserved c = (simp length-set c.loop-i.invariant.0, taken_next (λ k. byte_at c.args.desk.now (65 + k)) _ _ _ (omega arith) c.loop-i.invariant.1 c.byte.ensures)

pub returns : goal.returns
unfolding nine_on
returns c = taken_all (λ k. byte_at c.args.desk.now (65 + k)) _ _ _ (omega arith) (omega arith) c.loop-i.invariant.1
