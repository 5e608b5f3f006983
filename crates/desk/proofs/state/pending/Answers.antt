-- So many bits were taken.
use mathlib.Core.Path.{refl}
use native.Mathlib.Omega.{arith}
use lib.ListN.{length-set}
use Rattle.desk.specs.Taken.{is_set, pending_on}
use Rattle.desk.proofs.Filling.{taken_none, taken_next, taken_all}
use Rattle.desk.proofs.state.pending.Goals as goal

pub loop-f-init : goal.loop-f-init
unfolding pending_on
loop-f-init c = (refl, taken_none _)

pub loop-f-preserved : goal.loop-f-preserved
unfolding pending_on
loop-f-preserved c = (simp length-set c.loop-f.invariant.0, taken_next (is_set c.args.desk.now) _ _ _ (omega arith) c.loop-f.invariant.1 refl)

pub returns : goal.returns
unfolding pending_on
returns c = taken_all (is_set c.args.desk.now) _ _ _ (omega arith) (omega arith) c.loop-f.invariant.1
