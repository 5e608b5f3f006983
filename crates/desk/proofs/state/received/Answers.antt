-- So many were taken.
use native.Mathlib.Omega.{arith}
use lib.ListN.{length-set}
use Rattle.desk.specs.Taken.{received_on}
use Rattle.desk.proofs.Filling.{taken_none, taken_next, taken_all}
use borrow.Author.Rules.{rules}
use Rattle.desk.proofs.state.received.Invariants.{on}
use Rattle.desk.proofs.state.received.Goals as goal

pub loop-s-init : goal.loop-s-init
loop-s-init c = (search rules, taken_none _)

pub loop-s-preserved : goal.loop-s-preserved
loop-s-preserved c = let loop = c.loop-s in
    (simp length-set loop.invariant.0, taken_next (on c.args.desk.now) _ _ _ (omega arith) loop.invariant.1 (search rules))

pub returns : goal.returns
unfolding received_on
returns c = taken_all (on c.args.desk.now) _ _ _ (omega arith) (omega arith) c.loop-s.invariant.1
