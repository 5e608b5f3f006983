-- So many bits were put.
use mathlib.Core.Bool.{false}
use native.Mathlib.Omega.{arith}
use borrow.Author.Rules.{rules}
use lib.ListN.{get_or}
use Rattle.desk.specs.Put.{bit, with_pending}
use Rattle.desk.proofs.Filling.{put_none, put_next_first, put_all}
use Rattle.desk.proofs.state.put_pending.Goals as goal

pub loop-f-init : goal.loop-f-init
unfolding with_pending
loop-f-init c = put_none _ _ _

pub loop-f-preserved : goal.loop-f-preserved
unfolding with_pending
loop-f-preserved c = put_next_first (λ k. bit (get_or c.args.pending.now k false)) c.args.desk.now _ _ _ c.loop-f.invariant (search rules)

pub returns : goal.returns
unfolding with_pending
returns c = put_all (λ k. bit (get_or c.args.pending.now k false)) 0 c.args.desk.now (omega arith) c.loop-f.invariant
