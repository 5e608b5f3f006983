-- So many bytes were put.
use native.Mathlib.Omega.{arith}
use borrow.Author.Rules.{rules}
use lib.ListN.{get_or}
use Rattle.desk.specs.Put.{with_nine}
use Rattle.desk.proofs.Filling.{put_none, put_next, put_all}
use Rattle.desk.proofs.state.put_nine.Goals as goal

pub loop-i-init : goal.loop-i-init
unfolding with_nine
loop-i-init c = put_none _ _ _

pub loop-i-preserved : goal.loop-i-preserved
unfolding with_nine
loop-i-preserved c = put_next (λ k. get_or c.args.bytes.now k 0) 65 c.args.desk.now _ _ _ c.loop-i.invariant (search rules)

pub returns : goal.returns
unfolding with_nine
returns c = put_all (λ k. get_or c.args.bytes.now k 0) 65 c.args.desk.now (omega arith) c.loop-i.invariant
