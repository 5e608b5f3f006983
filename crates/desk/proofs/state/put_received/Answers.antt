-- So many were put.
use native.Mathlib.Omega.{arith}
use lib.ListN.{get_or}
use Rattle.master.specs.Fresh.{never_received}
use Rattle.desk.specs.Put.{number, with_received}
use Rattle.desk.proofs.Filling.{put_none, put_next, put_all}
use Rattle.desk.proofs.state.put_received.Goals as goal

pub loop-s-init : goal.loop-s-init
loop-s-init c = put_none _ _ _

pub loop-s-preserved : goal.loop-s-preserved
loop-s-preserved c = let loop = c.loop-s in
    put_next (λ i. number (get_or c.args.received.now i never_received).last) 128 c.args.desk.now _ loop.s _ loop.invariant c.number.ensures

pub returns : goal.returns
unfolding with_received
returns c = put_all (λ i. number (get_or c.args.received.now i never_received).last) 128 c.args.desk.now (omega arith) c.loop-s.invariant
