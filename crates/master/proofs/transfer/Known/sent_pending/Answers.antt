-- The frame that is open is one of the table.
use Rattle.std.proofs.Common.{arith}
use Rattle.cluster.proofs.HeaderLaws.{frame_count_lem}
use Rattle.master.proofs.Admitted.{frame_below}
use Rattle.master.proofs.transfer.Known.sent_pending.Goals as goal

pub cleared-requires : goal.cleared-requires
cleared-requires c =
    let known = c.args.self in
    omega (arith, frame_below _ known.t.right c.in-Frame.f (rw c.in-Frame.is at known.there), frame_count_lem _ known.t.right)
