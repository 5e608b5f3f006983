-- A member's frame has a pending bit.
use Rattle.std.proofs.Common.{arith}
use Rattle.cluster.proofs.HeaderLaws.{frame_count_lem}
use Rattle.cluster.proofs.MemberLaws.{member_frame_below}
use Rattle.master.proofs.pending.PendingList.has_pending.Goals as goal

pub bounds-self-frame : goal.bounds-self-frame
bounds-self-frame c =
    let a = c.args in
    omega (arith, c.frame-frame.ensures, member_frame_below _ a.self.t.right a.m c.requires, frame_count_lem _ a.self.t.right)
