-- No member passed yet.
use Rattle.cluster.proofs.MemberTurn.{none_passed}
use Rattle.cluster.proofs.members.judge.Goals as goal

pub judge-requires : goal.judge-requires
judge-requires c = (c.count.ensures, none_passed _ _ c.args.table.limits c.args.table.before c.member_at.ensures.value)
