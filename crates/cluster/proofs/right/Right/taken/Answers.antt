-- A table that is taken is one that the check accepts.
use Rattle.std.proofs.Common.{sym}
use Rattle.cluster.proofs.TakenLaws.{taken_right}
use Rattle.cluster.proofs.right.Right.taken.Goals as goal

pub invariant_of-result : goal.invariant_of-result
invariant_of-result c = record { right = taken_right _ (sym c.in_ok-taken.ensures.value) }
