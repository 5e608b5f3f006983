-- No frame passed yet.
use native.Mathlib.Omega.{arith}
use borrow.Author.Tests.{leb-true}
use Rattle.cluster.proofs.FrameTurn.{none_passed}
use Rattle.cluster.proofs.frames.judge.Goals as goal

pub judge-requires : goal.judge-requires
judge-requires c = (c.count-n.ensures, none_passed _ _ c.args.table.limits (λ e. omega (arith, leb-true _ _ e, c.count-n.ensures)))
