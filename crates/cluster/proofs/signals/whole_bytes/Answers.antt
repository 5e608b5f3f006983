-- The tests are those of the definition.
use native.Mathlib.Omega.{arith}
use borrow.Author.Tests.{lt-leb, le-leb}
use Rattle.cluster.specs.Columns.{width_right}
use Rattle.cluster.proofs.signals.whole_bytes.Goals as goal
use Rattle.cluster.proofs.signals.whole_bytes.Goals.{then-width-ge8, else-width-ge8}

pub returns-then-width-le64 : goal.returns-then-width-le64
unfolding width_right
returns-then-width-le64 c = simp (le-leb 8 c.args.width (omega arith), le-leb c.args.width 64 (omega arith))

pub returns-else-width-le64 : goal.returns-else-width-le64
unfolding width_right
returns-else-width-le64 c =
    elim c.if-width-ge8.branch [
      | then-width-ge8 w ↦ simp (w.t-3-is, le-leb 8 c.args.width w.if-width-ge8.true, lt-leb c.args.width 64 (omega arith))
      | else-width-ge8 w ↦ simp (w.t-3-is, lt-leb 8 c.args.width w.if-width-ge8.false)
    ]
