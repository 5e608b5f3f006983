-- The tests are those of the definition.
use borrow.Author.Tests.{lt-leb, le-leb}
use Rattle.cluster.specs.Columns.{width_right}
use Rattle.cluster.proofs.signals.width_right.Goals as goal

pub returns-then-width-ge1 : goal.returns-then-width-ge1
unfolding width_right
returns-then-width-ge1 c = simp (c.if-array.false, le-leb 1 _ c.if-width-ge1.true)

pub returns-else-width-ge1 : goal.returns-else-width-ge1
unfolding width_right
returns-else-width-ge1 c = simp (c.if-array.false, lt-leb 1 _ c.if-width-ge1.false)
