-- The two tests are those of the definition.
use borrow.Author.Tests.{le-leb, lt-leb}
use Rattle.timing.specs.Slots.{time_right}
use Rattle.timing.proofs.time_right.Goals as goal

pub returns-then-x-ge1 : goal.returns-then-x-ge1
unfolding time_right
returns-then-x-ge1 c = rw (le-leb 1 c.args.x c.if-x-ge1.true)

pub returns-else-x-ge1 : goal.returns-else-x-ge1
unfolding time_right
returns-else-x-ge1 c = rw (lt-leb 1 c.args.x c.if-x-ge1.false)
