-- The next number, or the same one.
use borrow.Author.Tests.{eq-eqb}
use Rattle.cluster.proofs.Counting.{follows_next, follows_same}
use Rattle.cluster.proofs.table.follows.Goals as goal

pub returns-then-number-count : goal.returns-then-number-count
returns-then-number-count c = rw (eq-eqb _ _ c.if-number-count.true) (follows_next _ _ c.if-number-count.true)

pub returns-else-number-count : goal.returns-else-number-count
returns-else-number-count c = follows_same _ _ c.if-number-count.false
