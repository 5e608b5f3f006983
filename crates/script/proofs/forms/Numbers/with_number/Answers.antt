-- A number for which there is no room is left out.
use Rattle.std.proofs.Common.{le-leb}
use borrow.Author.Tests.{lt-leb}
use Rattle.script.specs.Forms.{with_number}
use Rattle.script.proofs.forms.Numbers.with_number.Goals as goal

pub returns-then-at-ge-MOST : goal.returns-then-at-ge-MOST
unfolding with_number
returns-then-at-ge-MOST c = rw (le-leb 12 c.args.self.count c.if-at-ge-MOST.true)

pub returns : goal.returns
unfolding with_number
returns c = rw (lt-leb 12 c.args.self.count c.if-at-ge-MOST.false)
