-- Each way out has the tests that led to it, and what the calls answer is put in.
use Rattle.master.specs.Tick.{opens_or_silent}
use Rattle.master.proofs.state.State.open.Goals as goal

pub returns-then-not-is_open : goal.returns-then-not-is_open
unfolding opens_or_silent
returns-then-not-is_open c = rw (← c.is_open.ensures, c.if-not-is_open.true)

pub returns : goal.returns
unfolding opens_or_silent
returns c = rw (← c.is_open.ensures, c.if-not-is_open.false, c.with_transfer-next.ensures, c.protected.ensures, c.transfer.ensures)
