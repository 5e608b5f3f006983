-- Each way out has the tests that led to it, and what the calls answer is put in.
use Rattle.master.specs.Tick.{abandoned}
use Rattle.master.proofs.state.State.abandoned.Goals as goal

pub returns-then-is_open : goal.returns-then-is_open
unfolding abandoned
returns-then-is_open c = rw (← c.is_open.ensures, c.if-is_open.true) c.failed.ensures

pub returns : goal.returns
unfolding abandoned
returns c = rw (← c.is_open.ensures, c.if-is_open.false)
