-- By cases of the current entry.
use Rattle.master.specs.Fits.{can_open}
use Rattle.master.proofs.state.Plan.can_open.Goals as goal

pub returns-in-None : goal.returns-in-None
unfolding can_open
returns-in-None c = rw (c.in-None.is, c.is_open.ensures)

pub returns-in-Some : goal.returns-in-Some
unfolding can_open
returns-in-Some c = rw (c.in-Some.is, c.of_entry.ensures)
