-- The definition is opened, with what the call answers put in.
use Rattle.master.specs.Fits.{wait_fits}
use Rattle.master.proofs.state.Plan.wait_fits.Goals as goal

pub returns : goal.returns
unfolding wait_fits
returns c = rw c.delay.ensures
