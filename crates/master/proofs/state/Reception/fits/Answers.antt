-- By cases of the reception.
use Rattle.master.specs.Received.{last_fits}
use Rattle.master.proofs.state.Reception.fits.Goals as goal

pub returns-in-None : goal.returns-in-None
unfolding last_fits
returns-in-None c = rw c.in-None.is
