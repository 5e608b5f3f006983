-- An offset is a byte and a bit of it.
use Rattle.signal.specs.Signal.{get_scalar}
use Rattle.signal.proofs.get.Goals as goal

pub returns : goal.returns
unfolding get_scalar
returns c = rw (c.scalar.ensures.place, c.scalar.ensures.width) at c.get.ensures
