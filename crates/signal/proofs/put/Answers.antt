-- An offset is a byte and a bit of it.
use Rattle.signal.specs.Signal.{put_scalar}
use Rattle.signal.proofs.put.Goals as goal

pub returns : goal.returns
unfolding put_scalar
returns c = rw (c.scalar.ensures.place, c.scalar.ensures.width) at c.put.ensures
