-- No sum wraps.
use mathlib.Core.Path.{refl}
use Rattle.timing.specs.FrameTime.{minimum_bits}
use Rattle.timing.proofs.minimum_bits.Goals as goal

pub returns : goal.returns
unfolding minimum_bits
returns c = refl
