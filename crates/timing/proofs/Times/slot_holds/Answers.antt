-- The products fit 64 bits.
use native.Mathlib.Omega.{arith}
use Rattle.timing.specs.Slots.{slot_holds}
use Rattle.timing.specs.FrameTime.{minimum_bits, maximum_tenths}
use Rattle.timing.proofs.Steps.{product_fits}
use Rattle.timing.proofs.Times.slot_holds.Goals as goal

pub overflow_mul-result : goal.overflow_mul-result
unfolding minimum_bits
overflow_mul-result c = omega arith

pub overflow_mul-result-2 : goal.overflow_mul-result-2
unfolding minimum_bits
overflow_mul-result-2 c = record { fits = product_fits _ _ (omega arith) (omega arith) }

pub overflow_mul-result-4 : goal.overflow_mul-result-4
overflow_mul-result-4 c = record { fits = product_fits _ _ (omega arith) (omega arith) }

pub returns : goal.returns
unfolding slot_holds maximum_tenths
returns c = rw c.minimum_bits.ensures
