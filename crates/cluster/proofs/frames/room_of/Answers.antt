-- Two words of the record, which are there.
use mathlib.Core.Path.{refl}
use native.Mathlib.Nat.{pow-zero, div-one}
use Prim.Native.Nat.{◌+◌}
use native.Mathlib.Omega.{arith}
use Rattle.wire.specs.Bits.{bit}
use Rattle.cluster.specs.Table.{word, published, flags, frame_length, frame_at}
use Rattle.cluster.proofs.frames.room_of.Goals as goal

pub overflow_cast-result : goal.overflow_cast-result
overflow_cast-result c = omega (arith, c.type_inv.t (frame_at c.args.f + 1))

pub overflow_mul-result : goal.overflow_mul-result
overflow_mul-result c = omega (arith, c.type_inv.t (frame_at c.args.f + 1))

pub returns : goal.returns
unfolding published flags frame_length word bit
returns c = rw (pow-zero, div-one) (refl, refl)
