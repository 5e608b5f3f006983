-- The first i bytes of the array are put.
use Rattle.std.proofs.Common.{◌≡◌, ◌*◌}
use Rattle.signal.specs.Signal.{bit_at, put_bits}
use Rattle.signal.proofs.put_array.Given as goal

abbrev pub invariant-loop-i : goal.invariant-loop-i
invariant-loop-i l = l.bytes ≡ put_bits l.initial.bytes l.offset (8 * l.i) (bit_at l.values)
