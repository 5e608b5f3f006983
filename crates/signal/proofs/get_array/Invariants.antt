-- The first i bytes of the array are got.
use Rattle.std.proofs.Common.{◌≡◌, ◌+◌}
use Rattle.signal.specs.Signal.{bit_at}
use Rattle.signal.proofs.Arrays.{gotten}
use Rattle.signal.proofs.get_array.Given as goal

abbrev pub invariant-loop-i : goal.invariant-loop-i
invariant-loop-i l = l.values ≡ gotten (λ k. bit_at l.bytes (l.offset + k)) l.i l.initial.values
