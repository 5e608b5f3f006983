-- What is printed ends within the buffer.
use Rattle.std.proofs.Common.{◌≡◌, ℕ, ◌-◌, ◌≤◌, List, length, arith, length-take}
use native.Mathlib.Nat.{min-le_left}
use Rattle.script.specs.Print.{Puts, cut}

-- a text that was put within a buffer of some length ends within it
pub ends_within : {text before after : List ℕ} {at r most : ℕ} → Puts text before at r after → length before ≡ most → at ≤ most → r ≤ most
unfolding cut
ends_within {text = text} {before = before} {at = at} puts long within =
    omega (arith, puts.place, length-take (length before - at) text, min-le_left (length before - at) (length text))
