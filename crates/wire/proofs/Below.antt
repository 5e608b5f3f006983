-- A test that antt computes at each number below a bound, and what it says of each of them.
use Prim.Native.Nat.{ℕ, zero, suc, ◌<◌}
use mathlib.Core.Path.{◌≡◌}
use mathlib.Core.Bool.{Bool, true, ◌&&◌}
use native.Mathlib.Omega.{arith}
use native.Mathlib.Decide.{ℕ_discrete}
use Rattle.wire.proofs.Tests.{and_left, and_right}

abbrev pub all_below : ℕ → (ℕ → Bool) → Bool
all_below zero f = true
all_below (suc n) f = f n && all_below n f

-- the test passes at each number below the bound
pub below : (n : ℕ) (f : ℕ → Bool) → all_below n f ≡ true → (k : ℕ) → k < n → f k ≡ true
below zero f h k b = absurd (omega arith)
below (suc n) f h k b =
    elim (ℕ_discrete k n) [
      | yes p ↦ rw p (and_left (f n) (all_below n f) h)
      | no p ↦ below n f (and_right (f n) (all_below n f) h) k (omega arith)
    ]
