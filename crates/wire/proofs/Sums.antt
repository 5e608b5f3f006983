-- The sum with carry, byte by byte.
use Prim.Native.Nat.{ℕ, ◌+◌, ◌-◌, ◌<◌, ◌≤◌}
use mathlib.Core.Path.{◌≡◌, refl}
use mathlib.Core.List.{List, []}
use native.Mathlib.Numerals.{add-one}
use lib.ListN.{length, get_or, drop, drop_of_length-le}
use lib.Seq.{drop-cons}
use native.Mathlib.Omega.{arith}
use borrow.Author.Tests.{lt-ltb, le-ltb}
use Rattle.wire.specs.Checksum.{with_carry, sum, covered}
use Rattle.wire.specs.declared.checksum.Model.{Model}
use Rattle.wire.specs.declared.checksum.Model.TheVariants.{Classic, Enhanced}

pub sum_step : (s : ℕ) (bs : List ℕ) (i : ℕ) → i < length bs
    → sum s (drop i bs) ≡ sum (with_carry s (get_or bs i 0)) (drop (i + 1) bs)
unfolding sum
sum_step s bs i h = rw (add-one, drop-cons bs i 0)

pub sum_end : (s : ℕ) (bs : List ℕ) (i : ℕ) → length bs ≤ i → sum s (drop i bs) ≡ s
unfolding sum
sum_end s bs i h = rw (drop_of_length-le bs h)

-- a sum below 256 is kept, and 255 is subtracted from any other
pub no_carry : (s b : ℕ) → s + b < 256 → with_carry s b ≡ s + b
unfolding with_carry
no_carry s b h = rw (lt-ltb (s + b) 256 h)

pub carry : (s b : ℕ) → 256 ≤ s + b → with_carry s b ≡ s + b - 255
unfolding with_carry
carry s b h = rw (le-ltb (s + b) 256 h)

-- the first byte of a sum is taken as it is
pub carry_first : (b : ℕ) → b < 256 → with_carry 0 b ≡ b
carry_first b h = omega (arith, no_carry 0 b (omega arith))

-- what is covered before the data, then the data
pub sum_covered : (m : Model) (id : ℕ) (bs : List ℕ) → sum 0 (covered m id bs) ≡ sum (sum 0 (covered m id [])) bs
unfolding covered sum
sum_covered Classic id bs = refl
sum_covered Enhanced id bs = refl
