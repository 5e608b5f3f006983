-- The offsets, widths and start values that each kind of signal takes.
use Prim.Native.Nat.{ℕ, ◌*◌, ◌%◌, ◌^◌, ◌≤◌, ◌<◌}
use mathlib.Core.Path.{◌≡◌, ◌∙◌}
use mathlib.Core.Bool.{Bool, true, false, cond}
use native.Mathlib.Omega.{arith}
use borrow.Author.Tests.{ltb-true, eqb-true}
use lib.Dec.{ltb, eqb}
use lib.Pow.{pow_mono, shl_exact}
use Rattle.wire.proofs.Tests.{and_left, and_right}
use Rattle.cluster.specs.Columns.{within, offset_right, width_right, start_limit}
use Rattle.cluster.proofs.Clauses.{within_low, within_high}

pub offset_below : (array : Bool) (bits offset : ℕ) → offset_right array bits offset ≡ true → offset < bits
unfolding offset_right
offset_below array bits offset h = ltb-true offset bits (and_left (ltb offset bits) (cond array (eqb (offset % 8) 0) true) h)

pub scalar_width_lem : (w : ℕ) → width_right false w ≡ true → (1 ≤ w) × (w ≤ 16)
unfolding width_right
scalar_width_lem w h = (within_low 1 16 w h, within_high 1 16 w h)

pub array_width : (w : ℕ) → width_right true w ≡ true → (8 ≤ w) × (w ≤ 64) × (w % 8 ≡ 0)
unfolding width_right
array_width w h =
    let range : within 8 64 w ≡ true = and_left (within 8 64 w) (eqb (w % 8) 0) h in
    (within_low 8 64 w range, within_high 8 64 w range, eqb-true (w % 8) 0 (and_right (within 8 64 w) (eqb (w % 8) 0) h))

pub width_range : (array : Bool) (w : ℕ) → width_right array w ≡ true → (1 ≤ w) × (w ≤ 64)
width_range true w h = omega (arith, array_width w h)
width_range false w h = omega (arith, scalar_width_lem w h)

-- a scalar's limit is at most 65536, and a shift makes it
pub scalar_limit : (w : ℕ) → w ≤ 16 → ((1 * 2 ^ w) % 2 ^ 64 ≡ 2 ^ w) × (2 ^ w ≤ 65536)
scalar_limit w h = (shl_exact {a = 1} 1 w 64 (omega arith) (omega arith) ∙ omega arith, pow_mono {i = w} {j = 16} h)

pub start_limit_high : (array : Bool) (w : ℕ) → width_right array w ≡ true → start_limit array w ≤ 65536
unfolding start_limit
start_limit_high true w h = omega arith
start_limit_high false w h = (scalar_limit w (omega (arith, scalar_width_lem w h))).1
