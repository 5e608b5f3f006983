-- What the code of the values computes, in the words of their definitions.
use Prim.Native.Nat.{ℕ, zero, suc, ◌-◌, ◌*◌, ◌%◌, ◌^◌, ◌<◌, ◌≤◌}
use mathlib.Core.Path.{◌≡◌, sym, ◌∙◌}
use mathlib.Core.Bool.{true}
use mathlib.Core.List.{List, ◌++◌}
use native.Mathlib.Nat.{sub-zero}
use native.Mathlib.Omega.{arith}
use borrow.Author.Tests.{lt-ltb}
use lib.ListN.{length, take, drop, replicate}
use lib.Pow.{pow_mono, shl_exact}
use lib.Seq.{length-take-le}
use Rattle.signal.specs.Signal.{get_array}
use Rattle.cluster.specs.Fresh.{array_length}
use Rattle.cluster.specs.Places.{place_of}
use Rattle.cluster.specs.Table.{signal_width, signal_start}
use Rattle.cluster.specs.Values.{value_fits, array_at, handed_out, array_read, start_read}
use Rattle.cluster.specs.declared.values.Array.{Array}

-- every number of 32 bits fits 32 bits and more
pub fits_wide : (t : List ℕ) (s v width : ℕ) → width ≡ signal_width t s → 31 < width → v < 2 ^ 32 → true ≡ value_fits t s v
unfolding value_fits
fits_wide t s v width e h b =
    let m : 2 ^ 32 ≤ 2 ^ width = pow_mono {i = 32} {j = width} (omega arith) in
    rw (← e) (sym (lt-ltb v (2 ^ width) (omega arith)))

-- a shift makes the limit of fewer bits
pub limit_below : (width : ℕ) → width ≤ 31 → (1 * 2 ^ width) % 2 ^ 32 ≡ 2 ^ width
limit_below width h = shl_exact {a = 1} 1 width 32 (omega arith) (omega arith) ∙ omega arith

-- the rest of equal bytes
pub drop_replicate : (n m x : ℕ) → drop n (replicate m x) ≡ replicate (m - n) x
drop_replicate zero m x = rw sub-zero
drop_replicate (suc n) zero x = let e : 0 - suc n ≡ 0 = omega arith in rw e
drop_replicate (suc n) (suc m) x = let e : suc m - suc n ≡ m - n = omega arith in rw e (drop_replicate n m x)

abbrev unused : List ℕ
unused = replicate 8 255

-- the bytes of an array, before the unused ones
pub array_read_lem : (t bs : List ℕ) (s k n place : ℕ) (values : List ℕ) → n ≡ array_length t s → n ≤ 8 → place ≡ place_of t k
    → values ≡ get_array bs place (length (take (n - 0) unused))
    → ◌≡◌ {A = Array} (record { bytes = values ++ drop (n - 0) unused; count = n }) (array_read t bs s k)
unfolding array_read handed_out array_at
array_read_lem t bs s k n place values e h p q =
    let l : length (take n unused) ≡ n = length-take-le n unused h in
    rw (q, sub-zero, l, drop_replicate n 8 255, e, p)

-- the start value in each byte, before the unused ones
pub start_read_lem : (t : List ℕ) (s n start : ℕ) (values : List ℕ) → n ≡ array_length t s → n ≤ 8 → start ≡ signal_start t s
    → values ≡ replicate (length (take n unused)) (start % 256)
    → ◌≡◌ {A = Array} (record { bytes = values ++ drop n unused; count = n }) (start_read t s)
unfolding start_read handed_out
start_read_lem t s n start values e h p q =
    let l : length (take n unused) ≡ n = length-take-le n unused h in
    rw (q, l, drop_replicate n 8 255, e, p)
