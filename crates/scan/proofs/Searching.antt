-- The search byte by byte, from a place of some bytes on.
use Rattle.std.proofs.Common.{◌≡◌, ◌==◌, ℕ, ◌+◌, ◌-◌, ◌≤◌, Bool, true, false, cond, nat_lt, List, [], length, take, drop, min, refl, arith, Some, None}
use Rattle.std.specs.Option.{unwrap_or}
use Rattle.std.specs.List.{position, position_or_len}
use Rattle.std.proofs.lemmas.List.{drop_all, drop-take, take_min, length-take}
use Rattle.std.proofs.lemmas.List.Sums.{prefix_len-le-length}
use Rattle.std.proofs.lemmas.List.Recursion.{is_position_or_len}
use Rattle.std.proofs.lemmas.Bool.Decides.{nat_tests}
use Rattle.scan.specs.Bytes.{index_of, index_after, slice}

module _ (byte : ℕ) (bytes : List ℕ) (i to : ℕ) where
  -- no byte is left
  pub none_left : min to (length bytes) ≤ i → index_of byte (slice i to bytes) ≡ 0
  unfolding index_of slice
  none_left h = let z : drop i (take to bytes) ≡ [] = drop_all i (take to bytes) (simp length-take h) in rw z refl

-- the place of the first byte of a value is the position of the first one that is equal to it
index_position : (byte : ℕ) (bs : List ℕ) → index_of byte bs ≡ position_or_len (λ b. b == byte) bs
unfolding index_of index_after
index_position byte = is_position_or_len (index_of byte) (λ b. b == byte) refl (λ b bs. cases (b == byte) (index_of byte bs))
  where
    cases : (y : Bool) (n : ℕ) → index_after y n ≡ cond y 0 (1 + n)
    cases true n = refl
    cases false n = omega arith

pub index_within : (byte : ℕ) (bs : List ℕ) → index_of byte bs ≤ length bs
index_within byte bs = rw index_position (prefix_len-le-length _ bs)

pub position_or : (byte : ℕ) (bs : List ℕ) → unwrap_or (position (λ b. b == byte) bs) (length bs) ≡ index_of byte bs
position_or byte bs = rw index_position (cases (position_or_len (λ b. b == byte) bs) (length bs) (prefix_len-le-length _ bs))
  where
    cases : (p n : ℕ) → p ≤ n → unwrap_or (cond (nat_lt p n) (Some p) None) n ≡ p
    cases p n h = grind (arith, nat_tests)

-- a search in the bytes from one place up to another, as far as there are some
pub search_within : (byte : ℕ) (bytes : List ℕ) (from to : ℕ) → from ≤ min to (length bytes)
    → index_of byte (take (min to (length bytes) - from) (drop from bytes)) ≡ index_of byte (slice from to bytes)
unfolding slice
search_within byte bytes from to h =
    let n = min to (length bytes) in
    let e : from + (n - from) ≡ n = omega arith in
    rw (← drop-take from (n - from) bytes, e, take_min to bytes)
