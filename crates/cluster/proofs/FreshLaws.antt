-- What a fresh call leaves: each signal's start value, and 1 at every bit of no signal.
use Prim.Native.Nat.{ℕ, zero, suc, ◌+◌, ◌*◌, ◌/◌, ◌%◌, ◌<◌, ◌≤◌}
use mathlib.Core.Path.{◌≡◌, refl, sym, ◌∙◌, ap}
use mathlib.Core.Bool.{true, false}
use mathlib.Core.List.{List}
use mathlib.Core.Logic.{inl, inr, ⊎_elim}
use native.Mathlib.Decide.{ℕ_discrete}
use native.Mathlib.Omega.{arith}
use lib.ListN.{length, replicate, get_or-replicate}
use Rattle.wire.specs.Bits.{bit}
use Rattle.wire.proofs.Below.{below}
use Rattle.wire.proofs.Tests.{whether}
use Rattle.signal.specs.Signal.{number, bit_at, bytes_of, scalar_width, get_scalar, get_array}
use Rattle.signal.proofs.BytesOf.{bytes_ext, bytes_are}
use Rattle.signal.proofs.Laws.{bit_stays, bit_put_inside}
use Rattle.signal.proofs.Numbers.{number_ext, number_bits}
use Rattle.cluster.specs.Check.{RightTable}
use Rattle.cluster.specs.Table.{frame_count, signal_count, signal_width, signal_start, is_array}
use Rattle.cluster.specs.Table.{placement_count, placement_signal, placement_width}
use Rattle.cluster.specs.Fresh.{array_length, put_start, filled, fresh_bytes}
use Rattle.cluster.specs.Places.{place_of, covers}
use Rattle.cluster.proofs.DisjointPlacements.{other_placement}
use Rattle.cluster.proofs.Occupied.{covers_from, not_covered}
use Rattle.cluster.proofs.PlacementLaws.{placement_signal_below, place_end}
use Rattle.cluster.proofs.SignalLaws.{scalar_width_high, scalar_start_below, array_width_whole, array_width_high, array_start_high, array_bits}
use Rattle.cluster.proofs.SomePlacement.{Of}
use Rattle.cluster.proofs.Starts.{start_bytes, start_width, start_bit, array_start_width, scalar_start_width, array_start_bit, scalar_start_bit}
use Rattle.cluster.proofs.Starts.{start_within, start_is, start_bytes_length, replicate_bytes, filled_length}

-- ---- the bits of no placement

ones : (k : ℕ) → k < 8 → bit 255 k ≡ true
unfolding bit
ones = below 8 (bit 255) refl

set_bit : (size j : ℕ) → j < 8 * size → bit_at (replicate size 255) j ≡ true
unfolding bit_at
set_bit size j h = rw (get_or-replicate {A = ℕ} size (j / 8) 255 0 (omega arith)) (ones (j % 8) (omega arith))

-- a start value changes no bit that is not its placement's
start_outside : (t bs : List ℕ) (k j : ℕ) → covers t k j ≡ false → bit_at (put_start t k bs) j ≡ bit_at bs j
unfolding placement_width
start_outside t bs k j h =
    let s = placement_signal t k in
    let w : start_width t s ≤ signal_width t s = start_within t s in
    rw (start_is t k bs)
    (bit_stays bs (place_of t k) (start_width t s) (start_bit t s) j (⊎_elim (λ a. inl a) (λ a. inr (omega arith)) (not_covered t k j h)))

-- a bit of none of the first n placements
module _ (t : List ℕ) (size j : ℕ) (within : j < 8 * size) where
  free_bit : (n : ℕ) → ((k : ℕ) → k < n → covers t k j ≡ false) → bit_at (filled t size n) j ≡ true
  unfolding filled
  free_bit zero free = set_bit size j within
  free_bit (suc n) free = start_outside t (filled t size n) n j (free n (omega arith)) ∙ free_bit n (λ k h. free k (omega arith))

-- "255 everywhere": every bit of no placement is 1
pub fresh_free : (t : List ℕ) (j : ℕ) → j < 64 * frame_count t
    → ((k : ℕ) → k < placement_count t → covers t k j ≡ false) → bit_at (fresh_bytes t) j ≡ true
unfolding fresh_bytes
fresh_free t j h free = free_bit t (8 * frame_count t) j (omega arith) (placement_count t) free

-- ---- the bits of each placement of an accepted table

module _ (t : List ℕ) (ok : RightTable t) where
  -- an array has the bytes of its width
  pub array_length_lem : (s : ℕ) → s < signal_count t → is_array t s ≡ true → array_length t s ≡ signal_width t s / 8
  unfolding array_length
  array_length_lem s h a = omega (arith, array_width_whole t ok s h a, array_width_high t ok s h a)

  -- a start value takes all bits of its signal
  start_wide : (s : ℕ) → s < signal_count t → start_width t s ≡ signal_width t s
  start_wide s h =
      whether (is_array t s)
      (λ a. array_start_width t s a ∙ array_bits t ok s h a)
      (λ a. scalar_start_width t s a ∙ omega (arith, scalar_width_high t ok s h a))

  -- a start value sets the bits of its placement, and none of another one
  own_bit : (bs : List ℕ) (k : ℕ) → length bs ≡ 8 * frame_count t → k < placement_count t → (i : ℕ) → i < placement_width t k
      → bit_at (put_start t k bs) (place_of t k + i) ≡ start_bit t (placement_signal t k) i
  unfolding placement_width
  own_bit bs k l h i b =
      let s = placement_signal t k in
      rw (start_is t k bs, start_wide s (placement_signal_below t ok k h))
      (bit_put_inside bs (place_of t k) (signal_width t s) (start_bit t s) i (omega (arith, place_end t ok k h)) b)

  other_bit : (bs : List ℕ) (m k : ℕ) → m < placement_count t → k < placement_count t → (m ≡ k → ⊥) → (i : ℕ) → i < placement_width t k
      → bit_at (put_start t m bs) (place_of t k + i) ≡ bit_at bs (place_of t k + i)
  other_bit bs m k hm hk n i b =
      let j = place_of t k + i in
      start_outside t bs m j (other_placement t ok k m j hk hm (λ e. n (sym e)) (covers_from t k j (omega arith) (omega arith)))

  filled_bit : (n k : ℕ) → n ≤ placement_count t → k < n → (i : ℕ) → i < placement_width t k
      → bit_at (filled t (8 * frame_count t) n) (place_of t k + i) ≡ start_bit t (placement_signal t k) i
  unfolding filled
  filled_bit zero k m h i b = absurd (omega arith)
  filled_bit (suc n) k m h i b =
      let size = 8 * frame_count t in
      elim (ℕ_discrete n k) [
        | yes e ↦ rw e (own_bit (filled t size k) k (filled_length t size k) (omega arith) i b)
        | no d ↦ other_bit (filled t size n) n k (omega arith) (omega arith) d i b ∙ filled_bit n k (omega arith) (omega arith) i b
      ]

  -- "then the start values": the bits of each placement of a signal are those of its start value
  module _ (s k : ℕ) (o : Of t s k) where
    own_signal : s < signal_count t
    own_signal = rw o.is at (placement_signal_below t ok k o.there)

    pub fresh_bit : (i : ℕ) → i < signal_width t s → bit_at (fresh_bytes t) (place_of t k + i) ≡ start_bit t s i
    unfolding fresh_bytes placement_width
    fresh_bit i b =
        rw o.is at (filled_bit (placement_count t) k (omega arith) o.there i (rw o.is b))

    -- a scalar reads as its start value, and each byte of an array too
    pub fresh_scalar : is_array t s ≡ false → get_scalar (fresh_bytes t) (place_of t k) (signal_width t s) ≡ signal_start t s
    unfolding get_scalar
    fresh_scalar a =
        let w : scalar_width (signal_width t s) ≡ signal_width t s = omega (arith, scalar_width_high t ok s own_signal a) in
        rw w
        (number_ext (signal_width t s) (λ i. bit_at (fresh_bytes t) (place_of t k + i)) (start_bit t s) fresh_bit
        ∙ ap (number (signal_width t s)) (scalar_start_bit t s a)
        ∙ number_bits (signal_width t s) (signal_start t s) (scalar_start_below t ok s own_signal a))

    pub fresh_array : is_array t s ≡ true → get_array (fresh_bytes t) (place_of t k) (array_length t s) ≡ replicate (array_length t s)
        (signal_start t s)
    unfolding get_array start_bytes
    fresh_array a =
        let vs = start_bytes t s in
        let m : signal_start t s % 256 ≡ signal_start t s = omega (arith, array_start_high t ok s own_signal a) in
        bytes_ext (array_length t s) (λ i. bit_at (fresh_bytes t) (place_of t k + i)) (start_bit t s)
        (λ i b. fresh_bit i (omega (arith, array_bits t ok s own_signal a)))
        ∙ ap (bytes_of (array_length t s)) (array_start_bit t s a)
        ∙ ap (λ (n : ℕ). bytes_of n (bit_at vs)) (sym (start_bytes_length t s))
        ∙ bytes_are vs (replicate_bytes (array_length t s) (signal_start t s % 256) (omega arith))
        ∙ rw m
