-- Marks of bits: what the numbers say of the placements before, and what one more does to them.
use Prim.Native.Nat.{ℕ, suc, ◌+◌, ◌-◌, ◌*◌, ◌≤◌, ◌<◌}
use mathlib.Core.Path.{◌≡◌, sym, ◌∙◌}
use mathlib.Core.Bool.{Bool, false, ◌&&◌, ◌||◌, or_comm}
use mathlib.Core.List.{List}
use native.Mathlib.Decide.{ℕ_discrete}
use native.Mathlib.Numerals.{add-one}
use native.Mathlib.Omega.{arith}
use Rattle.wire.specs.Bits.{bit}
use Rattle.wire.proofs.Tests.{whether}
use Rattle.signal.specs.Signal.{inside}
use Rattle.signal.proofs.Inside.{inside_true}
use Rattle.signal.proofs.Numbers.{bit_none}
use Rattle.cluster.specs.Places.{any_below, place_of, covers}
use Rattle.cluster.specs.Passed.{BitMarks}
use Rattle.cluster.specs.Read.{hits}
use Rattle.cluster.specs.Right.{occupied_before, overlaps}
use Rattle.cluster.specs.Table.{frame_count, placement_frame, placement_offset, placement_width}
use Rattle.cluster.proofs.Any.{none_below, any_found, any_at, any_none}
use Rattle.cluster.proofs.Occupied.{covered_from, covers_own, covers_other}

pub none_marked : (t : List ℕ) (bits : ℕ → ℕ) → ((f : ℕ) → bits f ≡ 0) → BitMarks t 0 bits
unfolding occupied_before any_below
none_marked t bits none f j h = rw (none f) (bit_none j)

module _ (t : List ℕ) (s : ℕ) (bits : ℕ → ℕ) (m : BitMarks t s bits) (fits : placement_offset t s + placement_width t s ≤ 64) where
  -- one placement more, by cases of the frame asked about
  module _ (next : ℕ → ℕ) (other : (f : ℕ) → (f ≡ placement_frame t s → ⊥) → next f ≡ bits f)
      (put : (j : ℕ) → bit (next (placement_frame t s)) j ≡
      (bit (bits (placement_frame t s)) j || inside (placement_offset t s) (placement_width t s) j)) where
    more : (f j : ℕ) → j < 64 → bit (next f) j ≡ occupied_before t (suc s) (64 * f + j)
    unfolding occupied_before any_below
    more f j h =
        elim (ℕ_discrete f (placement_frame t s)) [
          | yes p ↦ rw (p, put j, m (placement_frame t s) j h, covers_own t s j)
              (or_comm (occupied_before t s (64 * placement_frame t s + j)) (inside (placement_offset t s) (placement_width t s) j))
          | no d ↦ rw (other f d, covers_other t s fits f j h d) (m f j h)
        ]

    pub bits_marked : BitMarks t (s + 1) next
    bits_marked f j h = rw (add-one s) (more f j h)

  -- the bits that are not marked
  free : (j : ℕ) → (place_of t s ≤ j) × (j < place_of t s + placement_width t s)
      → bit (bits (placement_frame t s)) (placement_offset t s + (j - place_of t s)) ≡ false → occupied_before t s j ≡ false
  unfolding place_of
  free j at h =
      let k = placement_offset t s + (j - place_of t s) in
      let e : 64 * placement_frame t s + k ≡ j = omega arith in
      rw e at (sym (m (placement_frame t s) k (omega arith)) ∙ h)

  -- a placement overlaps an earlier one exactly where one of its bits is marked
  pub overlap_is : placement_frame t s < frame_count t → overlaps t s ≡ hits (bits (placement_frame t s)) (placement_offset t s) (placement_width t s)
  unfolding overlaps hits
  overlap_is b =
      let f = 64 * placement_frame t s in
      let o = placement_offset t s in
      let both : ℕ → Bool = (λ j. covers t s j && occupied_before t s j) in
      let marked : ℕ → Bool = (λ k. bit (bits (placement_frame t s)) (o + k)) in
      whether (any_below (placement_width t s) marked)
      (λ a. let found = any_found (placement_width t s) marked a in
      let k = found.0 in
      let own = covers_own t s (o + k) ∙ inside_true o (placement_width t s) (o + k) (omega arith) (omega (arith, found.1)) in
      let earlier = sym (m (placement_frame t s) (o + k) (omega (arith, found.1))) ∙ found.2 in
      any_at (64 * frame_count t) both (f + (o + k)) (omega (arith, found.1)) (rw own earlier) ∙ sym a)
      (λ a. any_none (64 * frame_count t) both (λ j h. whether (covers t s j)
      (λ q. let k = j - place_of t s in
      let at = covered_from t s j q in
      rw q (free j at (none_below (placement_width t s) marked a k (omega (arith, at)))))
      (λ q. rw q)) ∙ sym a)
