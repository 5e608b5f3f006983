-- Which bits of the frame buffer belong to a placement: laws of `covers`, so that nothing above has to look into it.
use Prim.Native.Nat.{ℕ, ◌+◌, ◌*◌, ◌≤◌, ◌<◌}
use mathlib.Core.Path.{◌≡◌, sym, ◌∙◌}
use mathlib.Core.Bool.{true, false, true≢false}
use mathlib.Core.List.{List}
use mathlib.Core.Logic.{inl, inr}
use native.Mathlib.Omega.{arith}
use borrow.Author.Tests.{ltb-true, leb-true}
use lib.Dec.{ltb, leb}
use Rattle.wire.proofs.Tests.{and_left, and_right}
use Rattle.signal.specs.Signal.{inside}
use Rattle.signal.proofs.Inside.{order, inside_true, inside_low, inside_high}
use Rattle.signal.proofs.Laws.{Apart}
use Rattle.cluster.specs.Places.{place_of, covers}
use Rattle.cluster.specs.Table.{placement_frame, placement_offset, placement_width}

module _ (t : List ℕ) (k : ℕ) where
  -- the bits from the placement's place on, as many as its width, are its bits
  pub covers_from : (j : ℕ) → place_of t k ≤ j → j < place_of t k + placement_width t k → covers t k j ≡ true
  unfolding covers
  covers_from j = inside_true (place_of t k) (placement_width t k) j

  -- and no others
  pub covered_from : (j : ℕ) → covers t k j ≡ true → (place_of t k ≤ j) × (j < place_of t k + placement_width t k)
  unfolding covers inside
  covered_from j h =
      let o = place_of t k in
      let end = o + placement_width t k in
      (leb-true o j (and_left (leb o j) (ltb j end) h), ltb-true j end (and_right (leb o j) (ltb j end) h))

  -- a bit of another placement or of none stands before or behind
  pub not_covered : (j : ℕ) → covers t k j ≡ false → Apart j 1 (place_of t k) (placement_width t k)
  not_covered j h =
      order j (place_of t k)
      (λ a. inl (omega arith))
      (λ a. order j (place_of t k + placement_width t k) (λ b. absurd (true≢false (sym (covers_from j a b) ∙ h))) (λ b. inr b))

  -- among the 64 bits of the placement's frame its bits are those from its offset on
  pub covers_own : (j : ℕ) → covers t k (64 * placement_frame t k + j) ≡ inside (placement_offset t k) (placement_width t k) j
  unfolding covers place_of
  covers_own j =
      let f = 64 * placement_frame t k in
      let o = placement_offset t k in
      let w = placement_width t k in
      order j o
      (λ a. inside_low (f + o) w (f + j) (omega arith) ∙ sym (inside_low o w j a))
      (λ a. order j (o + w)
      (λ b. inside_true (f + o) w (f + j) (omega arith) (omega arith) ∙ sym (inside_true o w j a b))
      (λ b. inside_high (f + o) w (f + j) (omega arith) ∙ sym (inside_high o w j b)))

  -- a placement that ends inside its 64 bits has no bit of another frame
  pub covers_other : placement_offset t k + placement_width t k ≤ 64 → (f j : ℕ) → j < 64 → (f ≡ placement_frame t k → ⊥)
      → covers t k (64 * f + j) ≡ false
  unfolding covers place_of
  covers_other e f j b d =
      let o = 64 * placement_frame t k + placement_offset t k in
      order f (placement_frame t k)
      (λ a. inside_low o (placement_width t k) (64 * f + j) (omega arith))
      (λ a. order (placement_frame t k) f
      (λ l. inside_high o (placement_width t k) (64 * f + j) (omega arith))
      (λ l. absurd (d (omega arith))))
