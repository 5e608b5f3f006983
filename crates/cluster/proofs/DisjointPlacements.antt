-- Two placements of an accepted table have no bit in common, and so have two signals.
use Prim.Native.Nat.{ℕ, ◌*◌, ◌<◌}
use mathlib.Core.Path.{◌≡◌, sym, ◌∙◌, ap}
use mathlib.Core.Bool.{true, false, true≢false, ◌&&◌}
use mathlib.Core.List.{List}
use native.Mathlib.Omega.{arith}
use Rattle.wire.proofs.Tests.{whether}
use Rattle.signal.proofs.Inside.{order}
use Rattle.cluster.specs.Check.{RightTable}
use Rattle.cluster.specs.Places.{covers, occupies}
use Rattle.cluster.specs.Right.{occupied_before, overlaps}
use Rattle.cluster.specs.Table.{frame_count, placement_count, placement_signal}
use Rattle.cluster.proofs.Any.{none_below, any_at}
use Rattle.cluster.proofs.Occupied.{covered_from}
use Rattle.cluster.proofs.PlacementLaws.{no_overlap, place_end}
use Rattle.cluster.proofs.SomePlacement.{some_found}

module _ (t : List ℕ) (ok : RightTable t) where
  -- an earlier placement has none of the bits
  none_earlier : (i k j : ℕ) → i < k → k < placement_count t → covers t i j ≡ true → covers t k j ≡ true → ⊥
  unfolding overlaps occupied_before
  none_earlier i k j b h p q =
      let below : j < 64 * frame_count t = omega (arith, covered_from t k j q, place_end t ok k h) in
      let none = none_below (64 * frame_count t) (λ m. covers t k m && occupied_before t k m) (no_overlap t ok k h) j below in
      true≢false (sym (any_at k (λ m. covers t m j) i b p) ∙ (rw q at none))

  -- no bit belongs to two placements
  pub placements_disjoint : (i k j : ℕ) → i < placement_count t → k < placement_count t → (i ≡ k → ⊥)
      → covers t i j ≡ true → covers t k j ≡ true → ⊥
  placements_disjoint i k j hi hk n p q =
      order i k
      (λ b. none_earlier i k j b hk p q)
      (λ b. none_earlier k i j (omega arith) hi q p)

  -- a bit of one placement is no bit of another
  pub other_placement : (i k j : ℕ) → i < placement_count t → k < placement_count t → (i ≡ k → ⊥) → covers t i j ≡ true → covers t k j ≡ false
  other_placement i k j hi hk n p = whether (covers t k j) (λ q. absurd (placements_disjoint i k j hi hk n p q)) (λ q. q)

  -- no bit belongs to two signals
  pub signals_disjoint : (r s j : ℕ) → (r ≡ s → ⊥) → occupies t r j ≡ true → occupies t s j ≡ true → ⊥
  unfolding occupies
  signals_disjoint r s j n p q =
      let a = some_found t r (λ k. covers t k j) p in
      let b = some_found t s (λ k. covers t k j) q in
      placements_disjoint a.0 b.0 j a.1.there b.1.there
      (λ e. n (sym a.1.is ∙ ap (placement_signal t) e ∙ b.1.is)) a.2 b.2

  -- a bit of one signal is no bit of another
  pub other_bits : (r s j : ℕ) → (r ≡ s → ⊥) → occupies t r j ≡ true → occupies t s j ≡ false
  other_bits r s j n p = whether (occupies t s j) (λ q. absurd (signals_disjoint r s j n p q)) (λ q. q)
