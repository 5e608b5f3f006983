-- The placements of a signal in an accepted table stand together: the first one is found by halving, and a walk from there on meets them all.
use Prim.Native.Nat.{ℕ, zero, suc, ◌+◌, ◌≤◌, ◌<◌}
use mathlib.Core.List.{List}
use mathlib.Core.Path.{◌≡◌}
use native.Mathlib.Decide.{ℕ_discrete}
use native.Mathlib.Numerals.{add-one}
use native.Mathlib.Omega.{arith}
use Rattle.signal.proofs.Inside.{order}
use Rattle.cluster.specs.Check.{RightTable}
use Rattle.cluster.specs.Places.{places}
use Rattle.cluster.specs.Table.{counted, placement_count, placement_signal}
use Rattle.cluster.specs.Values.{first_placement}
use Rattle.cluster.proofs.CountingUp.{up_each, up_monotone}
use Rattle.cluster.proofs.PlacementLaws.{signals_up}
use Rattle.cluster.proofs.Searching.{first_within}
use Rattle.cluster.proofs.SomePlacement.{Of, first_low, first_is, first_of}

-- a walk over the placements of signal s is at placement k, and P holds there
pub record Walk (t : List ℕ) (s : ℕ) (P : ℕ → Type 0) (k : ℕ) : Type 0 where
  pub from : first_placement t s ≤ k
  pub within : k ≤ placement_count t
  pub holds : P k

module _ (t : List ℕ) (s : ℕ) where
  pub first_high : first_placement t s ≤ placement_count t
  unfolding first_placement
  first_high = omega (arith, first_within (places t s) 0 (placement_count t))

  -- at a placement of the signal the walk goes on
  pub walk_on : (P Q : ℕ → Type 0) (k : ℕ) → Walk t s P k → Of t s k → Q (k + 1) → Walk t s Q (k + 1)
  walk_on P Q k w o q = record { from = omega arith; within = omega arith; holds = q }

module _ (t : List ℕ) (ok : RightTable t) (s : ℕ) where
  up : (i j : ℕ) → i ≤ j → j < placement_count t → placement_signal t i ≤ placement_signal t j
  up = up_monotone (placement_signal t) (placement_count t) (signals_up t ok)

  -- a placement of a lower signal stands before the first one
  pub lower_before : (k : ℕ) → k < placement_count t → placement_signal t k < s → k < first_placement t s
  lower_before k h l =
      order k (first_placement t s) (λ b. b)
      (λ b. absurd (omega (arith, (first_is t s (omega arith)).is, up (first_placement t s) k b h)))

  -- one of the signal or of a higher one does not
  pub higher_behind : (k : ℕ) → k < placement_count t → s ≤ placement_signal t k → first_placement t s ≤ k
  unfolding counted
  higher_behind k h l =
      let w = up_each (placement_signal t) (suc k) (λ j b. signals_up t ok j (omega arith)) s (omega arith) in
      omega (arith, w.1, first_low t s w.0 (record { there = omega (arith, w.1); is = w.2 }))

  -- where a walk meets no placement of the signal, all of them stand before
  all_before : (k : ℕ) → first_placement t s ≤ k → (Of t s k → ⊥) → (j : ℕ) → Of t s j → j < k
  all_before k from stop j o =
      order j k (λ b. b)
      (λ b. absurd (stop (record {
        there = omega (arith, o.there);
        is = omega (arith, (first_of t s j o).is, o.is, up (first_placement t s) k from (omega (arith, o.there)), up k j b o.there);
      })))

  -- what a placement of another signal leaves holds at the first one of the signal where it holds at the start, and at the end where the walk ends
  module _ (P : ℕ → Type 0) (other : (k : ℕ) → k < placement_count t → (placement_signal t k ≡ s → ⊥) → P k → P (k + 1)) where
    passed : (i m : ℕ) → i ≤ m → m ≤ placement_count t → ((j : ℕ) → i ≤ j → Of t s j → m ≤ j) → P i → P m
    passed i zero h b none p = let e : i ≡ 0 = omega arith in rw e at p
    passed i (suc m) h b none p =
        elim (ℕ_discrete i (suc m)) [
          | yes e ↦ rw e at p
          | no d ↦
              let alone : placement_signal t m ≡ s → ⊥ = λ e. omega (arith, none m (omega arith) (record { there = omega arith; is = e })) in
              rw add-one at (other m (omega arith) alone (passed i m (omega arith) (omega arith) (λ j a o. omega (arith, none j a o)) p))
        ]

    pub walk_begins : P 0 → Walk t s P (first_placement t s)
    walk_begins p = record {
      from = omega arith;
      within = first_high t s;
      holds = passed 0 (first_placement t s) (omega arith) (first_high t s) (λ j a o. first_low t s j o) p;
    }

    pub walk_ends : (k : ℕ) → Walk t s P k → (Of t s k → ⊥) → P (placement_count t)
    walk_ends k w stop =
        passed k (placement_count t) w.within (omega arith) (λ j a o. absurd (omega (arith, all_before k w.from stop j o))) w.holds
