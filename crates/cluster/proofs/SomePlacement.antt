-- A placement of a signal with a property, and the first placement of a signal.
use Prim.Native.Nat.{ℕ, ◌≤◌, ◌<◌}
use mathlib.Core.Path.{◌≡◌}
use mathlib.Core.Bool.{Bool, true, false, ◌&&◌}
use mathlib.Core.List.{List}
use native.Mathlib.Omega.{arith}
use borrow.Author.Tests.{eq-eqb, eqb-true}
use Rattle.wire.proofs.Tests.{and_left, and_right}
use Rattle.signal.proofs.Inside.{order}
use Rattle.cluster.specs.Lists.{first_from}
use Rattle.cluster.specs.Places.{places, some_placement}
use Rattle.cluster.specs.Table.{placement_count, placement_signal}
use Rattle.cluster.specs.Values.{first_placement}
use Rattle.cluster.proofs.Any.{none_below, any_found, any_at}
use Rattle.cluster.proofs.Searching.{first_holds, first_least}

-- placement k is there, and one of signal s
pub record Of (t : List ℕ) (s k : ℕ) : Type 0 where
  pub there : k < placement_count t
  pub is : placement_signal t k ≡ s

module _ (t : List ℕ) (s : ℕ) where
  pub placed : (k : ℕ) → Of t s k → places t s k ≡ true
  placed k o = eq-eqb (placement_signal t k) s o.is

  module _ (test : ℕ → Bool) where
    pub some_found : some_placement t s test ≡ true → (k : ℕ) × Of t s k × (test k ≡ true)
    unfolding some_placement
    some_found h =
        let found = any_found (placement_count t) (λ k. places t s k && test k) h in
        let k = found.0 in (
          k,
          record { there = found.1; is = eqb-true (placement_signal t k) s (and_left (places t s k) (test k) found.2) },
          and_right (places t s k) (test k) found.2,
        )

    pub some_at : (k : ℕ) → Of t s k → test k ≡ true → some_placement t s test ≡ true
    unfolding some_placement
    some_at k o h = any_at (placement_count t) (λ i. places t s i && test i) k o.there (rw (placed k o) h)

    pub some_none : some_placement t s test ≡ false → (k : ℕ) → Of t s k → test k ≡ false
    unfolding some_placement
    some_none h k o = rw (placed k o) at (none_below (placement_count t) (λ i. places t s i && test i) h k o.there)

  -- where the first placement is there, it is one of the signal
  pub first_is : first_placement t s < placement_count t → Of t s (first_placement t s)
  unfolding first_placement
  first_is below = record {
    there = below;
    is = eqb-true (placement_signal t (first_from (places t s) 0 (placement_count t))) s
        (first_holds (places t s) 0 (placement_count t) (omega arith));
  }

  -- where the signal has a placement, the first one is one of its placements, and none of them stands before it
  module _ (k : ℕ) (o : Of t s k) where
    pub first_low : first_placement t s ≤ k
    unfolding first_placement
    first_low = first_least (places t s) 0 (placement_count t) k (omega arith) (placed k o)

    pub first_of : Of t s (first_placement t s)
    first_of = first_is (omega (arith, first_low, o.there))

    -- so one that has none before it is the first
    pub first_only : ((j : ℕ) → j < k → placement_signal t j ≡ s → ⊥) → first_placement t s ≡ k
    first_only none =
        order (first_placement t s) k
        (λ b. absurd (none (first_placement t s) b first_of.is))
        (λ b. omega (arith, first_low))
