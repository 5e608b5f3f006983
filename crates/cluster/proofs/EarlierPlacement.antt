-- Earlier placements of the same signal.
use Prim.Native.Nat.{ℕ, ◌<◌}
use mathlib.Core.Path.{◌≡◌, refl}
use mathlib.Core.Bool.{Bool, true, false, not, ◌&&◌, beq}
use mathlib.Core.List.{List}
use borrow.Author.Tests.{eq-eqb}
use Rattle.cluster.specs.Places.{places}
use Rattle.cluster.specs.Right.{earlier_placement}
use Rattle.cluster.specs.Table.{placement_signal}
use Rattle.cluster.proofs.Any.{none_below}

-- two tests that are not unequal are equal
pub same_test : (a b : Bool) → not (beq a b) ≡ false → a ≡ b
same_test true true h = refl
same_test true false h = cc
same_test false true h = cc
same_test false false h = refl

-- an earlier placement of the same signal does not have a property that none has
pub none_earlier : (t : List ℕ) (k : ℕ) (test : ℕ → Bool) → earlier_placement t k test ≡ false → (j : ℕ) → j < k
    → placement_signal t j ≡ placement_signal t k → test j ≡ false
unfolding earlier_placement
none_earlier t k test h j b e =
    rw (eq-eqb (placement_signal t j) (placement_signal t k) e) at (none_below k (λ i. places t (placement_signal t k) i && test i) h j b)
