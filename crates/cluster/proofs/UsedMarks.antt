-- Marks: what an array of marks says of the records before, and what one more record does to it.
use Prim.Native.Nat.{ℕ, suc, ◌+◌, ◌<◌}
use mathlib.Core.Path.{◌≡◌, refl, sym}
use mathlib.Core.Bool.{Bool, true, false}
use mathlib.Core.List.{List}
use native.Mathlib.Decide.{ℕ_discrete}
use native.Mathlib.Numerals.{add-one}
use native.Mathlib.Omega.{arith}
use borrow.Author.Tests.{eq-eqb, ne_eqb}
use lib.Dec.{eqb}
use lib.ListN.{get_or, set, replicate, get_or-replicate, length-replicate, length-set, get_or-eq_default}
use lib.Seq.{get_or-set_same, get_or-set_other}
use Rattle.signal.proofs.Inside.{order}
use Rattle.cluster.specs.Passed.{Marks}
use Rattle.cluster.specs.Places.{any_below}

-- an array of one value reads as that value, there and behind
pub get_d_same : {A : Type 0} (n : ℕ) (v : A) (i : ℕ) → get_or (replicate n v) i v ≡ v
get_d_same n v i =
    order i n
    (λ h. get_or-replicate n i v v h)
    (λ h. get_or-eq_default (replicate n v) v (omega (arith, length-replicate n v)))

pub unmarked : (size : ℕ) (key : ℕ → ℕ) → Marks size key 0 (replicate size false)
unfolding any_below
unmarked size key = (length-replicate size false, get_d_same size false)

-- one record more, by cases of the number asked about
module _ (size : ℕ) (key : ℕ → ℕ) (n : ℕ) (marks : List Bool) (m : Marks size key n marks) (below : key n < size) where
  more : (x : ℕ) → get_or (set marks (key n) true) x false ≡ any_below (suc n) (λ k. eqb (key k) x)
  unfolding any_below
  more x =
      elim (ℕ_discrete x (key n)) [
        | yes p ↦ rw (p, get_or-set_same marks (key n) true false (omega (arith, m.0)), eq-eqb (key n) (key n) refl)
        | no d ↦ rw (get_or-set_other marks (key n) x true false d, ne_eqb (key n) x (λ p. d (sym p))) (m.1 x)
      ]

  pub marked : Marks size key (n + 1) (set marks (key n) true)
  marked = (simp length-set m.0, λ x. rw (add-one n) (more x))
