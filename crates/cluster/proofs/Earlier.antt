-- Numbers of which none stands earlier.
use Prim.Native.Nat.{ℕ, ◌<◌}
use mathlib.Core.Path.{◌≡◌, sym}
use mathlib.Core.Bool.{false}
use native.Mathlib.Decide.{ℕ_discrete}
use native.Mathlib.Omega.{arith}
use borrow.Author.Tests.{eqb-false}
use lib.Dec.{eqb}
use Rattle.signal.proofs.Inside.{order}
use Rattle.cluster.specs.Right.{earlier}
use Rattle.cluster.proofs.Any.{none_below}

-- numbers of which none stands earlier are all different
pub distinct : (number : ℕ → ℕ) (n : ℕ) → ((k : ℕ) → k < n → earlier number k ≡ false)
    → (i j : ℕ) → i < n → j < n → number i ≡ number j → i ≡ j
distinct number n new i j hi hj e =
    elim (ℕ_discrete i j) [
      | yes p ↦ p
      | no p ↦ order i j
          (λ b. absurd (eqb-false (number i) (number j) (none_below j (λ k. eqb (number k) (number j)) (new j hj) i b) e))
          (λ b. absurd (eqb-false (number j) (number i) (none_below i (λ k. eqb (number k) (number i)) (new i hi) j (omega arith)) (sym e)))
    ]
