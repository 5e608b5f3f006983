-- Numbers that count up, first 0 and then equal to the previous one or one more: list and schedule numbers alike.
use Prim.Native.Nat.{ℕ, zero, suc, ◌≤◌, ◌<◌}
use mathlib.Core.Path.{◌≡◌}
use mathlib.Core.Logic.{◌⊎◌, inl, inr, ⊎_elim}
use native.Mathlib.Decide.{ℕ_discrete}
use native.Mathlib.Omega.{arith}
use borrow.Author.Tests.{eqb-true}
use lib.Dec.{eqb}
use Rattle.wire.proofs.Tests.{whether}
use Rattle.cluster.specs.Columns.{follows}
use Rattle.cluster.specs.Passed.{CountsUp}
use Rattle.cluster.specs.Table.{counted}

module _ (number : ℕ → ℕ) where
  pub up_first : (n : ℕ) → CountsUp number n → 0 < n → number 0 ≡ 0
  unfolding follows counted
  up_first n up h = eqb-true (number 0) 0 (up 0 h)

  pub up_step : (n : ℕ) → CountsUp number n → (k : ℕ) → suc k < n
      → (number (suc k) ≡ number k) ⊎ (number (suc k) ≡ suc (number k))
  unfolding follows counted
  up_step n up k h =
      let u = up (suc k) h in
      whether (eqb (number (suc k)) (number k))
      (λ e. inl (eqb-true (number (suc k)) (number k) e))
      (λ e. inr (eqb-true (number (suc k)) (suc (number k)) (rw e at u)))

  pub up_monotone : (n : ℕ) → CountsUp number n → (i j : ℕ) → i ≤ j → j < n → number i ≤ number j
  up_monotone n up i zero h b = let e : i ≡ 0 = omega arith in rw e (omega arith)
  up_monotone n up i (suc j) h b =
      elim (ℕ_discrete i (suc j)) [
        | yes p ↦ rw p (omega arith)
        | no p ↦
            let below : number i ≤ number j = up_monotone n up i j (omega arith) (omega arith) in
            ⊎_elim (λ e. omega arith) (λ e. omega arith) (up_step n up j b)
      ]

  -- each number is below how many there are
  pub up_below : (n : ℕ) → CountsUp number n → (k : ℕ) → k < n → number k < counted number n
  unfolding counted
  up_below zero up k h = absurd (omega arith)
  up_below (suc n) up k h = omega (arith, up_monotone (suc n) up k n (omega arith) (omega arith))

  -- a number is at most its position
  pub up_small : (n : ℕ) → CountsUp number n → (k : ℕ) → k < n → number k ≤ k
  up_small n up zero h = omega (arith, up_first n up h)
  up_small n up (suc k) h =
      let below : number k ≤ k = up_small n up k (omega arith) in
      ⊎_elim (λ e. omega arith) (λ e. omega arith) (up_step n up k h)

  -- there are at most as many numbers as positions
  pub up_count : (n : ℕ) → CountsUp number n → counted number n ≤ n
  unfolding counted
  up_count zero up = omega arith
  up_count (suc n) up = omega (arith, up_small (suc n) up n (omega arith))

  fewer : (n : ℕ) → CountsUp number (suc n) → CountsUp number n
  fewer n up k h = up k (omega arith)

  -- each number below how many there are stands somewhere
  pub up_each : (n : ℕ) → CountsUp number n → (l : ℕ) → l < counted number n → (k : ℕ) × (k < n) × (number k ≡ l)
  unfolding counted
  up_each zero up l h = absurd (omega arith)
  up_each (suc n) up l h =
      elim (ℕ_discrete (number n) l) [
        | yes p ↦ (n, omega arith, p)
        | no p ↦ wider n (up_each n (fewer n up) l (before n up l h p))
      ]
    where
      wider : (n : ℕ) → ((k : ℕ) × (k < n) × (number k ≡ l)) → (k : ℕ) × (k < suc n) × (number k ≡ l)
      wider n w = (w.0, omega (arith, w.1), w.2)

      before : (n : ℕ) → CountsUp number (suc n) → (l : ℕ) → l < suc (number n) → (number n ≡ l → ⊥) → l < counted number n
      before zero up l h p = absurd (omega (arith, up_first 1 up (omega arith)))
      before (suc n) up l h p = ⊎_elim (λ e. omega arith) (λ e. omega arith) (up_step (suc (suc n)) up n (omega arith))
