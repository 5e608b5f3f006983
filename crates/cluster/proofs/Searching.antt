-- The first number at which a test holds: what one turn of a search does to it, and what it is.
use Prim.Native.Nat.{ℕ, zero, suc, ◌+◌, ◌-◌, ◌≤◌, ◌<◌}
use mathlib.Core.Path.{◌≡◌, sym, ◌∙◌}
use mathlib.Core.Bool.{Bool, true, false, true≢false}
use native.Mathlib.Decide.{ℕ_discrete}
use native.Mathlib.Numerals.{add-one}
use native.Mathlib.Omega.{arith}
use Rattle.wire.proofs.Tests.{whether}
use Rattle.signal.proofs.Inside.{order}
use Rattle.cluster.specs.Lists.{first_from}

module _ (test : ℕ → Bool) where
  pub turn_right : (k n : ℕ) → test k ≡ true → first_from test k (suc n) ≡ k
  unfolding first_from
  turn_right k n h = simp h

  pub turn_wrong : (k n : ℕ) → test k ≡ false → first_from test k (suc n) ≡ first_from test (suc k) n
  unfolding first_from
  turn_wrong k n h = simp h

  left : (k n : ℕ) → k < n → n - k ≡ suc (n - (k + 1))
  left k n h = omega arith

  pub right : (k n : ℕ) → k < n → test k ≡ true → first_from test k (n - k) ≡ k
  right k n h w = rw (left k n h) (turn_right k (n - (k + 1)) w)

  pub wrong : (k n : ℕ) → k < n → test k ≡ false → first_from test k (n - k) ≡ first_from test (k + 1) (n - (k + 1))
  wrong k n h w = rw (left k n h, turn_wrong k (n - (k + 1)) w, add-one k)

  pub ended : (k n : ℕ) → n ≤ k → first_from test k (n - k) ≡ k
  unfolding first_from
  ended k n h = let e : n - k ≡ 0 = omega arith in rw e

  -- it is not before the place where the search begins
  pub first_from_lem : (k n : ℕ) → k ≤ first_from test k n
  unfolding first_from
  first_from_lem k zero = omega arith
  first_from_lem k (suc n) =
      whether (test k)
      (λ e. omega (arith, turn_right k n e))
      (λ e. omega (arith, turn_wrong k n e, first_from_lem (suc k) n))

  -- nor behind the numbers that are searched
  pub first_within : (k n : ℕ) → first_from test k n ≤ k + n
  unfolding first_from
  first_within k zero = omega arith
  first_within k (suc n) =
      whether (test k)
      (λ e. omega (arith, turn_right k n e))
      (λ e. omega (arith, turn_wrong k n e, first_within (suc k) n))

  -- the test holds there, where it holds at all
  pub first_holds : (k n : ℕ) → first_from test k n < k + n → test (first_from test k n) ≡ true
  unfolding first_from
  first_holds k zero h = absurd (omega arith)
  first_holds k (suc n) h =
      whether (test k)
      (λ e. rw (turn_right k n e) e)
      (λ e. rw (turn_wrong k n e) (first_holds (suc k) n (omega (arith, turn_wrong k n e))))

  -- the test holds nowhere before
  pub first_before : (k n j : ℕ) → k ≤ j → j < first_from test k n → test j ≡ false
  unfolding first_from
  first_before k zero j h b = absurd (omega arith)
  first_before k (suc n) j h b =
      whether (test k)
      (λ e. absurd (omega (arith, turn_right k n e)))
      (λ e. elim (ℕ_discrete j k) [
        | yes p ↦ rw p e
        | no p ↦ first_before (suc k) n j (omega arith) (omega (arith, turn_wrong k n e))
      ])

  -- it is not behind a number at which the test holds
  pub first_least : (k n j : ℕ) → k ≤ j → test j ≡ true → first_from test k n ≤ j
  first_least k n j h e =
      order j (first_from test k n) (λ b. absurd (true≢false (sym e ∙ first_before k n j h b))) (λ b. b)
