-- A test that holds at some number below a bound, or at none.
use Prim.Native.Nat.{ℕ, zero, suc, ◌<◌}
use mathlib.Core.Path.{◌≡◌, refl, sym, ◌∙◌}
use mathlib.Core.Bool.{Bool, true, false, true≢false, ◌||◌}
use native.Mathlib.Decide.{ℕ_discrete}
use native.Mathlib.Omega.{arith}
use Rattle.wire.proofs.Tests.{whether}
use Rattle.cluster.specs.Places.{any_below}

or_left : (a b : Bool) → (a || b) ≡ false → a ≡ false
or_left true b h = h
or_left false b h = refl

or_right : (a b : Bool) → (a || b) ≡ false → b ≡ false
or_right true b h = cc
or_right false b h = h

-- a test that holds nowhere below n is false at each number below n
pub none_below : (n : ℕ) (test : ℕ → Bool) → any_below n test ≡ false → (k : ℕ) → k < n → test k ≡ false
unfolding any_below
none_below zero test h k b = absurd (omega arith)
none_below (suc n) test h k b =
    elim (ℕ_discrete k n) [
      | yes p ↦ rw p (or_left (test n) (any_below n test) h)
      | no p ↦ none_below n test (or_right (test n) (any_below n test) h) k (omega arith)
    ]

-- a test that holds somewhere below n holds at one of them
pub any_found : (n : ℕ) (test : ℕ → Bool) → any_below n test ≡ true → (k : ℕ) × (k < n) × (test k ≡ true)
unfolding any_below
any_found zero test h = absurd (let z : ◌≡◌ {A = ℕ} 0 1 = cc in omega arith)
any_found (suc n) test h =
    whether (test n)
    (λ e. (n, omega arith, e))
    (λ e. let found = any_found n test (rw e at h) in (found.0, omega (arith, found.1), found.2))

-- a test that holds at a number below n holds somewhere below n
pub any_at : (n : ℕ) (test : ℕ → Bool) (k : ℕ) → k < n → test k ≡ true → any_below n test ≡ true
any_at n test k h e =
    whether (any_below n test) (λ a. a) (λ a. absurd (true≢false (sym e ∙ none_below n test a k h)))

-- a test that holds nowhere below n
pub any_none : (n : ℕ) (test : ℕ → Bool) → ((k : ℕ) → k < n → test k ≡ false) → any_below n test ≡ false
any_none n test none =
    whether (any_below n test)
    (λ a. let found = any_found n test a in absurd (true≢false (sym found.2 ∙ none found.0 found.1)))
    (λ a. a)

pub any_ext : (n : ℕ) (f g : ℕ → Bool) → ((k : ℕ) → k < n → f k ≡ g k) → any_below n f ≡ any_below n g
unfolding any_below
any_ext zero f g h = refl
any_ext (suc n) f g h = rw (h n (omega arith), any_ext n f g (λ k b. h k (omega arith)))
