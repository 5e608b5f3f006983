-- List and schedule numbers: how many there are, and how the check counts them.
use Prim.Native.Nat.{ℕ, zero, suc, ◌+◌, ◌-◌, ◌≤◌}
use mathlib.Core.Path.{◌≡◌, refl, sym, ◌∙◌}
use mathlib.Core.Bool.{true, or-true, or-false}
use native.Mathlib.Numerals.{add-one}
use native.Mathlib.Omega.{arith}
use borrow.Author.Tests.{eqb-true, eq-eqb, ne_eqb}
use lib.Dec.{eqb, eqb-suc-suc}
use Rattle.wire.proofs.Tests.{whether}
use Rattle.std.specs.Prelude.{Option, Some, None}
use Rattle.std.specs.Option.{MatchOption, SomeIff}
use Rattle.cluster.specs.Columns.{follows}
use Rattle.cluster.specs.Table.{counted}

pub counted_none : (number : ℕ → ℕ) (n : ℕ) → n ≡ 0 → counted number n ≡ 0
unfolding counted
counted_none number zero h = refl
counted_none number (suc n) h = absurd (omega arith)

pub counted_last : (number : ℕ → ℕ) (n : ℕ) → (n ≡ 0 → ⊥) → counted number n ≡ number (n - 1) + 1
unfolding counted
counted_last number zero h = absurd (h refl)
counted_last number (suc n) h = let e : suc n - 1 ≡ n = omega arith in rw (e, add-one (number n))

-- where the last one is read, if there is one
pub counted_by : (number : ℕ → ℕ) (n r : ℕ) (last : Option ℕ) (P : ℕ → Type 0) → SomeIff last (1 ≤ n) (n - 1) → MatchOption last (r ≡ 0) P
    → ((k : ℕ) → P k → r ≡ number k + 1) → r ≡ counted number n
counted_by number n r None P some none read = none ∙ sym (counted_none number n (omega (arith, some)))
counted_by number n r (Some k) P some is read =
    let last : k ≡ n - 1 = omega (arith, some) in
    read k is ∙ rw last (sym (counted_last number n (λ e. omega (arith, some, e))))

pub counted_next : (number : ℕ → ℕ) (k : ℕ) → counted number (k + 1) ≡ number k + 1
unfolding counted
counted_next number k = rw (add-one k, add-one (number k))

-- ---- a number that follows those before it

pub follows_high : (count number : ℕ) → follows count number ≡ true → number ≤ count
unfolding follows
follows_high zero number h = omega (arith, eqb-true number 0 h)
follows_high (suc previous) number h =
    whether (eqb number previous)
    (λ e. omega (arith, eqb-true number previous e))
    (λ e. omega (arith, eqb-true number (suc previous) (rw e at h)))

-- one more than those before, or the previous one again
pub follows_next : (count number : ℕ) → number ≡ count → true ≡ follows count number
unfolding follows
follows_next zero number h = sym (eq-eqb number 0 h)
follows_next (suc previous) number h = sym (rw (eq-eqb number (suc previous) h) (or-true (eqb number previous)))

pub follows_same : (count number : ℕ) → (number ≡ count → ⊥) → eqb (number + 1) count ≡ follows count number
unfolding follows
follows_same zero number h = ne_eqb (number + 1) 0 (λ e. omega arith) ∙ sym (ne_eqb number 0 h)
follows_same (suc previous) number h =
    rw (add-one number, eqb-suc-suc, ne_eqb number (suc previous) h) (sym (or-false (eqb number previous)))
