-- What a test on Booleans says, and cases by a test.
use Prim.Native.Nat.{ℕ, ◌≤◌, ◌<◌}
use native.Mathlib.Omega.{arith}
use mathlib.Core.Path.{◌≡◌, refl}
use mathlib.Core.Bool.{Bool, true, false, ◌&&◌, ◌||◌}
use borrow.Author.Tests.{leb-true, leb-false}
use lib.Dec.{leb}

-- both sides of a true conjunction are true
pub and_left : (a b : Bool) → (a && b) ≡ true → a ≡ true
and_left true b h = refl
and_left false b h = h

pub and_right : (a b : Bool) → (a && b) ≡ true → b ≡ true
and_right true b h = h
and_right false b h = cc

-- both sides of a false disjunction are false
pub or_left : (a b : Bool) → (a || b) ≡ false → a ≡ false
or_left true b h = h
or_left false b h = refl

pub or_right : (a b : Bool) → (a || b) ≡ false → b ≡ false
or_right true b h = cc
or_right false b h = h

-- by cases of a test, with its answer at hand
abbrev pub whether : {A : Type 0} → (t : Bool) → (t ≡ true → A) → (t ≡ false → A) → A
whether true yes-case no-case = yes-case refl
whether false yes-case no-case = no-case refl

-- by cases of an order
abbrev pub order : {A : Type 0} → (a b : ℕ) → (a ≤ b → A) → (b < a → A) → A
order a b low high = whether (leb a b) (λ t. low (leb-true a b t)) (λ t. high (leb-false a b t))

-- a test is not both
pub clash : {A : Type 0} → (t : Bool) → t ≡ true → t ≡ false → A
clash t h k = let z : ◌≡◌ {A = ℕ} 0 1 = cc in absurd (omega arith)
