-- What `and` and `or` come to, and what cannot be.
use mathlib.Core.Path.{◌≡◌, refl}
use mathlib.Core.Bool.{Bool, true, false, ◌&&◌, ◌||◌, false≢true}
use mathlib.Core.Logic.{◌⊎◌, inl, inr}

-- from what cannot be
pub never : {A : Type 0} → false ≡ true → A
never e = absurd (false≢true e)

-- a test that cannot hold does not
pub false_unless : (b : Bool) → ¬ (b ≡ true) → b ≡ false
false_unless true n = absurd (n refl)
false_unless false n = refl

pub or_true : (a : Bool) → (a || true) ≡ true
or_true true = refl
or_true false = refl

pub or_false : (a : Bool) → (a || false) ≡ a
or_false true = refl
or_false false = refl

-- one of two tests of which one holds
pub or_cases : (a b : Bool) → (a || b) ≡ true → (a ≡ true) ⊎ (b ≡ true)
or_cases true b h = inl refl
or_cases false b h = inr h

-- two tests that hold hold together
pub and_true : (a b : Bool) → a ≡ true → b ≡ true → (a && b) ≡ true
and_true a b h k = rw (h, k)
