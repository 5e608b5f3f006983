-- Which bits a signal has, and cases of an order.
use Prim.Native.Nat.{ℕ, ◌+◌, ◌≤◌, ◌<◌}
use mathlib.Core.Path.{◌≡◌}
use mathlib.Core.Bool.{true, false, and-false}
use borrow.Author.Tests.{ltb-true, ltb-false, lt-ltb, le-ltb, le-leb, lt-leb}
use lib.Dec.{ltb, leb}
use Rattle.wire.proofs.Tests.{whether}
use Rattle.signal.specs.Signal.{inside}

-- one number is below the other, or not
abbrev pub order : {A : Type 0} (a b : ℕ) → (a < b → A) → (b ≤ a → A) → A
order a b less more = whether (ltb a b) (λ t. less (ltb-true a b t)) (λ t. more (ltb-false a b t))

pub inside_true : (o w j : ℕ) → o ≤ j → j < o + w → inside o w j ≡ true
unfolding inside
inside_true o w j h k = rw (le-leb o j h, lt-ltb j (o + w) k)

pub inside_low : (o w j : ℕ) → j < o → inside o w j ≡ false
unfolding inside
inside_low o w j h = rw (lt-leb o j h)

pub inside_high : (o w j : ℕ) → o + w ≤ j → inside o w j ≡ false
unfolding inside
inside_high o w j h = rw (le-ltb j (o + w) h) (and-false (leb o j))
