-- What a test on Booleans says, and the range of a bit.
use Prim.Native.Nat.{◌<◌}
use native.Mathlib.Omega.{arith}
use mathlib.Core.Path.{◌≡◌, refl, sym}
use mathlib.Core.Bool.{Bool, true, false, ◌&&◌, beq}
use Rattle.wire.specs.Bits.{digit}

pub and_left : (a b : Bool) → (a && b) ≡ true → a ≡ true
and_left true b h = refl
and_left false b h = h

pub and_right : (a b : Bool) → (a && b) ≡ true → b ≡ true
and_right true b h = h
and_right false b h = cc

pub beq_true : (a b : Bool) → beq a b ≡ true → a ≡ b
beq_true true true h = refl
beq_true true false h = sym h
beq_true false true h = h
beq_true false false h = refl

-- a bit as a number is 0 or 1
pub digit_below : (b : Bool) → digit b < 2
digit_below true = omega arith
digit_below false = omega arith

-- by cases of a test, with its answer at hand
abbrev pub whether : {A : Type 0} → (t : Bool) → (t ≡ true → A) → (t ≡ false → A) → A
whether true yes-case no-case = yes-case refl
whether false yes-case no-case = no-case refl
