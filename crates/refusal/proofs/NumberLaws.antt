-- The refusal numbers by their literals, and what a refusal carries.
use Prim.Native.Nat.{ℕ, ◌≤◌}
use mathlib.Core.Bool.{Bool, true, false, ◌&&◌, ◌||◌}
use mathlib.Core.List.{[], ◌∷◌}
use mathlib.Core.Logic.{◌↔◌, ◌⊎◌, inl, inr, ⊎_elim}
use mathlib.Core.Path.{◌≡◌, refl}
use native.Mathlib.Omega.{arith}
use lib.Dec.{leb, eqb}
use borrow.Author.Tests.{eqb-true, eq-eqb, leb-true, le-leb}
use Rattle.refusal.specs.Numbers.{table, buffer, state, unknown, not_published, kind, value, no_transfer, message_length, sending, frame, rows, time}
use Rattle.refusal.specs.Numbers.{numbers, refused, refused_at, tells_place}
use Rattle.refusal.specs.declared.Refusal.{Refusal}

-- the first column of document 01's table, and the numbers of document 02
pub all_numbers : numbers ≡ 1 ∷ 2 ∷ 3 ∷ 4 ∷ 5 ∷ 6 ∷ 7 ∷ 8 ∷ 9 ∷ 10 ∷ 11 ∷ 12 ∷ 13 ∷ []
all_numbers = refl

-- each row's number by its name
pub each_number : (table ≡ 1) × (buffer ≡ 2) × (state ≡ 3) × (unknown ≡ 4) × (not_published ≡ 5) × (kind ≡ 6) × (value ≡ 7)
    × (no_transfer ≡ 8) × (message_length ≡ 9) × (sending ≡ 10) × (frame ≡ 11) × (rows ≡ 12) × (time ≡ 13)
each_number = (refl, refl, refl, refl, refl, refl, refl, refl, refl, refl, refl, refl, refl)

-- a refusal with no place carries its number and 0
pub refused_exactly : (r : Refusal) (n : ℕ) → (r ≡ refused n) ↔ ((r.number ≡ n) × (r.place ≡ 0))
refused_exactly r n = ((λ e. rw e (refl, refl)), (λ h. rw (← h.0, ← h.1)))

-- a refusal at a place carries its number and the place
pub placed_exactly : (r : Refusal) (n p : ℕ) → (r ≡ refused_at n p) ↔ ((r.number ≡ n) × (r.place ≡ p))
placed_exactly r n p = ((λ e. rw e (refl, refl)), (λ h. rw (← h.0, ← h.1)))

-- 1 is given with a place by every call, 4 to 7 by a row of values, and no other number is
pub tells_exactly : (row : Bool) (n : ℕ) → (tells_place row n ≡ true) ↔ ((n ≡ 1) ⊎ ((row ≡ true) × (4 ≤ n) × (n ≤ 7)))
unfolding tells_place
tells_exactly row n = (
  λ h. ⊎_elim (λ e. inl (eqb-true n 1 e)) (λ e. inr (e.0, leb-true 4 n e.1, leb-true n 7 e.2)) (told (eqb n 1) row (leb 4 n) (leb n 7) h),
  ⊎_elim (λ e. rw (eq-eqb n 1 e)) (λ e. rw (e.0, le-leb 4 n e.1, le-leb n 7 e.2) (either (eqb n 1))),
)
  where
    told : (a b c d : Bool) → (a || (b && (c && d))) ≡ true → (a ≡ true) ⊎ ((b ≡ true) × (c ≡ true) × (d ≡ true))
    told true b c d h = inl refl
    told false true true true h = inr (refl, refl, refl)
    told false true true false h = let z : ◌≡◌ {A = ℕ} 0 1 = cc in absurd (omega arith)
    told false true false d h = let z : ◌≡◌ {A = ℕ} 0 1 = cc in absurd (omega arith)
    told false false c d h = let z : ◌≡◌ {A = ℕ} 0 1 = cc in absurd (omega arith)

    either : (a : Bool) → (a || true) ≡ true
    either true = refl
    either false = refl

-- a refusal as the calls give it: with no place, or with a number that tells one
abbrev pub Given : Bool → Refusal → Type 0
Given row r = ((n : ℕ) × (r ≡ refused n)) ⊎ ((n p : ℕ) × (tells_place row n ≡ true) × (r ≡ refused_at n p))

-- and a refusal is given so exactly where its number tells a place, or its place is 0
pub given_exactly : (row : Bool) (r : Refusal) → Given row r ↔ ((tells_place row r.number ≡ true) ⊎ (r.place ≡ 0))
given_exactly row r = (
  ⊎_elim (λ h. inr (rw h.1)) (λ h. inl (rw h.3 h.2)),
  ⊎_elim
      (λ h. inr (r.number, r.place, h, (placed_exactly r r.number r.place).1 (refl, refl)))
      (λ h. inl (r.number, (refused_exactly r r.number).1 (refl, h))),
)
