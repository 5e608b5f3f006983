-- A call takes exactly the tables that the table check accepts, and refuses the others as the check does; the crates above go by this and
-- do not look into `taken_of`.
use Prim.Native.Nat.{ℕ, ◌≤◌}
use mathlib.Core.Path.{◌≡◌, refl}
use mathlib.Core.Logic.{◌↔◌, ⊎_elim}
use mathlib.Core.List.{List}
use native.Mathlib.Omega.{arith}
use Rattle.refusal.specs.declared.Refusal.{Refusal}
use Rattle.cluster.specs.Check.{judged, taken_of, RightTable, TakenTable}
use Rattle.signal.proofs.Inside.{order}
use Rattle.cluster.proofs.InWords.{words_due}
use Rattle.cluster.proofs.RightExactly.{refused_exactly}
use Rattle.std.specs.Prelude.{Err}

pub taken_right : (t : List ℕ) → TakenTable t → RightTable t
unfolding taken_of
taken_right t h = h

-- a call takes every table that the table check accepts
pub right_taken : (t : List ℕ) → RightTable t → TakenTable t
unfolding taken_of
right_taken t h = h

-- refusal 1, "the table check finds a fault", with the check's own position
pub taken_refused : (t : List ℕ) (r : Refusal) → (taken_of t ≡ Err r) ↔ (judged t ≡ Err r)
unfolding taken_of
taken_refused t r = (λ h. h, λ h. h)

-- no fault stands behind the longest table, of 3,633 words
fault_high : (t : List ℕ) (r : Refusal) → judged t ≡ Err r → r.place ≤ 3633
fault_high t r h =
    let w = ((refused_exactly t r).0 h).1 in
    order 4 r.place
    (λ b.
    let f = (w.before 0 (omega arith)).2.frames refl in
    let s = (w.before 1 (omega arith)).2.signals refl in
    let m = (w.before 2 (omega arith)).2.members refl in
    let e = (w.before 3 (omega arith)).2.entries refl in
    let p = (w.before 4 b).2.placements refl in
    let due : r.place ≤ words_due t =
    ⊎_elim (λ x. omega (arith, x.0)) (⊎_elim (λ x. omega (arith, x.0)) (⊎_elim (λ x. omega (arith, x.0)) (λ x. omega (arith, x.0)))) w.there in
    omega arith)
    (λ b. omega arith)

pub taken_high : (t : List ℕ) (r : Refusal) → taken_of t ≡ Err r → r.place ≤ 3633
unfolding taken_of
taken_high t r h = fault_high t r h

-- and its number is 1
pub taken_number : (t : List ℕ) (r : Refusal) → taken_of t ≡ Err r → r.number ≡ 1
unfolding taken_of
taken_number t r h = ((refused_exactly t r).0 h).0
