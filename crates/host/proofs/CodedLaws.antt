-- A host takes an answer apart again: the low byte is the value, and what is above it the refusal number; of the table check the low sixteen bits are
-- the position, which is at most 2,608, and what is above them the refusal number; of the judge also the number of a short entry, with bit 24.
use Prim.Native.Nat.{ℕ, ◌/◌, ◌%◌, ◌<◌}
use mathlib.Core.Path.{◌≡◌, refl}
use mathlib.Core.Logic.{◌↔◌, ⊎_elim}
use mathlib.Core.List.{List}
use native.Mathlib.Omega.{arith}
use borrow.Author.Tests.{eqb-true, eq-eqb}
use lib.Dec.{eqb}
use Rattle.refusal.specs.declared.Refusal.{Refusal}
use Rattle.cluster.specs.Check.{judged, taken_of}
use Rattle.cluster.proofs.FirstFault.{first_fault}
use Rattle.cluster.proofs.TakenLaws.{taken_right, right_taken, taken_refused, taken_high}
use Rattle.timing.specs.Judge.{judge_of}
use Rattle.timing.proofs.JudgeExactly.{refused_number, refused_high, short_high}
use Rattle.wire.specs.Answers.{told}
use Rattle.refusal.specs.Answers.{value_told}
use Rattle.wire.specs.Answers.{Answer}
use Rattle.wire.specs.declared.checksum.Model.TheVariants.{Classic, Enhanced}
use Rattle.wire.proofs.Tests.{whether}
use Rattle.host.specs.Coded.{coded, table_coded, judge_coded, wish_of}
use Rattle.std.specs.Prelude.{Ok, Err}
use Rattle.cluster.specs.Check.{Verdict}
use Rattle.std.specs.Prelude.{None, Some}
use Rattle.timing.specs.Judge.{Judgement}

pub coded_value : (answer : Answer) → value_told (told answer) < 256 → coded answer % 256 ≡ value_told (told answer)
unfolding coded
coded_value answer h = omega arith

pub coded_refusal : (answer : Answer) → value_told (told answer) < 256 → coded answer / 256 ≡ (told answer).number
unfolding coded
coded_refusal answer h = omega arith

-- a refused table is told with the number and the position that the table check gives, and an accepted one with 0
pub table_refused : (t : List ℕ) (r : Refusal) → judged t ≡ Err r
    → (table_coded (taken_of t) % 65536 ≡ r.place) × (table_coded (taken_of t) / 65536 ≡ r.number)
unfolding table_coded
table_refused t r h =
    let e = (taken_refused t r).1 h in
    let b = taken_high t r e in
    rw e (omega arith, omega arith)

pub table_accepted : (t : List ℕ) → (table_coded (taken_of t) ≡ 0) ↔ (judged t ≡ Ok tt)
unfolding table_coded
table_accepted t = (by (taken_of t) refl, λ h. rw (right_taken t h))
  where
    by : (v : Verdict) → taken_of t ≡ v → table_coded (taken_of t) ≡ 0 → judged t ≡ Ok tt
    by (Ok tt) e h = taken_right t e
    by (Err r) e h =
        let n = (first_fault t r ((taken_refused t r).0 e)).number in
        let z : table_coded (Err r) ≡ 0 = rw e at h in
        absurd (omega arith)

-- the judge's answer is taken apart: 0 exactly where every slot holds its longest frame
pub judge_holds : (t : List ℕ) (tick bit : ℕ) → (judge_coded (judge_of t tick bit) ≡ 0) ↔ (judge_of t tick bit ≡ Ok None)
unfolding judge_coded
judge_holds t tick bit = (by (judge_of t tick bit) refl, λ h. rw h)
  where
    by : (j : Judgement) → judge_of t tick bit ≡ j → judge_coded (judge_of t tick bit) ≡ 0 → judge_of t tick bit ≡ Ok None
    by (Ok None) e h = e
    by (Ok (Some k)) e h = let z : judge_coded (Ok (Some k)) ≡ 0 = rw e at h in absurd (omega arith)
    by (Err r) e h =
        let z : judge_coded (Err r) ≡ 0 = rw e at h in
        absurd (⊎_elim (λ n. omega arith) (λ n. omega arith) (refused_number t tick bit r e))

-- of a short entry the low sixteen bits are its number, and what is above them is 256, with no refusal number in its low byte
pub judge_short : (t : List ℕ) (tick bit e : ℕ) → judge_of t tick bit ≡ Ok (Some e)
    → (judge_coded (judge_of t tick bit) % 65536 ≡ e) × (judge_coded (judge_of t tick bit) / 65536 ≡ 256)
unfolding judge_coded
judge_short t tick bit e h = let b = short_high t tick bit e h in rw h (omega arith, omega arith)

-- of a refusal they are its position and its number
pub judge_refused : (t : List ℕ) (tick bit : ℕ) (r : Refusal) → judge_of t tick bit ≡ Err r
    → (judge_coded (judge_of t tick bit) % 65536 ≡ r.place) × (judge_coded (judge_of t tick bit) / 65536 ≡ r.number)
unfolding judge_coded
judge_refused t tick bit r h = let b = refused_high t tick bit r h in rw h (omega arith, omega arith)

-- 0 wishes for classic, and every other number for enhanced
pub wish_exactly : (n : ℕ) → (wish_of n ≡ Classic) ↔ (n ≡ 0)
unfolding wish_of
wish_exactly n = (
  (λ h. whether (eqb n 0) (eqb-true n 0) (λ q. let e : Enhanced ≡ Classic = rw q at h in let z : ◌≡◌ {A = ℕ} 0 1 = cc in absurd (omega arith))),
  (λ h. rw (eq-eqb n 0 h)),
)
