-- What the table check tells: 1 and the number of words that are right before the first that is wrong, missing or surplus, or nothing.
use Prim.Native.Nat.{ℕ, suc, ◌+◌, ◌≤◌}
use mathlib.Core.Path.{◌≡◌, refl, sym, ◌∙◌}
use mathlib.Core.Bool.{Bool, cond, ◌&&◌}
use mathlib.Core.List.{List, [], ◌∷◌}
use native.Mathlib.Omega.{arith}
use borrow.Author.Tests.{eqb-true, eqb-false, eq-eqb, ne_eqb, lt-ltb, le-ltb}
use lib.Dec.{ltb, eqb}
use lib.ListN.{length}
use native.Mathlib.Nat.{zero-add}
use Rattle.wire.proofs.Tests.{whether}
use Rattle.signal.proofs.Inside.{order}
use Rattle.cluster.specs.Table.{size}
use Rattle.cluster.specs.Right.{words_right}
use Rattle.cluster.specs.Check.{fault, faults, surplus, judged, taken_of}
use Rattle.cluster.specs.Answers.{verdict_told, right_from, right_words, check_told}
use Rattle.cluster.proofs.Accepted.{words, faults_length, none_missing}
use Rattle.std.specs.Prelude.{Ok, Err}
use Rattle.std.specs.Result.{IsErrAnd}
use Rattle.refusal.specs.declared.Refusal.{Refusal}
use Rattle.refusal.proofs.PassedOn.{passed_on}
use Rattle.cluster.specs.Check.{Verdict}

-- the first fault of some words stands behind those that are right
faults_right : (t : List ℕ) (i : ℕ) (rights : List Bool)
    → faults t i rights ≡ cond (eqb (right_from t i rights) (length rights)) (Ok tt) (fault (i + right_from t i rights))
unfolding faults right_from
faults_right t i [] = refl
faults_right t i (right ∷ rest) =
    whether (ltb i (length t) && right)
    (λ y. rw y (faults_right t (suc i) rest ∙ later (right_from t (suc i) rest)))
    (λ n. let z : i + 0 ≡ i = omega arith in rw (n, z, ne_eqb 0 (suc (length rest)) (λ e. omega arith)))
  where
    later : (k : ℕ) → cond (eqb k (length rest)) (Ok tt) (fault (suc i + k)) ≡ cond (eqb (suc k) (suc (length rest))) (Ok tt) (fault (i + suc k))
    later k =
        let e : suc i + k ≡ i + suc k = omega arith in
        whether (eqb k (length rest))
        (λ y. let q = eqb-true k (length rest) y in rw (y, eq-eqb (suc k) (suc (length rest)) (omega arith)))
        (λ n. let q = eqb-false k (length rest) n in rw (n, ne_eqb (suc k) (suc (length rest)) (λ p. q (omega arith)), e))

judged_told_lem : (t : List ℕ) → verdict_told (judged t) ≡ check_told t
unfolding judged surplus check_told right_words
judged_told_lem t =
    let rights = words_right t in
    let k = right_from t 0 rights in
    let f : faults t 0 rights ≡ cond (eqb k (length rights)) (Ok tt) (fault k) = faults_right t 0 rights ∙ rw zero-add in
    whether (eqb k (length rights))
    (λ y.
    let a : faults t 0 rights ≡ (Ok tt) = f ∙ rw y in
    let all : length rights ≡ size t = words t (none_missing t a) in
    let e : k ≡ size t = eqb-true k (length rights) y ∙ all in
    let l : size t ≤ length t = omega (arith, faults_length t 0 rights a (omega arith), all) in
    order (size t) (length t)
    (λ b. rw (a, y, lt-ltb (size t) (length t) b, ne_eqb (length t) (size t) (λ q. omega arith), e))
    (λ b. rw (a, y, le-ltb (size t) (length t) b, eq-eqb (length t) (size t) (omega arith))))
    (λ n. let a : faults t 0 rights ≡ fault k = f ∙ rw n in rw (a, n))

-- the clause of the table check, from its answer
pub check_told_lem : (t : List ℕ) (r : Verdict) → r ≡ judged t → (r ≡ judged t) × (verdict_told r ≡ check_told t)
check_told_lem t r e = (e, rw e (judged_told_lem t))

-- the same under the clauses' names
abbrev pub Answered : List ℕ → Verdict → Type 0
Answered t r = record { value : r ≡ judged t; told : verdict_told r ≡ check_told t }

pub answered : (t : List ℕ) (r : Verdict) → r ≡ judged t → Answered t r
answered t r e = let all = check_told_lem t r e in record { value = all.0; told = all.1 }

-- what a `?` hands on is the refusal of the section that it met
pub refused : (t : List ℕ) (r : Verdict) (e : Refusal) → IsErrAnd r (λ y. y ≡ e) → judged t ≡ Err e → Answered t r
refused t r e handed is = answered t r (passed_on r e handed ∙ sym is)

-- and those of the table that a call takes
pub taken_told : (t : List ℕ) (r : Verdict) → r ≡ taken_of t → (r ≡ taken_of t) × (verdict_told r ≡ check_told t)
unfolding taken_of
taken_told t r e = (e, rw e (judged_told_lem t))
