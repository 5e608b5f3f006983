-- The fresh call: which number it gives, and that a refused one leaves the frame bytes.
use Prim.Native.Nat.{ℕ, ◌*◌}
use mathlib.Core.Path.{◌≡◌, refl, ap}
use mathlib.Core.Logic.{◌↔◌}
use mathlib.Core.List.{List}
use native.Mathlib.Omega.{arith}
use borrow.Author.Tests.{eqb-true, eqb-false}
use lib.Dec.{eqb}
use lib.ListN.{length}
use Rattle.refusal.specs.declared.Refusal.{Refusal}
use Rattle.cluster.specs.Check.{judged, taken_of, RightTable}
use Rattle.cluster.specs.Table.{frame_count}
use Rattle.cluster.proofs.FirstFault.{first_fault}
use Rattle.cluster.proofs.TakenLaws.{taken_right, taken_refused}
use Rattle.transport.proofs.Tests.{whether}
use Rattle.master.specs.Answers.{Started}
use Rattle.master.specs.Admit.{buffer_size, Step}
use Rattle.master.specs.Answers.{fresh_told}
use Rattle.master.specs.Start.{fresh_verdict, fresh_of}
use Rattle.master.proofs.Answered.{by_verdict}
use Rattle.std.specs.Prelude.{Ok, Err}
use Rattle.cluster.specs.Check.{Verdict}
use Rattle.master.specs.Calls.{FreshAnswer}

-- a refused fresh leaves the frame bytes
pub fresh_refused : (t bs : List ℕ) (r : Refusal) → (fresh_of t bs).given.answer ≡ Err r → (fresh_of t bs).left ≡ bs
unfolding fresh_of
fresh_refused t bs =
    by_verdict (λ (w : Step Started). (r : Refusal) → w.given.answer ≡ Err r → w.left ≡ bs) (fresh_verdict t (length bs)) _ _
    (λ q e r k. refl)
    (λ a r k. cc)

-- "Refusal numbers", of the fresh call: 1 if and only if the table check finds a fault, and then as it tells it; else 2 if and only if the buffer
-- isn't 8F bytes; else none
pub record FreshRows (t bs : List ℕ) (a : FreshAnswer) : Type 0 where
  pub fault : (r : Refusal) → (judged t ≡ Err r) ↔ (((fresh_told a).number ≡ 1) × (a ≡ Err r))
  pub size : (RightTable t × ¬ (length bs ≡ 8 * frame_count t)) ↔ (a ≡ Err (record { number = 2; place = 0 }))
  pub none : (RightTable t × (length bs ≡ 8 * frame_count t)) ↔ (a ≡ Ok tt)

pub fresh_rows : (t bs : List ℕ) → FreshRows t bs (fresh_of t bs).given.answer
unfolding fresh_of fresh_verdict buffer_size
fresh_rows t bs = by (taken_of t) refl
  where
    by : (v : Verdict) → taken_of t ≡ v → FreshRows t bs (fresh_of t bs).given.answer
    by (Err q) e =
        let j = (taken_refused t q).0 e in
        let n = (first_fault t q j).number in
        rw e (record {
          fault = λ r. (λ k. let same : q ≡ r = cc in (n, ap Err same), λ w. let same : q ≡ r = cc in rw same at j);
          size = (
            (λ w. let k = w.0 in let z : ◌≡◌ {A = ℕ} 0 1 = cc in absurd (omega arith)),
            (λ k. let m : q.number ≡ 2 = cc in absurd (omega arith)),
          );
          none = (λ w. let k = w.0 in let z : ◌≡◌ {A = ℕ} 0 1 = cc in absurd (omega arith), λ k. let z : ◌≡◌ {A = ℕ} 0 1 = cc in absurd (omega arith));
        })
    by (Ok tt) e =
        let ok = taken_right t e in
        whether (eqb (length bs) (8 * frame_count t))
        (λ y. let l = eqb-true (length bs) (8 * frame_count t) y in rw (e, y) (record {
          fault = λ r. (λ k. let z : ◌≡◌ {A = ℕ} 0 1 = cc in absurd (omega arith), λ w. absurd (omega (arith, w.0)));
          size = (λ w. absurd (w.1 l), λ k. let z : ◌≡◌ {A = ℕ} 0 1 = cc in absurd (omega arith));
          none = (λ w. refl, λ k. (ok, l));
        }))
        (λ y. let n = eqb-false (length bs) (8 * frame_count t) y in rw (e, y) (record {
          fault = λ r. (λ k. let z : ◌≡◌ {A = ℕ} 0 1 = cc in absurd (omega arith), λ w. absurd (omega (arith, w.0)));
          size = (λ w. refl, λ k. (ok, n));
          none = (λ w. absurd (n w.1), λ k. let z : ◌≡◌ {A = ℕ} 0 1 = cc in absurd (omega arith));
        }))
