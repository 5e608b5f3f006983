-- Document 01, "Refusal numbers": "Each call tests those that concern it; the lowest number is given.", over every table, state, buffer and call.
use Prim.Native.Nat.{ℕ, suc, ◌<◌}
use mathlib.Core.Path.{◌≡◌, refl, sym, ◌∙◌}
use mathlib.Core.Logic.{◌↔◌, ⊎_elim}
use mathlib.Core.List.{List}
use native.Mathlib.Decide.{ℕ_discrete}
use native.Mathlib.Omega.{arith}
use Rattle.refusal.specs.declared.Refusal.{Refusal}
use Rattle.cluster.specs.Check.{judged, taken_of}
use Rattle.cluster.proofs.TakenLaws.{taken_refused}
use Rattle.cluster.proofs.FirstFault.{first_fault}
use Rattle.transport.proofs.Tests.{order}
use Rattle.master.specs.Admit.{admitted}
use Rattle.master.specs.Read.{read_verdict}
use Rattle.master.specs.Select.{select_verdict}
use Rattle.master.specs.Tick.{tick_verdict}
use Rattle.master.specs.Byte.{byte_verdict}
use Rattle.master.specs.Message.{send_verdict}
use Rattle.master.specs.Ahead.{ahead_verdict}
use Rattle.master.specs.Told.{told_as, values_of}
use Rattle.master.specs.Calls as call
use Rattle.master.specs.Calls.{Call}
use Rattle.master.specs.Run.{Held, answer_of}
use Rattle.master.specs.Step.{verdict_of, refusal_of, told_of}
use Rattle.master.proofs.StepLaws.{verdict_told_lem, refused_exactly}
use Rattle.master.proofs.Rows.{Row, table_fault}
use Rattle.master.proofs.RowTests.{Lowest, not_0}
use Rattle.master.proofs.RowCalls.{call_lowest}
use Rattle.std.specs.Prelude.{Ok, Err}
use Rattle.cluster.specs.Check.{Verdict}

abbrev First : List ℕ → Held → Call → ℕ → Type 0
First t x c n = Row t x c n × ((k : ℕ) → k < n → ¬ Row t x c k)

-- a number is given if and only if its row applies and none of a lower number does
pub lowest_number : (t : List ℕ) (x : Held) (c : Call) (n : ℕ)
    → ((told_of c (answer_of t x c)).number ≡ suc n) ↔ (Row t x c (suc n) × ((k : ℕ) → k < suc n → ¬ Row t x c k))
lowest_number t x c n = rw (verdict_told_lem t x c) (by (verdict_of t x c) (call_lowest t x c))
  where
    one : (m : ℕ) → First t x c m → First t x c (suc n) → m ≡ suc n
    one m l w =
        order m n (λ b. absurd (w.1 m (omega arith) l.0)) (λ b.
        elim (ℕ_discrete m (suc n)) [
          | yes p ↦ p
          | no p ↦ absurd (l.1 (suc n) (omega arith) w.0)
        ])

    by : (v : Verdict) → Lowest t x c v → ((told_as v (values_of t x c)).number ≡ suc n) ↔ First t x c (suc n)
    by (Ok tt) l = (λ e. absurd (omega arith), λ w. absurd (l (suc n) w.0))
    by (Err r) l = (λ e. let w : First t x c r.number = (l.0, l.1) in rw e at w, λ w. one r.number (l.0, l.1) w)

-- none is given if and only if no row applies
pub no_number : (t : List ℕ) (x : Held) (c : Call) → ((told_of c (answer_of t x c)).number ≡ 0) ↔ ((k : ℕ) → ¬ Row t x c k)
no_number t x c = rw (verdict_told_lem t x c) (by (verdict_of t x c) (call_lowest t x c))
  where
    by : (v : Verdict) → Lowest t x c v → ((told_as v (values_of t x c)).number ≡ 0) ↔ ((k : ℕ) → ¬ Row t x c k)
    by (Ok tt) l = (λ e. l, λ w. refl)
    by (Err r) l = (λ e. absurd (not_0 t x c r.number (omega arith) l.0), λ w. absurd (w r.number l.0))

-- ---- "return only the number (1 also the position)"

-- a call refuses a table as the table check does
table_refused : (t : List ℕ) (x : Held) (c : Call) (r : Refusal) → judged t ≡ Err r → verdict_of t x c ≡ Err r
unfolding verdict_of read_verdict select_verdict tick_verdict byte_verdict send_verdict ahead_verdict admitted
table_refused t x c r e = by c
  where
    f : taken_of t ≡ Err r
    f = (taken_refused t r).1 e

    by : (c : Call) → verdict_of t x c ≡ Err r
    by (call.write w) = rw f
    by (call.read s) = rw f
    by (call.read_array s) = rw f
    by (call.select n) = rw f
    by (call.tick m) = rw f
    by (call.byte_in b) = rw f
    by call.read_status = rw f
    by (call.send nad n) = rw f
    by call.message_state = rw f
    by (call.number_ahead f') = rw f

-- a refusal with 1 is the table check's, with its position, and every other has place 0
pub place_told : (t : List ℕ) (x : Held) (c : Call) (r : Refusal) → answer_of t x c ≡ refusal_of c r
    → (r.number ≡ 1 → judged t ≡ Err r) × (¬ (r.number ≡ 1) → r.place ≡ 0)
place_told t x c r a = by (verdict_of t x c) refl (call_lowest t x c)
  where
    v : verdict_of t x c ≡ Err r
    v = (refused_exactly t x c r).0 a

    fault : (d : Call) → Row t x d 1 → judged t ≡ Err r
    fault d (table_fault q e) = e ∙ sym (table_refused t x c q e) ∙ v

    by : (w : Verdict) → verdict_of t x c ≡ w → Lowest t x c w → (r.number ≡ 1 → judged t ≡ Err r) × (¬ (r.number ≡ 1) → r.place ≡ 0)
    by (Ok tt) e l = let u = v in let z : ◌≡◌ {A = ℕ} 0 1 = cc in absurd (omega arith)
    by (Err q) e l =
        let u = v in
        let same : q ≡ r = cc in
        let k = rw same at l in (
          (λ i. fault c (rw i at k.0)),
          (λ n. ⊎_elim (λ p. p) (λ j. absurd (n (first_fault t r j).number)) k.2),
        )
