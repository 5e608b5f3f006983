-- Document 02, Req 01: a row is written exactly when each of its single writes would be, and leaves what they leave; it is refused at a place with a
-- number exactly when the single writes before that place would be accepted and the one there refused with that number.
use Prim.Native.Nat.{ℕ, suc, ◌+◌}
use mathlib.Core.Path.{◌≡◌, refl, sym, ◌∙◌, ap}
use mathlib.Core.Logic.{◌↔◌}
use mathlib.Core.Bool.{Bool, true, false, beq}
use mathlib.Core.List.{List, [], ◌∷◌, ◌++◌}
use native.Mathlib.Omega.{arith}
use borrow.Author.Tests.{eqb-true, eqb-false, eq-eqb, ne_eqb}
use lib.Dec.{ltb, eqb}
use lib.ListN.{length, get_or}
use Rattle.refusal.specs.declared.Refusal.{Refusal}
use Rattle.refusal.specs.Numbers.{refused, refused_at}
use Rattle.cluster.specs.Table.{signal_count, is_array}
use Rattle.cluster.specs.Values.{signal_published}
use Rattle.cluster.proofs.Accepted.{then_first, then_second}
use Rattle.transport.proofs.Tests.{whether}
use Rattle.master.specs.Answers.{Wrote}
use Rattle.master.specs.Admit.{unless, admitted, Step}
use Rattle.master.specs.Put.{Put, put, scalar, puts}
use Rattle.master.specs.Write.{is_bytes, fits_signal, writable, marked, write_verdict, write_of}
use Rattle.master.specs.WriteRow.{at_place, put_verdict, first_bad, row_verdict, marked_bits, rewritten_by, with_row, marked_row, row_of}
use Rattle.master.specs.Calls as call
use Rattle.master.specs.Run.{Held, held, answer_of, left_by}
use Rattle.master.specs.Step.{verdict_of, effect_of, refusal_of}
use Rattle.master.specs.RowInWords.{row_answer, row_left, after_writes, AllWritten, Admitted, RowRefused, as_every_call, unequal, bad_pair}
use Rattle.master.proofs.Admitted.{admits, admitted_taken, admitted_size, admitted_fits}
use Rattle.master.proofs.Answered.{by_verdict}
use Rattle.master.proofs.RowTurns.{row_knows, placed_accepted}
use Rattle.master.proofs.StepLaws.{goes, left_by_verdict, keeps_fit, keeps_bytes, refused_exactly}
use Rattle.master.proofs.WriteLaws.{write_accepts}
use Rattle.std.specs.Prelude.{Ok, Err}
use Rattle.cluster.specs.Check.{Verdict}

-- ---- the pairs of a row

-- pair i has signal i and value i
pub pair_at_lem : (ss vs : List ℕ) (before : List Put) (w : Put) (after : List Put) → puts ss vs ≡ before ++ (w ∷ after)
    → w ≡ put (get_or ss (length before) 0) (scalar (get_or vs (length before) 0))
unfolding puts
pair_at_lem [] vs [] w after e = let z : ◌≡◌ {A = ℕ} 0 1 = cc in absurd (omega arith)
pair_at_lem [] vs (b ∷ before) w after e = let z : ◌≡◌ {A = ℕ} 0 1 = cc in absurd (omega arith)
pair_at_lem (s ∷ ss) [] [] w after e = let z : ◌≡◌ {A = ℕ} 0 1 = cc in absurd (omega arith)
pair_at_lem (s ∷ ss) [] (b ∷ before) w after e = let z : ◌≡◌ {A = ℕ} 0 1 = cc in absurd (omega arith)
pair_at_lem (s ∷ ss) (v ∷ vs) [] w after e = cc
pair_at_lem (s ∷ ss) (v ∷ vs) (b ∷ before) w after e = let q : puts ss vs ≡ before ++ (w ∷ after) = cc in pair_at_lem ss vs before w after q

-- and there are as many as signals
pub pair_count : (ss vs : List ℕ) → length ss ≡ length vs → length (puts ss vs) ≡ length ss
unfolding puts
pair_count [] vs e = refl
pair_count (s ∷ ss) [] e = absurd (omega arith)
pair_count (s ∷ ss) (v ∷ vs) e = ap suc (pair_count ss vs (omega arith))

-- ---- a single write behind tests 1 to 3

-- refusals 4 to 7 have no place of their own
plain : (t : List ℕ) (w : Put) (r : Refusal) → put_verdict t w ≡ Err r → r ≡ refused r.number
unfolding writable
plain t w r e = by (ltb w.signal (signal_count t)) (signal_published t w.signal) (beq (is_array t w.signal) (is_bytes w.value))
    (fits_signal t w.signal w.value) e
  where
    by : (a b c d : Bool) → unless a 4 (unless b 5 (unless c 6 (unless d 7 (Ok tt)))) ≡ Err r → r ≡ refused r.number
    by true true true true h = let z : ◌≡◌ {A = ℕ} 0 1 = cc in absurd (omega arith)
    by true true true false h = let q : refused 7 ≡ r = cc in rw (← q)
    by true true false d h = let q : refused 6 ≡ r = cc in rw (← q)
    by true false c d h = let q : refused 5 ≡ r = cc in rw (← q)
    by false b c d h = let q : refused 4 ≡ r = cc in rw (← q)

module _ (t : List ℕ) (x : Held) (ad : Admitted t x) (w : Put) where
  -- its verdict is that of 4 to 7
  behind : write_verdict t (length x.bytes) x.state w ≡ put_verdict t w
  behind = rw ad

  written : (answer_of t x (call.write w) ≡ Ok tt) ↔ (put_verdict t w ≡ Ok tt)
  unfolding answer_of write_of
  written = ((λ k. sym behind ∙ write_accepts t x.state x.bytes w k), (λ a. ap (λ (z : Step Wrote). z.given.answer) (goes _ _ _ (behind ∙ a))))

  refuses : (r : Refusal) → (answer_of t x (call.write w) ≡ Err r) ↔ (put_verdict t w ≡ Err r)
  unfolding verdict_of refusal_of
  refuses r = (
    (λ k. sym behind ∙ (refused_exactly t x (call.write w) r).0 k),
    (λ a. (refused_exactly t x (call.write w) r).1 (behind ∙ a)),
  )

  -- what an accepted one leaves is admitted again
  still : Admitted t (left_by t x (call.write w))
  still =
      admits t _ _ (admitted_taken t _ _ ad) (keeps_bytes t x (call.write w) ∙ admitted_size t _ _ ad)
      (keeps_fit t x (call.write w) (admitted_fits t _ _ ad))

  -- and has its marks and its value
  leaves : put_verdict t w ≡ Ok tt → left_by t x (call.write w) ≡ effect_of t x (call.write w)
  unfolding verdict_of
  leaves a = left_by_verdict t x (call.write w) ∙ rw (ad, a)

-- ---- the pairs one after the other

-- no pair is bad exactly when each write is accepted
pub none_bad : (t : List ℕ) (x : Held) → Admitted t x → (i : ℕ) (ws : List Put) → (first_bad t i ws ≡ Ok tt) ↔ AllWritten t x ws
unfolding first_bad
none_bad t x ad i [] = (λ e. tt, λ u. refl)
none_bad t x ad i (w ∷ ws) = (
  (λ e. (
    (written t x ad w).1 (placed_accepted i (put_verdict t w) (then_first (at_place i (put_verdict t w)) (first_bad t (suc i) ws) e)),
    (none_bad t (left_by t x (call.write w)) (still t x ad w) (suc i) ws).0 (then_second (at_place i (put_verdict t w)) (first_bad t (suc i) ws) e),
  )),
  (λ u. rw ((written t x ad w).0 u.0) ((none_bad t (left_by t x (call.write w)) (still t x ad w) (suc i) ws).1 u.1)),
)

-- the first bad pair: the writes before it are accepted, and it is refused
record Bad (t : List ℕ) (x : Held) (i : ℕ) (ws : List Put) (r : Refusal) : Type 0 where
  before : List Put
  pair : Put
  after : List Put
  number : ℕ
  split : ws ≡ before ++ (pair ∷ after)
  all_written : AllWritten t x before
  refused_there : answer_of t (after_writes t x before) (call.write pair) ≡ Err (refused number)
  given : r ≡ refused_at number (i + length before)

first_bad_is : (t : List ℕ) (x : Held) → Admitted t x → (i : ℕ) (ws : List Put) (r : Refusal) → first_bad t i ws ≡ Err r → Bad t x i ws r
unfolding first_bad after_writes
first_bad_is t x ad i [] r e = let z : ◌≡◌ {A = ℕ} 0 1 = cc in absurd (omega arith)
first_bad_is t x ad i (w ∷ ws) r e = by (put_verdict t w) refl (first_bad_is t (left_by t x (call.write w)) (still t x ad w) (suc i) ws r)
  where
    by : (v : Verdict) → put_verdict t w ≡ v
        → (first_bad t (suc i) ws ≡ Err r → Bad t (left_by t x (call.write w)) (suc i) ws r) → Bad t x i (w ∷ ws) r
    by (Ok tt) p later =
        let b = later (rw p at e) in
        record {
          before = w ∷ b.before;
          pair = b.pair;
          after = b.after;
          number = b.number;
          split = ap (λ us. w ∷ us) b.split;
          all_written = ((written t x ad w).1 p, b.all_written);
          refused_there = b.refused_there;
          given = b.given ∙ ap (refused_at b.number) (omega arith);
        }
    by (Err q) p later =
        let z : Err (refused_at q.number i) ≡ Err r = rw p at e in
        let there : r ≡ refused_at q.number i = cc in
        record {
          before = [];
          pair = w;
          after = ws;
          number = q.number;
          split = refl;
          all_written = tt;
          refused_there = (refuses t x ad w (refused q.number)).1 (p ∙ ap Err (plain t w q p));
          given = there ∙ ap (refused_at q.number) (omega arith);
        }

bad_is_first : (t : List ℕ) (x : Held) → Admitted t x → (i : ℕ) (before : List Put) (w : Put) (after : List Put) (n : ℕ)
    → AllWritten t x before → answer_of t (after_writes t x before) (call.write w) ≡ Err (refused n)
    → first_bad t i (before ++ (w ∷ after)) ≡ Err (refused_at n (i + length before))
unfolding first_bad after_writes
bad_is_first t x ad i [] w after n u e =
    let at : i ≡ i + 0 = omega arith in
    rw ((refuses t x ad w (refused n)).0 e, ← at)
bad_is_first t x ad i (b ∷ before) w after n u e =
    let at : suc i + length before ≡ i + suc (length before) = omega arith in
    rw ((written t x ad b).0 u.0, bad_is_first t (left_by t x (call.write b)) (still t x ad b) (suc i) before w after n u.1 e, at)

-- ---- what a row leaves

-- the marks and the values of a row are those of its writes one after the other
leaves_all : (t : List ℕ) (x : Held) → Admitted t x → (ss vs : List ℕ) → length ss ≡ length vs → AllWritten t x (puts ss vs)
    → held (marked_row t ss x.state) (with_row t x.bytes (puts ss vs)) ≡ after_writes t x (puts ss vs)
unfolding puts marked_row marked_bits rewritten_by with_row after_writes effect_of marked
leaves_all t x ad [] vs same u = refl
leaves_all t x ad (s ∷ ss) [] same u = absurd (omega arith)
leaves_all t x ad (s ∷ ss) (v ∷ vs) same u =
    let w = put s (scalar v) in
    let l = leaves t x ad w ((written t x ad w).0 u.0) in
    leaves_all t (effect_of t x (call.write w)) (rw l at (still t x ad w)) ss vs (omega arith) (rw l at u.1)
    ∙ ap (λ y. after_writes t y (puts ss vs)) (sym l)

-- ---- a row

module _ (t : List ℕ) (x : Held) (ss vs : List ℕ) where
  abbrev verdict_here : Verdict
  verdict_here = row_verdict t (length x.bytes) x.state ss vs

  accepts : (row_answer t x ss vs ≡ Ok tt) ↔ (verdict_here ≡ Ok tt)
  unfolding row_answer row_of
  accepts = (
    by_verdict (λ (z : Step Wrote). z.given.answer ≡ Ok tt → verdict_here ≡ Ok tt) verdict_here _ _
        (λ r e k. let z : ◌≡◌ {A = ℕ} 0 1 = cc in absurd (omega arith)) (λ a k. a),
    (λ a. rw (row_answer, row_of, a)),
  )

  refused_by : (r : Refusal) → (row_answer t x ss vs ≡ Err r) ↔ (verdict_here ≡ Err r)
  unfolding row_answer row_of
  refused_by r = (
    by_verdict (λ (z : Step Wrote). z.given.answer ≡ Err r → verdict_here ≡ Err r) verdict_here _ _
        (λ q e k. let z : q ≡ r = cc in e ∙ ap Err z) (λ a k. let z : ◌≡◌ {A = ℕ} 0 1 = cc in absurd (omega arith)),
    (λ a. rw (row_answer, row_of, a)),
  )

  -- a row is written exactly when tests 1 to 3 hold, its rows are of one length and each of its single writes is accepted
  pub row_written_exactly : (row_answer t x ss vs ≡ Ok tt) ↔ (Admitted t x × (length ss ≡ length vs) × AllWritten t x (puts ss vs))
  unfolding row_verdict
  row_written_exactly = (
    (λ k.
        let knows = row_knows t (length x.bytes) x.state ss vs (accepts.0 k) in
        (knows.admits, knows.equal, (none_bad t x knows.admits 0 (puts ss vs)).0 knows.good)),
    (λ h. accepts.1 (rw (h.0, eq-eqb (length ss) (length vs) h.1, (none_bad t x h.0 0 (puts ss vs)).1 h.2))),
  )

  -- and then it leaves what they leave
  pub row_is_writes : row_answer t x ss vs ≡ Ok tt → row_left t x ss vs ≡ after_writes t x (puts ss vs)
  unfolding row_left row_of
  row_is_writes k =
      let h = row_written_exactly.0 k in
      rw (accepts.0 k) (leaves_all t x h.0 ss vs h.1 h.2)

  -- "If one would be refused, none is written."
  pub row_refused_unchanged : (r : Refusal) → row_answer t x ss vs ≡ Err r → row_left t x ss vs ≡ x
  unfolding row_left row_of
  row_refused_unchanged r k = rw ((refused_by r).0 k)

  -- a row is refused exactly so
  pub row_refused_exactly : (r : Refusal) → (row_answer t x ss vs ≡ Err r) ↔ RowRefused t x ss vs r
  unfolding row_verdict
  row_refused_exactly r = ((λ k. first (admitted t (length x.bytes) x.state) refl ((refused_by r).0 k)), back r)
    where
      pairs : Admitted t x → length ss ≡ length vs → first_bad t 0 (puts ss vs) ≡ Err r → RowRefused t x ss vs r
      pairs ad same e =
          let b = first_bad_is t x ad 0 (puts ss vs) r e in
          let here : r ≡ refused_at b.number (length b.before) = b.given ∙ ap (refused_at b.number) (omega arith) in
          rw here (bad_pair ad same b.before b.pair b.after b.number b.split b.all_written b.refused_there)

      rest : Admitted t x → unless (eqb (length ss) (length vs)) 12 (first_bad t 0 (puts ss vs)) ≡ Err r → RowRefused t x ss vs r
      rest ad e =
          whether (eqb (length ss) (length vs))
          (λ y. pairs ad (eqb-true (length ss) (length vs) y) (rw y at e))
          (λ n.
          let z : Err (refused 12) ≡ Err r = rw n at e in
          let q : refused 12 ≡ r = cc in
          rw (← q) (unequal ad (eqb-false (length ss) (length vs) n)))

      first : (v : Verdict) → admitted t (length x.bytes) x.state ≡ v → verdict_here ≡ Err r → RowRefused t x ss vs r
      first (Ok tt) a e = rest a (rw a at e)
      first (Err q) a e = let z : Err q ≡ Err r = rw a at e in as_every_call (a ∙ z)

      back : (r : Refusal) → RowRefused t x ss vs r → row_answer t x ss vs ≡ Err r
      back r (as_every_call a) = (refused_by r).1 (rw a)
      back r (unequal ad n) = (refused_by (refused 12)).1 (rw (ad, ne_eqb (length ss) (length vs) n))
      back r (bad_pair ad same before w after n split u e) =
          let at : 0 + length before ≡ length before = omega arith in
          let there : first_bad t 0 (before ++ (w ∷ after)) ≡ Err (refused_at n (length before)) = rw at at (bad_is_first t x ad 0 before w after n u e) in
          (refused_by (refused_at n (length before))).1 (rw (ad, eq-eqb (length ss) (length vs) same, split) there)
