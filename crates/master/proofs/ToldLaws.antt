-- What every call tells: refusal 1 as the table check tells it, else the first of its other tests that fails, and else its values.
use Prim.Native.Nat.{ℕ, ◌*◌}
use mathlib.Core.Path.{◌≡◌, refl, sym, ◌∙◌, ap}
use mathlib.Core.Bool.{Bool, true, false, not, beq}
use mathlib.Core.List.{List, [], ◌∷◌}
use borrow.Author.Tests.{eq-eqb}
use lib.Dec.{ltb, eqb}
use lib.ListN.{length}
use Rattle.refusal.specs.declared.Refusal.{Refusal}
use Rattle.refusal.specs.Answers.{Test, test, first_failing}
use Rattle.cluster.specs.Check.{taken_of, then}
use Rattle.cluster.specs.Answers.{verdict_told, behind_table}
use Rattle.cluster.specs.Table.{frame_count, signal_count, is_array, member_count, schedule_count}
use Rattle.cluster.specs.Lists.{member_of}
use Rattle.cluster.specs.Values.{signal_published}
use Rattle.transport.specs.Cutting.{is_length}
use Rattle.cluster.specs.Fresh.{fresh_bytes}
use Rattle.master.specs.Answers.{Started}
use Rattle.master.specs.Fresh.{fresh}
use Rattle.master.specs.declared.state.State.{State}
use Rattle.master.specs.Fits.{state_fits, is_sending, lent_fits}
use Rattle.master.specs.Transfers.{is_open}
use Rattle.master.specs.Admit.{unless, buffer_size, admitted, answered, Step, Leaves}
use Rattle.master.specs.Start.{fresh_verdict, fresh_of}
use Rattle.master.specs.Write.{is_bytes, fits_signal, writable, write_of}
use Rattle.master.specs.Put.{Put}
use Rattle.master.specs.Read.{read_verdict, read_scalar_of, read_array_of}
use Rattle.master.specs.Select.{select_verdict, select_of}
use Rattle.master.specs.Answers.{Chosen}
use Rattle.master.specs.Answers.{Wrote}
use Rattle.master.specs.Calls.{ArrayAnswer}
use Rattle.master.specs.Answers.{StatusRead}
use Rattle.master.specs.Answers.{Ticked}
use Rattle.master.specs.Answers.{Took}
use Rattle.master.specs.Answers.{Sent}
use Rattle.master.specs.Tick.{tick_verdict, tick_of}
use Rattle.master.specs.Byte.{byte_verdict, byte_of}
use Rattle.master.specs.Message.{send_verdict, send_of, message_of}
use Rattle.master.specs.Ahead.{ahead_verdict, ahead_of}
use Rattle.master.specs.Status.{status_of}
use Rattle.master.specs.Answers.{fresh_told, write_told, read_told, array_told, select_told, tick_told, byte_told, status_told, send_told, message_told, ahead_told}
use Rattle.master.specs.Calls as call
use Rattle.master.specs.Calls.{Call}
use Rattle.master.specs.Run.{Held, held, answer_of}
use Rattle.master.specs.Step.{verdict_of, told_of}
use Rattle.master.specs.Told.{told_as, size_test, state_test, tests_of, values_of, call_told, fresh_call_told, admit_told}
use Rattle.master.proofs.Answered.{then_accepted}
use Rattle.master.proofs.StepLaws.{verdict_told_lem}
use Rattle.std.specs.Prelude.{Ok, Err}
use Rattle.cluster.specs.Check.{Verdict}
use Rattle.master.specs.Calls.{ReadAnswer}
use Rattle.master.specs.Calls.{AheadAnswer}
use Rattle.master.specs.Calls.{MessageResult}

module _ (vs : List ℕ) where
  -- a verdict and some tests tell the same
  abbrev Alike : Verdict → List Test → Type 0
  Alike v tests = told_as v vs ≡ first_failing tests vs

  done : Alike (Ok tt) []
  unfolding first_failing
  done = refl

  tested : (b : Bool) (n : ℕ) (v : Verdict) (tests : List Test) → Alike v tests → Alike (unless b n v) (test n b ∷ tests)
  unfolding first_failing
  tested true n v tests e = e
  tested false n v tests e = refl

  behind_table_lem : (w v : Verdict) (tests : List Test) → Alike v tests → told_as (then w v) vs ≡ behind_table w (first_failing tests vs)
  behind_table_lem (Ok tt) v tests e = e
  behind_table_lem (Err r) v tests e = refl

-- tests 1, 2 and 3 and the rest, one after the other
admitted_then : (t : List ℕ) (n : ℕ) (s : State) (v : Verdict)
    → then (admitted t n s) v ≡ then (taken_of t) (unless (eqb n (buffer_size t)) 2 (unless (state_fits t s) 3 v))
unfolding admitted
admitted_then t n s v = by (taken_of t) (eqb n (buffer_size t)) (state_fits t s)
  where
    by : (w : Verdict) (a b : Bool) → then (then w (unless a 2 (unless b 3 (Ok tt)))) v ≡ then w (unless a 2 (unless b 3 v))
    by (Ok tt) true true = refl
    by (Ok tt) true false = refl
    by (Ok tt) false b = refl
    by (Err r) a b = refl

module _ (t : List ℕ) (s : State) (vs : List ℕ) where
  -- of a call that is lent the frame bytes
  lent_told : (n : ℕ) (v : Verdict) (tests : List Test) → Alike vs v tests
      → told_as (then (admitted t n s) v) vs ≡ behind_table (taken_of t) (first_failing (size_test t n ∷ state_test t s ∷ tests) vs)
  unfolding buffer_size
  lent_told n v tests e =
      ap (λ (w : Verdict). told_as w vs) (admitted_then t n s v)
      ∙ behind_table_lem vs (taken_of t) _ _ (tested vs (eqb n (8 * frame_count t)) 2 _ _ (tested vs (state_fits t s) 3 v tests e))

  -- of one that is not
  unlent_told : (v : Verdict) (tests : List Test) → Alike vs v tests
      → told_as (then (admitted t (buffer_size t) s) v) vs ≡ behind_table (taken_of t) (first_failing (state_test t s ∷ tests) vs)
  unlent_told v tests e =
      let same : then (taken_of t) (unless (eqb (buffer_size t) (buffer_size t)) 2 (unless (state_fits t s) 3 v)) ≡ then (taken_of t) (unless (state_fits t s) 3 v) =
      rw (eq-eqb (buffer_size t) (buffer_size t) refl) in
      ap (λ (w : Verdict). told_as w vs) (admitted_then t (buffer_size t) s v ∙ same)
      ∙ behind_table_lem vs (taken_of t) _ _ (tested vs (state_fits t s) 3 v tests e)

  -- and of one with no test of its own
  asked_told : told_as (admitted t (buffer_size t) s) vs ≡ behind_table (taken_of t) (first_failing (state_test t s ∷ []) vs)
  asked_told = ap (λ (w : Verdict). told_as w vs) (sym (then_accepted (admitted t (buffer_size t) s))) ∙ unlent_told (Ok tt) [] (done vs)

-- the tests of every call
tests_told : (t : List ℕ) (x : Held) (c : Call) (vs : List ℕ) → told_as (verdict_of t x c) vs ≡ behind_table (taken_of t) (first_failing (tests_of t x c) vs)
unfolding verdict_of tests_of writable read_verdict select_verdict tick_verdict byte_verdict send_verdict ahead_verdict
tests_told t x (call.write w) vs =
    lent_told t x.state vs (length x.bytes) _ _
    (tested vs (ltb w.signal (signal_count t)) 4 _ _
    (tested vs (signal_published t w.signal) 5 _ _
    (tested vs (beq (is_array t w.signal) (is_bytes w.value)) 6 _ _ (tested vs (fits_signal t w.signal w.value) 7 _ _ (done vs)))))
tests_told t x (call.read s) vs =
    lent_told t x.state vs (length x.bytes) _ _
    (tested vs (ltb s (signal_count t)) 4 _ _ (tested vs (beq (is_array t s) false) 6 _ _ (done vs)))
tests_told t x (call.read_array s) vs =
    lent_told t x.state vs (length x.bytes) _ _
    (tested vs (ltb s (signal_count t)) 4 _ _ (tested vs (beq (is_array t s) true) 6 _ _ (done vs)))
tests_told t x (call.select n) vs = unlent_told t x.state vs _ _ (tested vs (ltb n (schedule_count t)) 4 _ _ (done vs))
tests_told t x (call.tick m) vs =
    lent_told t x.state vs (length x.bytes) _ _ (tested vs (lent_fits x.state.message (length m)) 3 _ _ (done vs))
tests_told t x (call.byte_in b) vs =
    lent_told t x.state vs (length x.bytes) _ _ (tested vs (is_open x.state.transfer.opened) 8 _ _ (done vs))
tests_told t x call.read_status vs = asked_told t x.state vs
tests_told t x (call.send nad n) vs =
    unlent_told t x.state vs _ _ (tested vs (is_length n) 9 _ _ (tested vs (not (is_sending x.state.message)) 10 _ _ (done vs)))
tests_told t x call.message_state vs = asked_told t x.state vs
tests_told t x (call.number_ahead f) vs = unlent_told t x.state vs _ _ (tested vs (ltb (member_of t f) (member_count t)) 4 _ _ (done vs))

-- every call tells the first of its tests that fails, or its values
pub call_told_lem : (t : List ℕ) (x : Held) (c : Call) → told_of c (answer_of t x c) ≡ call_told t x c
unfolding call_told
call_told_lem t x c = verdict_told_lem t x c ∙ tests_told t x c (values_of t x c)

-- and so does fresh
pub fresh_told_lem : (t bs : List ℕ) → fresh_told (fresh_of t bs).given.answer ≡ fresh_call_told t (length bs)
unfolding fresh_of fresh_verdict fresh_call_told buffer_size
fresh_told_lem t bs =
    by (fresh_verdict t (length bs))
    ∙ behind_table_lem [] (taken_of t) _ _ (tested [] (eqb (length bs) (8 * frame_count t)) 2 _ _ (done []))
  where
    refuse : Refusal → Step Started
    refuse r = record { given = record { state = fresh; answer = Err r }; left = bs }

    by : (v : Verdict) → fresh_told (answered v refuse (record { given = record { state = fresh; answer = Ok tt }; left = fresh_bytes t })).given.answer ≡ told_as v []
    by (Ok tt) = refl
    by (Err r) = refl

-- and the tests at the head of the calls
pub admit_told_lem : (t : List ℕ) (n : ℕ) (s : State) → verdict_told (admitted t n s) ≡ admit_told t n s
unfolding admitted admit_told buffer_size
admit_told_lem t n s =
    by (admitted t n s)
    ∙ behind_table_lem [] (taken_of t) _ _ (tested [] (eqb n (8 * frame_count t)) 2 _ _ (tested [] (state_fits t s) 3 _ _ (done [])))
  where
    by : (v : Verdict) → verdict_told v ≡ told_as v []
    by (Ok tt) = refl
    by (Err r) = refl

-- ---- what the contract of each call says beside the answer, from the answer alone

pub select_told_lem : (t : List ℕ) (x : State) (n : ℕ) (r : Chosen) → r ≡ select_of t x n → (r ≡ select_of t x n) × (select_told r.answer ≡ call_told t (held x []) (call.select n))
unfolding answer_of told_of
select_told_lem t x n r e = (e, rw e (call_told_lem t (held x []) (call.select n)))

pub read_told_lem : (t : List ℕ) (x : State) (bs : List ℕ) (s : ℕ) (r : ReadAnswer) → r ≡ read_scalar_of t x bs s
    → (r ≡ read_scalar_of t x bs s) × (read_told r ≡ call_told t (held x bs) (call.read s))
unfolding answer_of told_of
read_told_lem t x bs s r e = (e, rw e (call_told_lem t (held x bs) (call.read s)))

pub read_array_told : (t : List ℕ) (x : State) (bs : List ℕ) (s : ℕ) (r : ArrayAnswer) → r ≡ read_array_of t x bs s
    → (r ≡ read_array_of t x bs s) × (array_told r ≡ call_told t (held x bs) (call.read_array s))
unfolding answer_of told_of
read_array_told t x bs s r e = (e, rw e (call_told_lem t (held x bs) (call.read_array s)))

pub tick_told_lem : (t bs m : List ℕ) (x : State) (r : Ticked) → r ≡ tick_of t bs m x
    → (r ≡ tick_of t bs m x) × (tick_told r.answer ≡ call_told t (held x bs) (call.tick m))
unfolding answer_of told_of
tick_told_lem t bs m x r e = (e, rw e (call_told_lem t (held x bs) (call.tick m)))

pub status_told_lem : (t : List ℕ) (x : State) (r : StatusRead) → r ≡ status_of t x
    → (r ≡ status_of t x) × (status_told r.answer ≡ call_told t (held x []) call.read_status)
unfolding answer_of told_of
status_told_lem t x r e = (e, rw e (call_told_lem t (held x []) call.read_status))

pub send_told_lem : (t : List ℕ) (x : State) (nad n : ℕ) (r : Sent) → r ≡ send_of t x nad n
    → (r ≡ send_of t x nad n) × (send_told r.answer ≡ call_told t (held x []) (call.send nad n))
unfolding answer_of told_of
send_told_lem t x nad n r e = (e, rw e (call_told_lem t (held x []) (call.send nad n)))

pub message_told_lem : (t : List ℕ) (x : State) (r : MessageResult) → r ≡ message_of t x
    → (r ≡ message_of t x) × (message_told r ≡ call_told t (held x []) call.message_state)
unfolding answer_of told_of
message_told_lem t x r e = (e, rw e (call_told_lem t (held x []) call.message_state))

pub ahead_told_lem : (t : List ℕ) (x : State) (f : ℕ) (r : AheadAnswer) → r ≡ ahead_of t x f
    → (r ≡ ahead_of t x f) × (ahead_told r ≡ call_told t (held x []) (call.number_ahead f))
unfolding answer_of told_of
ahead_told_lem t x f r e = (e, rw e (call_told_lem t (held x []) (call.number_ahead f)))

pub write_told_lem : (t : List ℕ) (x : State) (bs : List ℕ) (w : Put) (r : Wrote) (after : List ℕ) → Leaves (write_of t x bs w) r after
    → Leaves (write_of t x bs w) r after × (write_told r.answer ≡ call_told t (held x bs) (call.write w))
unfolding answer_of told_of
write_told_lem t x bs w r after e = (e, rw e.handed (call_told_lem t (held x bs) (call.write w)))

pub byte_told_lem : (t : List ℕ) (x : State) (bs : List ℕ) (b : ℕ) (r : Took) (after : List ℕ) → Leaves (byte_of t x bs b) r after
    → Leaves (byte_of t x bs b) r after × (byte_told r.answer ≡ call_told t (held x bs) (call.byte_in b))
unfolding answer_of told_of
byte_told_lem t x bs b r after e = (e, rw e.handed (call_told_lem t (held x bs) (call.byte_in b)))

pub start_told : (t bs : List ℕ) (r : Started) (after : List ℕ) → Leaves (fresh_of t bs) r after
    → Leaves (fresh_of t bs) r after × (fresh_told r.answer ≡ fresh_call_told t (length bs))
start_told t bs r after e = (e, rw e.handed (fresh_told_lem t bs))

pub head_told : (t : List ℕ) (n : ℕ) (s : State) (r : Verdict) → r ≡ admitted t n s → (r ≡ admitted t n s) × (verdict_told r ≡ admit_told t n s)
head_told t n s r e = (e, rw e (admit_told_lem t n s))
