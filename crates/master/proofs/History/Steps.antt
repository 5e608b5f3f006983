-- Every call: accepted or refused, the state and the bytes after it are what the history says, and its answer is the one that the history gives.
use Prim.Native.Nat.{ℕ}
use mathlib.Core.Path.{◌≡◌, refl, sym, ◌∙◌, ap}
use mathlib.Core.Bool.{Bool, true, false}
use mathlib.Core.List.{List}
use native.Mathlib.Omega.{arith}
use lib.ListN.{length}
use Rattle.refusal.specs.declared.Refusal.{Refusal}
use Rattle.refusal.specs.Numbers as number
use Rattle.cluster.specs.Check.{TakenTable, RightTable, Verdict}
use Rattle.cluster.specs.declared.values.Array.{Array}
use Rattle.transport.proofs.Tests.{whether}
use Rattle.master.specs.declared.state.State.{State}
use Rattle.master.specs.Answers.{Wrote}
use Rattle.master.specs.Answers.{Chosen}
use Rattle.master.specs.Answers.{Ticked}
use Rattle.master.specs.Answers.{Took}
use Rattle.master.specs.Answers.{StatusRead}
use Rattle.master.specs.Answers.{Sent}
use Rattle.master.specs.Admit.{unless, buffer_size, admitted, Step}
use Rattle.master.specs.Fits.{lent_fits}
use Rattle.master.specs.Transfers.{is_open}
use Rattle.master.specs.Read.{read_verdict, read_scalar_of, read_array_of}
use Rattle.master.specs.Select.{select_verdict, select_of}
use Rattle.master.specs.Status.{status_word, status_of}
use Rattle.master.specs.Message.{send_verdict, send_of, message_of}
use Rattle.master.specs.Tick.{tick_verdict, tick_of}
use Rattle.master.specs.Byte.{byte_verdict, byte_of, byte_effect}
use Rattle.master.specs.Seq.{Seq}
use Rattle.master.specs.Calls as call
use Rattle.master.specs.Calls.{Call, Answer, ◌⇒◌}
use Rattle.master.specs.Run.{Held, held, answer_of, left_by}
use Rattle.master.specs.Acts.{nothing, act_of}
use Rattle.master.specs.Schedule.{slot_begun, Scheduled, schedule}
use Rattle.master.specs.Answering.{message_after, counted_after, bytes_after, read_from, scalar_read, array_given}
use Rattle.master.specs.Received.{source_of, scalar_from, array_from}
use Rattle.master.specs.Replies.{put_number, Replies, read_number, select_number, send_number, write_reply, read_reply, read_array_reply, select_reply, send_reply, byte_reply, lent_right}
use Rattle.master.proofs.Tests.{never}
use Rattle.master.proofs.Admitted.{admits, fits_clauses, fits_all, unless_test}
use Rattle.master.proofs.Answered.{by_verdict, writable_signal}
use Rattle.master.proofs.FitsKept.{marked_fits}
use Rattle.master.proofs.Keeps.{taken_fits}
use Rattle.master.proofs.StepLaws.{keeps_fit}
use Rattle.master.proofs.Verdicts.{tick_refusal}
use Rattle.master.proofs.SlotFits.{not_open}
use Rattle.master.proofs.History.Words.{lent_right_lem, message_told_lem}
use Rattle.master.proofs.History.Numbers.{by_number, reply_is, put_verdict_lem, read_verdict_lem, select_verdict_lem, send_verdict_lem}
use Rattle.master.proofs.History.StatusOver.{word_over_lem}
use Rattle.master.proofs.History.ReceivedAre.{scalars_same, arrays_same}
use Rattle.master.proofs.History.Agrees.{Agrees, agrees_nothing, agrees_selected, agrees_status, agrees_sending}
use Rattle.master.proofs.History.Writing.{agrees_wrote}
use Rattle.master.proofs.History.Ticking.{tick_goes}
use Rattle.master.proofs.History.Taking.{byte_goes}
use Rattle.master.proofs.History.Ahead.{ahead_replies}
use Rattle.master.proofs.History.Stepped.{Stepped}
use Rattle.master.specs.Write.{writable, marked, write_verdict, write_of}
use Rattle.cluster.proofs.TakenLaws.{taken_right}
use Rattle.master.specs.Put.{Put}
use Rattle.master.specs.Write.{is_bytes, fits_signal}
use Rattle.std.specs.Prelude.{Ok, Err}

-- an accepted call is not refused
refused_never : {A : Type 0} (q : Refusal) → ◌≡◌ {A = Verdict} (Ok tt) (Err q) → A
refused_never q e = let z : ◌≡◌ {A = ℕ} 0 1 = cc in absurd (omega arith)

module _ (t : List ℕ) (is-taken : TakenTable t) (h : Seq Scheduled) (x : Held) (is : Agrees t h x) where
  ok : RightTable t
  ok = taken_right t is-taken

  abbrev s : State
  s = x.state

  -- the call is admitted, with the frame bytes and without them
  lent_admitted : admitted t (length x.bytes) s ≡ Ok tt
  lent_admitted = admits t (length x.bytes) s is-taken is.frames.size is.fits

  own_admitted : admitted t (buffer_size t) s ≡ Ok tt
  own_admitted = admits t (buffer_size t) s is-taken refl is.fits

  -- a call that counts for nothing
  step_nothing : (c : Call) (a : Answer c) → act_of (c ⇒ a) ≡ nothing → Replies t h c a → Stepped t h c a x
  unfolding schedule slot_begun
  step_nothing c a n r = record {
    agrees = agrees_nothing t h x is (schedule t h (c ⇒ a)) n;
    replies = r;
    lawful = λ e q p k. never (rw n at q);
  }

  -- ---- writes

  -- what counts of a write, and what it answers
  step_write : (w : Put) → Stepped t h (call.write w) (answer_of t x (call.write w)) (left_by t x (call.write w))
  unfolding answer_of left_by write_of schedule write_reply slot_begun
  step_write w =
      let r = w.signal in
      let v = w.value in
      let n = put_number t r v in
      let inner : write_verdict t (length x.bytes) s w ≡ writable t r (is_bytes v) (fits_signal t r v) = rw lent_admitted in
      let number_is : by_number n ≡ write_verdict t (length x.bytes) s w = sym (put_verdict_lem t r v) ∙ sym inner in
      by_verdict (λ (z : Step Wrote). Stepped t h (call.write w) z.given.answer (held z.given.state z.left)) (write_verdict t (length x.bytes) s w) _ _
      (λ q e. step_nothing (call.write w) (Err q) refl (reply_is n (λ i. Err i) (Ok tt) (Err q) (number_is ∙ e)))
      (λ a. let k = writable_signal t r (is_bytes v) (fits_signal t r v) (sym inner ∙ a) in
      record {
        agrees =
            agrees_wrote t ok h x is (schedule t h (call.write w ⇒ Ok tt)) r v refl k.below
            (fits_all t (marked t r s) (marked_fits t s (fits_clauses t s is.fits) ok r k.below k.is_published));
        replies = reply_is n (λ i. Err i) (Ok tt) (Ok tt) (number_is ∙ a);
        lawful = λ e q p k. never q;
      })

  -- ---- the calls that only ask

  read_inner : (r : ℕ) (kind : Bool) → by_number (read_number t r kind) ≡ read_verdict t (length x.bytes) s r kind
  unfolding read_verdict
  read_inner r kind = sym (read_verdict_lem t r kind) ∙ rw lent_admitted

  -- a read takes its value where the history says
  source_same : (r : ℕ) → source_of t s.received r ≡ read_from t h r
  unfolding source_of read_from
  source_same r = rw (is.received_are.each r)

  scalar_same : (r : ℕ) → scalar_from t x.bytes r (source_of t s.received r) ≡ scalar_read t (bytes_after t h) r (read_from t h r)
  scalar_same r = rw (source_same r, is.frames.bytes_are) (scalars_same t (bytes_after t h) r (read_from t h r))

  array_same : (r : ℕ) → array_from t x.bytes r (source_of t s.received r) ≡ array_given t (bytes_after t h) r (read_from t h r)
  array_same r = rw (source_same r, is.frames.bytes_are) (arrays_same t (bytes_after t h) r (read_from t h r))

  step_read : (r : ℕ) → Stepped t h (call.read r) (answer_of t x (call.read r)) (left_by t x (call.read r))
  unfolding answer_of left_by read_scalar_of read_reply
  step_read r =
      let v = scalar_from t x.bytes r (source_of t s.received r) in
      step_nothing (call.read r) (read_scalar_of t s x.bytes r) refl
      (reply_is (read_number t r false) (λ q. Err q) (Ok v) (read_verdict t (length x.bytes) s r false) (read_inner r false)
      ∙ ap (λ (w : ℕ). read_reply (read_number t r false) w) (scalar_same r))

  step_read_array : (r : ℕ) → Stepped t h (call.read_array r) (answer_of t x (call.read_array r)) (left_by t x (call.read_array r))
  unfolding answer_of left_by read_array_of read_array_reply
  step_read_array r =
      let a = array_from t x.bytes r (source_of t s.received r) in
      step_nothing (call.read_array r) (read_array_of t s x.bytes r) refl
      (reply_is (read_number t r true) (λ q. Err q)
      (Ok a)
      (read_verdict t (length x.bytes) s r true) (read_inner r true)
      ∙ ap (λ (w : Array). read_array_reply (read_number t r true) w) (array_same r))

  step_message : Stepped t h call.message_state (answer_of t x call.message_state) (left_by t x call.message_state)
  unfolding answer_of left_by message_of
  step_message = step_nothing call.message_state _ refl (rw (own_admitted, is.message_is) (message_told_lem (message_after t h)))

  step_ahead : (f : ℕ) → Stepped t h (call.number_ahead f) (answer_of t x (call.number_ahead f)) (left_by t x (call.number_ahead f))
  unfolding answer_of left_by
  step_ahead f = step_nothing (call.number_ahead f) _ refl (ahead_replies t is-taken ok h x is f)

  -- ---- select, status, send

  step_select : (n : ℕ) → Stepped t h (call.select n) (answer_of t x (call.select n)) (left_by t x (call.select n))
  unfolding answer_of left_by select_of select_verdict select_reply schedule slot_begun
  step_select n =
      let keeps = keeps_fit t x (call.select n) is.fits in
      let number_is : by_number (select_number t n) ≡ select_verdict t s n = sym (select_verdict_lem t n) ∙ rw own_admitted in
      by_verdict (λ (z : Chosen). Stepped t h (call.select n) z.answer (held z.state x.bytes)) (select_verdict t s n) _ _
      (λ q e. step_nothing (call.select n) (Err q) refl
      (reply_is (select_number t n) (λ i. Err i) (Ok tt) (Err q) (number_is ∙ e)))
      (λ a. record {
        agrees = agrees_selected t h x is (schedule t h (call.select n ⇒ Ok tt)) n refl (rw a at keeps);
        replies = reply_is (select_number t n) (λ i. Err i) (Ok tt) (Ok tt) (number_is ∙ a);
        lawful = λ e q p k. never q;
      })

  step_status : Stepped t h call.read_status (answer_of t x call.read_status) (left_by t x call.read_status)
  unfolding answer_of left_by status_of schedule slot_begun
  step_status =
      let keeps = keeps_fit t x call.read_status is.fits in
      by_verdict (λ (z : StatusRead). Stepped t h call.read_status z.answer (held z.state x.bytes)) (admitted t (buffer_size t) s) _ _
      (λ q e. refused_never q (sym own_admitted ∙ e))
      (λ a. record {
        agrees = agrees_status t h x is (schedule t h (call.read_status ⇒ Ok (status_word s.status))) refl (rw a at keeps);
        replies = rw (is.status_is, word_over_lem (counted_after t h));
        lawful = λ e q p k. never q;
      })

  step_send : (nad n : ℕ) → Stepped t h (call.send nad n) (answer_of t x (call.send nad n)) (left_by t x (call.send nad n))
  unfolding answer_of left_by send_of send_verdict send_reply schedule slot_begun
  step_send nad n =
      let keeps = keeps_fit t x (call.send nad n) is.fits in
      let number_is : by_number (send_number (message_after t h) n) ≡ send_verdict t s n = sym (send_verdict_lem (message_after t h) n) ∙ rw (own_admitted, is.message_is) in
      by_verdict (λ (z : Sent). Stepped t h (call.send nad n) z.answer (held z.state x.bytes)) (send_verdict t s n) _ _
      (λ q e. step_nothing (call.send nad n) (Err q) refl
      (reply_is (send_number (message_after t h) n) (λ i. Err i) (Ok tt) (Err q) (number_is ∙ e)))
      (λ a. record {
        agrees = agrees_sending t h x is (schedule t h (call.send nad n ⇒ Ok tt)) nad n refl (rw a at keeps);
        replies = reply_is (send_number (message_after t h) n) (λ i. Err i) (Ok tt) (Ok tt) (number_is ∙ a);
        lawful = λ e q p k. never q;
      })

  -- ---- tick and byte in

  step_tick : (m : List ℕ) → Stepped t h (call.tick m) (answer_of t x (call.tick m)) (left_by t x (call.tick m))
  unfolding answer_of left_by tick_of
  step_tick m =
      let n = length x.bytes in
      let fits = lent_fits s.message (length m) in
      let same : fits ≡ lent_right (message_after t h) (length m) = lent_right_lem s.message (length m) ∙ rw is.message_is in
      let inner = tick_refusal t n (length m) s is-taken is.frames.size is.fits in
      by_verdict (λ (z : Ticked). Stepped t h (call.tick m) z.answer (held z.state x.bytes)) (tick_verdict t n (length m) s) _ _
      (λ q e. step_nothing (call.tick m) (Err q) refl (record {
        refuses = λ l. let z : Err (number.refused number.state) ≡ Err q = rw (same ∙ l) at (sym inner ∙ e) in cc;
        goes_on = λ l. refused_never q (rw (same ∙ l) at (sym inner ∙ e));
      }))
      (λ a. tick_goes t ok h x is m (unless_test fits number.state (Ok tt) (sym inner ∙ a)))

  step_byte : (b : ℕ) → Stepped t h (call.byte_in b) (answer_of t x (call.byte_in b)) (left_by t x (call.byte_in b))
  unfolding answer_of left_by byte_of byte_verdict byte_reply
  step_byte b =
      let o = is_open s.transfer.opened in
      let inner : byte_verdict t (length x.bytes) s ≡ unless o number.no_transfer (Ok tt) = rw lent_admitted in
      by_verdict (λ (z : Step Took). Stepped t h (call.byte_in b) (z.given.answer) (held z.given.state z.left))
      (byte_verdict t (length x.bytes) s) _ _
      (λ q e. step_nothing (call.byte_in b) (Err q) refl
      (whether o
      (λ l. refused_never q (rw l at (sym inner ∙ e)))
      (λ l. let z : Err (number.refused number.no_transfer) ≡ Err q = rw l at (sym inner ∙ e) in
      let i : q ≡ number.refused number.no_transfer = cc in
      rw (← is.transfer.opened_is, not_open s.transfer.opened l, i))))
      (λ a. byte_goes t ok h x is b (unless_test o number.no_transfer (Ok tt) (sym inner ∙ a))
      (fits_all t (byte_effect t s x.bytes b).given.state (taken_fits t ok s (fits_clauses t s is.fits) x.bytes b)))

  -- every call
  pub steps : (c : Call) → Stepped t h c (answer_of t x c) (left_by t x c)
  steps (call.write w) = step_write w
  steps (call.read r) = step_read r
  steps (call.read_array r) = step_read_array r
  steps (call.select n) = step_select n
  steps (call.tick m) = step_tick m
  steps (call.byte_in b) = step_byte b
  steps call.read_status = step_status
  steps (call.send nad n) = step_send nad n
  steps call.message_state = step_message
  steps (call.number_ahead f) = step_ahead f
