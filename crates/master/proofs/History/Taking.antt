-- An accepted byte: the state and the bytes after it are what the history says, and its answer is the one that the history gives.
use Prim.Native.Nat.{ℕ, ◌+◌, ◌-◌, ◌*◌, ◌≤◌, ◌<◌}
use mathlib.Core.Path.{◌≡◌, refl, sym, ◌∙◌}
use mathlib.Core.Bool.{true, false, cond}
use mathlib.Core.List.{List, ◌∷◌, ◌++◌}
use native.Mathlib.Omega.{arith}
use lib.Dec.{ltb, eqb}
use lib.ListN.{length, get_or, take, replicate}
use lib.Seq.{take_at, get_or_at}
use borrow.Author.Tests.{ltb-false}
use Rattle.cluster.specs.Check.{RightTable}
use Rattle.cluster.specs.Table.{published}
use Rattle.transport.specs.Reassembly as lent
use Rattle.transport.proofs.Tests.{whether}
use Rattle.transport.proofs.WrittenLaws.{written_length}
use Rattle.master.specs.declared.state.Opened.{Opened}
use Rattle.master.specs.declared.state.Opened.TheVariants.{Nothing, Frame, Request, Response}
use Rattle.master.specs.declared.state.Message.{Message}
use Rattle.master.specs.declared.state.State.{State}
use Rattle.master.specs.declared.byte.ByteAnswer.TheVariants as byte
use Rattle.master.specs.Answers.{Took}
use Rattle.master.specs.Admit.{Step}
use Rattle.master.specs.Fits.{state_fits, frame_there}
use Rattle.master.specs.Transfers.{format_of, is_open, open_length, open_checksum, sends}
use Rattle.master.specs.Message.{message_sent}
use Rattle.master.specs.Closing.{failed, pending_sent, sent, received}
use Rattle.master.specs.Byte.{passed, early, with_byte, sent_byte, checksum_right, accepted, last_byte, received_byte, byte_effect}
use Rattle.master.specs.Seq.{Seq, ◌▹◌}
use Rattle.master.specs.Calls as call
use Rattle.master.specs.Calls.{◌⇒◌}
use Rattle.master.specs.Run.{Held, held}
use Rattle.master.specs.Acts.{took, byte_act}
use Rattle.master.specs.Schedule.{slot_begun, Scheduled, act, plan_by, plan_after, schedule}
use Rattle.master.specs.History.{opens, is_success, is_end, closes, open_after, checksum_over, got_after, succeeds}
use Rattle.master.specs.Answering.{message_after, due_after, stored_by, counted_after}
use Rattle.master.specs.Replies.{sent_reply, received_reply, byte_reply}
use Rattle.master.proofs.Tests.{never}
use Rattle.master.proofs.Admitted.{fits_clauses, open_count, open_length_high}
use Rattle.master.proofs.PendingFits.{received_keeps}
use Rattle.master.proofs.Lengths.{data_inside}
use Rattle.master.proofs.ByteLaws.{stored_other}
use Rattle.master.proofs.History.Words.{message_sent_lem, message_failed_lem}
use Rattle.master.proofs.History.FramesAre.{FramesAre, frames_byte, frames_sent}
use Rattle.master.proofs.History.ReceivedAre.{received_quiet, received_sent, received_success}
use Rattle.master.proofs.History.TransferIs.{TransferIs, due_byte, received_nine, transfer_closed, transfer_more_sent, transfer_more_received}
use Rattle.master.proofs.History.Closing.{end_closes, end_message, end_status}
use Rattle.master.proofs.History.Agrees.{Agrees}
use Rattle.master.proofs.History.Stepped.{Stepped}
use Rattle.std.specs.Prelude.{Ok}
use Rattle.master.specs.Calls.{ByteResult}
use Rattle.master.specs.Answers.{handed}

-- what the master sends is stored nowhere
stored_sent : (t : List ℕ) (o : Opened) (ds bs : List ℕ) → sends t o ≡ true → stored_by t o ds bs ≡ bs
unfolding stored_by format_of
stored_sent t Nothing ds bs s = refl
stored_sent t (Frame f) ds bs s = rw s
stored_sent t Request ds bs s = refl
stored_sent t Response ds bs s = refl

-- "A successful response frame .. answers its eight bytes."
abbrev success_reply : Opened → List ℕ → ByteResult
success_reply Nothing got = (Ok byte.Success)
success_reply (Frame f) got = (Ok byte.Success)
success_reply Request got = (Ok byte.Success)
success_reply Response got = Ok (byte.Response got)

-- what is answered in a transfer that the master sends, and in one that it receives
module _ (t : List ℕ) (o : Opened) (due got : List ℕ) (b : ℕ) where
  reply_sent : sends t o ≡ true → byte_reply t o due got b ≡ (sent_reply (open_length t o) due got b)
  unfolding byte_reply format_of
  reply_sent s = by o s
    where
      by : (o : Opened) → sends t o ≡ true → byte_reply t o due got b ≡ (sent_reply (open_length t o) due got b)
      by Nothing s = never s
      by (Frame f) s = rw s
      by Request s = refl
      by Response s = never s

  reply_received : is_open o ≡ true → sends t o ≡ false → byte_reply t o due got b ≡ received_reply (open_length t o) (open_checksum t o got) got b (success_reply o got)
  unfolding byte_reply open_checksum checksum_over format_of
  reply_received p s = by o p s
    where
      by : (o : Opened) → is_open o ≡ true → sends t o ≡ false
          → byte_reply t o due got b ≡ received_reply (open_length t o) (open_checksum t o got) got b (success_reply o got)
      by Nothing p s = never p
      by (Frame f) p s = rw s
      by Request p s = never (sym s)
      by Response p s = refl

-- a received transfer leaves the message
received_message : (t : List ℕ) (o : Opened) (m : Message) → sends t o ≡ false → message_sent o m ≡ m
unfolding format_of
received_message t Nothing m n = refl
received_message t (Frame f) m n = refl
received_message t Request m n = never (sym n)
received_message t Response m n = refl

module _ (t : List ℕ) (ok : RightTable t) (h : Seq Scheduled) (x : Held) (is : Agrees t h x) (b : ℕ)
    (open-now : is_open x.state.transfer.opened ≡ true) where
  abbrev s : State
  s = x.state

  abbrev o : Opened
  o = x.state.transfer.opened

  -- ---- the state after a byte

  abbrev event : ByteResult → Scheduled
  event r = schedule t h (call.byte_in b ⇒ r)

  module _ (y : Scheduled) where
    agrees_more : act y ≡ took b (Ok byte.More) → (nine : List ℕ) → state_fits t (passed s nine) ≡ true → TransferIs t (h ▹ y) (passed s nine).transfer
        → Agrees t (h ▹ y) (held (passed s nine) x.bytes)
    unfolding passed plan_after plan_by message_after counted_after closes succeeds
    agrees_more a nine f r = record {
      fits = f;
      frames = frames_byte t h s.pending x.bytes is.frames y b (Ok byte.More) a refl;
      transfer = r;
      plan_is = rw a is.plan_is;
      message_is = rw a is.message_is;
      status_is = rw a is.status_is;
      received_are = received_quiet t h s.received is.received_are y (rw a);
    }

    agrees_failed : act y ≡ took b (Ok byte.Failure) → state_fits t (failed t s true) ≡ true → Agrees t (h ▹ y) (held (failed t s true) x.bytes)
    unfolding failed plan_after plan_by opens succeeds
    agrees_failed a f = record {
      fits = f;
      frames = frames_byte t h s.pending x.bytes is.frames y b (Ok byte.Failure) a refl;
      transfer = transfer_closed t h y (end_closes t h x is y b (Ok byte.Failure) a refl) (rw a);
      plan_is = rw a is.plan_is;
      message_is = message_failed_lem o s.message ∙ sym (end_message t h x is y b (Ok byte.Failure) a refl);
      status_is = end_status t h x is y b (Ok byte.Failure) a refl open-now;
      received_are = received_quiet t h s.received is.received_are y (rw a);
    }

  -- a state that may stand after a success, with the frame bytes handed over
  abbrev Ends : State → Type 0
  Ends after =
      (y : Scheduled) (c : ByteResult) → act y ≡ took b c → is_end c ≡ true → is_success c ≡ true → state_fits t after ≡ true → (bs : List ℕ)
      → FramesAre t (h ▹ y) (pending_sent o s.transfer.written s.pending) bs → Agrees t (h ▹ y) (held after bs)

  agrees_sent : sends t o ≡ true → Ends (sent t s)
  unfolding sent plan_after plan_by opens succeeds
  agrees_sent ours y c a e g f bs fr = record {
    fits = f;
    frames = fr;
    transfer = transfer_closed t h y (end_closes t h x is y b c a e) (rw a);
    plan_is = rw a is.plan_is;
    message_is = message_sent_lem o s.message ∙ sym (rw g at (end_message t h x is y b c a e));
    status_is = rw g at (end_status t h x is y b c a e open-now);
    received_are = received_sent t h s.received is.received_are y (rw a g) (rw is.transfer.opened_is at ours);
  }

  agrees_received : sends t o ≡ false → Ends (received t s)
  unfolding received plan_after plan_by opens succeeds
  agrees_received n y c a e g f bs fr = record {
    fits = f;
    frames = rw (received_keeps t o s.transfer.written s.pending (fits_clauses t s is.fits).pending_fits_lem n) at fr;
    transfer = transfer_closed t h y (end_closes t h x is y b c a e) (rw a);
    plan_is = rw a is.plan_is;
    message_is = sym (received_message t o s.message n) ∙ message_sent_lem o s.message ∙ sym (rw g at (end_message t h x is y b c a e));
    status_is = rw g at (end_status t h x is y b c a e open-now);
    received_are = received_success t h s.received is.received_are y ok o is.transfer.opened_is (rw a g) n;
  }

  -- ---- its answer, by the tests that the state makes

  is_open_lem : is_open (open_after t h) ≡ true
  is_open_lem = rw is.transfer.opened_is at open-now

  not_above : s.transfer.count ≤ open_length t (open_after t h)
  not_above = rw is.transfer.opened_is at (open_count t s (fits_clauses t s is.fits).count_fits_lem open-now)

  at_most_eight : s.transfer.count ≤ 8
  at_most_eight =
      omega (arith, open_count t s (fits_clauses t s is.fits).count_fits_lem open-now, open_length_high t ok o (fits_clauses t s is.fits).frame_there_lem)

  early_is : early t s.transfer ≡ ltb (length (got_after h)) (open_length t (open_after t h))
  early_is = rw (is.transfer.count_is, is.transfer.opened_is)

  module _ (sent : sends t o ≡ true) where
    sent_now : sends t (open_after t h) ≡ true
    sent_now = rw is.transfer.opened_is at sent

    sent_replies : byte_reply t (open_after t h) (due_after t h) (got_after h) b
        ≡ cond (eqb (get_or s.transfer.bytes s.transfer.count 0) b) (cond (early t s.transfer) (Ok byte.More) (Ok byte.Success)) (Ok byte.Failure)
    unfolding sent_reply
    sent_replies =
        reply_sent t (open_after t h) (due_after t h) (got_after h) b sent_now
        ∙ rw (due_byte t h s.transfer is.transfer sent_now not_above, early_is)

  -- the nine bytes with one more that was received
  module _ (received : sends t o ≡ false) where
    received_now : sends t (open_after t h) ≡ false
    received_now = rw is.transfer.opened_is at received

    abbrev nine : List ℕ
    nine = with_byte s.transfer b

    nine_are : nine ≡ got_after h ++ (b ∷ replicate (8 - length (got_after h)) 255)
    nine_are = received_nine t h s.transfer is.transfer b received_now at_most_eight

    module _ (last : early t s.transfer ≡ false) where
      -- as many came before it as the transfer has data bytes
      all_came : length (got_after h) ≡ open_length t o
      all_came =
          rw is.transfer.opened_is
          (omega (arith, not_above, is.transfer.count_is, ltb-false (length (got_after h)) (open_length t (open_after t h)) (sym early_is ∙ last)))

      data_are : take (open_length t o) nine ≡ got_after h
      data_are = rw (nine_are, ← all_came) (take_at (got_after h) (b ∷ replicate (8 - length (got_after h)) 255) (length (got_after h)) refl)

      last_is : get_or nine (open_length t o) 0 ≡ b
      last_is = rw (nine_are, ← all_came) (get_or_at (got_after h) b (replicate (8 - length (got_after h)) 255) 0 (length (got_after h)) refl)

      right_is : checksum_right t o nine ≡ eqb b (open_checksum t o (got_after h))
      unfolding checksum_right
      right_is = rw (last_is, data_are)

      last_replies : byte_reply t (open_after t h) (due_after t h) (got_after h) b
          ≡ cond (checksum_right t o nine) (success_reply o (got_after h)) (Ok byte.Failure)
      unfolding received_reply
      last_replies =
          reply_received t (open_after t h) (due_after t h) (got_after h) b is_open_lem received_now
          ∙ rw (← early_is, last, right_is, is.transfer.opened_is)

    more_replies : early t s.transfer ≡ true → byte_reply t (open_after t h) (due_after t h) (got_after h) b ≡ (Ok byte.More)
    unfolding received_reply
    more_replies e = reply_received t (open_after t h) (due_after t h) (got_after h) b is_open_lem received_now ∙ rw (← early_is, e)

  -- ---- every accepted byte

  abbrev Goes : Step Took → Type 0
  Goes w =
      state_fits t w.given.state ≡ true
      → Stepped t h (call.byte_in b) (w.given.answer) (held w.given.state w.left)

  -- what counts of a byte
  event_act : (r : ByteResult) → act (event r) ≡ byte_act b r
  unfolding schedule slot_begun
  event_act r = refl

  -- an answer that leaves the frame bytes
  abbrev leaving : State → ByteResult → Step Took
  leaving s' a = record { given = handed s' a; left = x.bytes }

  goes_more : (nine : List ℕ) → byte_reply t (open_after t h) (due_after t h) (got_after h) b ≡ (Ok byte.More)
      → TransferIs t (h ▹ event (Ok byte.More)) (passed s nine).transfer → Goes (leaving (passed s nine) (Ok byte.More))
  unfolding schedule slot_begun
  goes_more nine r tr f = record {
    agrees = agrees_more (event (Ok byte.More)) refl nine f tr;
    replies = sym r;
    lawful = λ e q p k. never q;
  }

  goes_failed : byte_reply t (open_after t h) (due_after t h) (got_after h) b ≡ (Ok byte.Failure) → Goes (leaving (failed t s true) (Ok byte.Failure))
  unfolding schedule slot_begun
  goes_failed r f = record {
    agrees = agrees_failed (event (Ok byte.Failure)) refl f;
    replies = sym r;
    lawful = λ e q p k. never q;
  }

  goes_succeeded : (s' : State) → Ends s' → (c : ByteResult) (after : List ℕ) → byte_reply t (open_after t h) (due_after t h) (got_after h) b ≡ c
      → act (event c) ≡ took b c → is_end c ≡ true → is_success c ≡ true
      → length after ≡ length x.bytes → after ≡ stored_by t o (got_after h) x.bytes
      → ((f : ℕ) → published t f ≡ true → (k : ℕ) → k < 8 → get_or after (8 * f + k) 0 ≡ get_or x.bytes (8 * f + k) 0)
      → Goes (record { given = handed s' c; left = after })
  unfolding schedule slot_begun
  goes_succeeded s' ends c after p a e g l st same f = record {
    agrees = ends (event c) c a e g f after
        (frames_sent t h s.pending x.bytes is.frames (event c) b c a g o is.transfer.opened_is
        s.transfer.written is.transfer.rewritten_is after l st same);
    replies = sym p;
    lawful = λ i q u k. never (rw a at q);
  }

  -- of a transfer that the master sends
  goes_sent : sends t o ≡ true → Goes (record { given = sent_byte t s b; left = x.bytes })
  unfolding sent_byte passed
  goes_sent ours =
      let r = sent_replies ours in
      let n = sent_now ours in
      whether (eqb (get_or s.transfer.bytes s.transfer.count 0) b)
      (λ e. whether (early t s.transfer)
      (λ z. rw (e, z) (goes_more s.transfer.bytes (rw (e, z) at r)
      (transfer_more_sent t h s.transfer is.transfer (event (Ok byte.More)) b more_act n not_above e)))
      (λ z. rw (e, z) (goes_succeeded (sent t s) (agrees_sent ours) (Ok byte.Success) x.bytes (rw (e, z) at r) success_act refl refl refl
      (sym (stored_sent t o (got_after h) x.bytes ours)) (λ f p k l. refl))))
      (λ e. rw e (goes_failed (rw e at r)))
    where
      more_act : act (event (Ok byte.More)) ≡ took b (Ok byte.More)
      more_act = event_act (Ok byte.More)

      success_act : act (event (Ok byte.Success)) ≡ took b (Ok byte.Success)
      success_act = event_act (Ok byte.Success)

  -- of one that it receives, at its end
  goes_accepted : (o' : Opened) → o ≡ o' → sends t o ≡ false → early t s.transfer ≡ false
      → byte_reply t (open_after t h) (due_after t h) (got_after h) b ≡ success_reply o (got_after h)
      → Goes (accepted t s o' (with_byte s.transfer b) x.bytes)
  unfolding accepted stored_by format_of
  goes_accepted Nothing p n z r = never (rw p at open-now)
  goes_accepted (Frame g) p n z r =
      let there : frame_there t (Frame g) ≡ true = rw p at (fits_clauses t s is.fits).frame_there_lem in
      let ds : take (open_length t (Frame g)) (with_byte s.transfer b) ≡ got_after h = rw p at (data_are n z) in
      let unpublished : published t g ≡ false = rw p at n in
      goes_succeeded (received t s) (agrees_received n) (Ok byte.Success) (lent.written x.bytes (8 * g) (take (open_length t (Frame g)) (with_byte s.transfer b)))
      (rw p at r) (event_act (Ok byte.Success)) refl refl
      (written_length x.bytes (8 * g) (take (open_length t (Frame g)) (with_byte s.transfer b))
      (data_inside t ok s x.bytes is.frames.size g (with_byte s.transfer b) there))
      (rw (p, unpublished, ds))
      (λ f q k l. stored_other t ok s x.bytes is.frames.size g f (with_byte s.transfer b) there
      (λ e. never (sym unpublished ∙ rw e q)) k l)
  goes_accepted Request p n z r = let y : true ≡ false = rw p at n in never (sym y)
  goes_accepted Response p n z r =
      let ds : take 8 (with_byte s.transfer b) ≡ got_after h = rw p at (data_are n z) in
      rw ds
      (goes_succeeded (received t s) (agrees_received n) (Ok (byte.Response (got_after h))) x.bytes (rw p at r) (event_act (Ok (byte.Response (got_after h)))) refl refl refl
      (rw p) (λ f q k l. refl))

  goes_received : sends t o ≡ false → Goes (received_byte t s x.bytes b)
  unfolding received_byte last_byte passed
  goes_received n =
      whether (early t s.transfer)
      (λ z. rw z (goes_more (with_byte s.transfer b) (more_replies n z)
      (transfer_more_received t h s.transfer is.transfer (event (Ok byte.More)) b (event_act (Ok byte.More)) (received_now n) is_open_lem at_most_eight)))
      (λ z. whether (checksum_right t o (with_byte s.transfer b))
      (λ c. rw (z, c) (goes_accepted o refl n z (rw c at (last_replies n z))))
      (λ c. rw (z, c) (goes_failed (rw c at (last_replies n z)))))

  -- an accepted byte
  pub byte_goes : Goes (byte_effect t s x.bytes b)
  unfolding byte_effect
  byte_goes = whether (sends t o) (λ y. rw y (goes_sent y)) (λ n. rw n (goes_received n))
