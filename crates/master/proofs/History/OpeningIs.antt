-- What a slot opens: the copy that it takes is of the bytes by the history.
use Prim.Native.Nat.{ℕ}
use mathlib.Core.Path.{◌≡◌, sym, ◌∙◌}
use mathlib.Core.Bool.{true, cond}
use mathlib.Core.List.{List, [], ◌∷◌, ◌++◌}
use native.Mathlib.Omega.{arith}
use borrow.Author.Tests.{eqb-true}
use lib.ListN.{length, length-append}
use Rattle.cluster.specs.Check.{RightTable}
use Rattle.cluster.proofs.FrameLaws.{frame_length_high}
use Rattle.transport.proofs.Tests.{whether}
use Rattle.master.specs.declared.state.Opened.{Opened}
use Rattle.master.specs.declared.state.Opened.TheVariants.{Nothing, Frame, Request, Response}
use Rattle.master.specs.declared.state.Message.{Message}
use Rattle.master.specs.declared.state.Message.TheVariants as message
use Rattle.master.specs.Admit.{buffer_size}
use Rattle.master.specs.Fits.{frame_there, is_sending, message_fits, lent_fits}
use Rattle.master.specs.Transfers.{format_of, open_length, open_checksum, sends, frame_data, request_data, sent_data, copied, opening}
use Rattle.master.specs.Seq.{Seq, ◌▹◌}
use Rattle.master.specs.Acts.{ticked}
use Rattle.master.specs.Schedule.{Scheduled, act}
use Rattle.master.specs.History.{opens, closes, open_after, written_bytes, data_of, response_of, got_after}
use Rattle.master.specs.Answering.{message_after, request_of, due_of, due_after}
use Rattle.master.proofs.Tests.{never}
use Rattle.master.proofs.Admitted.{frame_below}
use Rattle.master.proofs.OpenLaws.{frame_data_length, request_data_lem, request_data_length}
use Rattle.master.proofs.History.Opening.{open_new}
use Rattle.master.proofs.History.Computed.{rewritten_new}
use Rattle.master.proofs.History.Words.{data_of_lem, checksum_over_lem}
use Rattle.master.proofs.History.NineBytes.{nine_of, nine_snoc}
use Rattle.master.proofs.History.SameBytes.{SameBytes, same_data}
use Rattle.master.proofs.History.TransferIs.{TransferIs}
use Rattle.master.specs.Calls.{TickResult}

-- where a request is opened, a message is being sent, it has a frame left, and it is lent whole
pub record Sendable (x : Message) (m : List ℕ) : Type 0 where
  pub sending_now : is_sending x ≡ true
  pub frames_left : message_fits x ≡ true
  pub lent_whole : lent_fits x (length m) ≡ true

abbrev pub Requests : Message → List ℕ → Opened → Type 0
Requests x m Nothing = Unit {0}
Requests x m (Frame f) = Unit {0}
Requests x m Request = Sendable x m
Requests x m Response = Unit {0}

module _ (t : List ℕ) (ok : RightTable t) (bs : List ℕ) (size : length bs ≡ buffer_size t) where
  -- what the master sends in a request: the frame due of the message, which is lent with its length
  request_due : (x : Message) (m : List ℕ) → is_sending x ≡ true → message_fits x ≡ true → lent_fits x (length m) ≡ true
      → request_of x m ≡ request_data x m ++ (open_checksum t Request (request_data x m) ∷ [])
  unfolding request_of open_checksum format_of
  request_due message.None m p f l = never p
  request_due (message.Sending x) m p f l = rw (request_data_lem x m f (eqb-true (length m) x.length l))
  request_due message.Completed m p f l = never p
  request_due message.Failed m p f l = never p

  -- what the master sends goes by the bytes of its own frames alone
  sent_due : (cs : List ℕ) → SameBytes t bs cs → (x : Message) (m : List ℕ) (o : Opened) → frame_there t o ≡ true → sends t o ≡ true
      → Requests x m o → due_of t cs x m o ≡ sent_data t bs x m o ++ (open_checksum t o (sent_data t bs x m o) ∷ [])
  unfolding due_of sent_data response_of format_of
  sent_due cs e x m Nothing there s q = never s
  sent_due cs e x m (Frame f) there s q =
      let d : data_of t cs f ≡ frame_data t bs f =
      sym (same_data t bs cs size e f s ok ∙ data_of_lem t cs f (frame_length_high t ok f (frame_below t ok f there))) in
      rw (d, checksum_over_lem t f (frame_data t bs f))
  sent_due cs e x m Request there s q = request_due x m q.sending_now q.frames_left q.lent_whole
  sent_due cs e x m Response there s q = never s

  -- as many data bytes as the transfer has
  sent_length : (x : Message) (m : List ℕ) (o : Opened) → frame_there t o ≡ true → sends t o ≡ true → length (sent_data t bs x m o) ≡ open_length t o
  unfolding sent_data format_of
  sent_length x m Nothing h s = never s
  sent_length x m (Frame f) h s = frame_data_length t ok bs f (frame_below t ok f h) size
  sent_length x m Request h s = request_data_length x m
  sent_length x m Response h s = never s

  module _ (h : Seq Scheduled) (same : SameBytes t bs (written_bytes t h)) (y : Scheduled) (m : List ℕ) (c : TickResult) (a : act y ≡ ticked m c)
      (k : closes y ≡ true) (o : Opened) (p : opens t y ≡ o) (there : frame_there t o ≡ true) (can : Requests (message_after t (h ▹ y)) m o) where
    abbrev msg : Message
    msg = message_after t (h ▹ y)

    now_open : open_after t (h ▹ y) ≡ o
    now_open = open_new t h y k ∙ p

    now_got : got_after (h ▹ y) ≡ []
    unfolding got_after
    now_got = rw k

    now_due : sends t o ≡ true → due_after t (h ▹ y) ≡ sent_data t bs msg m o ++ (open_checksum t o (sent_data t bs msg m o) ∷ [])
    unfolding due_after
    now_due s = rw (k, a, p) (sent_due (written_bytes t h) same msg m o there s can)

    now_nine : (opening t bs msg m o).bytes ≡ nine_of (cond (sends t o) (due_after t (h ▹ y)) [])
    unfolding opening copied
    now_nine =
        whether (sends t o)
        (λ s. rw (s, now_due s) (sym (nine_snoc (sent_data t bs msg m o) (open_checksum t o (sent_data t bs msg m o)))))
        (λ n. rw n)

    pub transfer_opened : TransferIs t (h ▹ y) (opening t bs msg m o)
    unfolding opening
    transfer_opened = record {
      opened_is = sym now_open;
      count_is = rw now_got;
      nine_is = rw (now_open, now_got) now_nine;
      rewritten_is = sym (rewritten_new t h y k);
      closed_is = λ q. now_got;
      due_length = λ s.
          let s' : sends t o ≡ true = rw now_open at s in
          rw (now_open, now_due s')
          (omega (arith, length-append (sent_data t bs msg m o) (open_checksum t o (sent_data t bs msg m o) ∷ []), sent_length msg m o there s'));
      matched = λ s. rw now_got;
    }
