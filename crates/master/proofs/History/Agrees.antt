-- The state and the frame bytes are what the history says; the events that change neither bits, nor bytes, nor the transfer.
use Prim.Native.Nat.{ℕ}
use mathlib.Core.Path.{◌≡◌, refl, sym, ◌∙◌}
use mathlib.Core.Bool.{true, false}
use mathlib.Core.List.{List}
use Rattle.cluster.specs.Check.{RightTable}
use Rattle.cluster.specs.Fresh.{fresh_bytes}
use Rattle.master.specs.declared.state.Message.TheVariants as message
use Rattle.master.specs.declared.state.State.{State}
use Rattle.master.specs.Fits.{state_fits}
use Rattle.master.specs.Fresh.{fresh}
use Rattle.master.specs.Plan.{asking, waited}
use Rattle.master.specs.Seq.{Seq, ∅, ◌▹◌}
use Rattle.master.specs.Run.{Held, held}
use Rattle.master.specs.Acts.{nothing, selected, ticked, status_read, sending, on_send, is_status_read}
use Rattle.master.specs.Schedule.{none, Scheduled, act, slot_due, plan_with, plan_by, plan_after}
use Rattle.master.specs.History.{closes}
use Rattle.master.specs.Answering.{message_after, counted_after, any_closed, two_closed, last_closed}
use Rattle.master.proofs.FitsKept.{fresh_fits}
use Rattle.master.proofs.History.Quiet.{is_quiet, quiet_unsuccessful}
use Rattle.master.proofs.History.ReceivedAre.{ReceivedAre, received_fresh, received_quiet}
use Rattle.master.proofs.History.StatusOver.{status_over}
use Rattle.master.proofs.History.FramesAre.{FramesAre, frames_fresh, frames_quiet}
use Rattle.master.proofs.History.TransferIs.{TransferIs, transfer_fresh, transfer_quiet}
use Rattle.master.specs.State.{with_message, with_plan, with_status}
use Rattle.master.specs.Fresh.{no_status}
use Rattle.master.specs.Calls.{TickResult}

pub record Agrees (t : List ℕ) (h : Seq Scheduled) (x : Held) : Type 0 where
  pub fits : state_fits t x.state ≡ true
  pub frames : FramesAre t h x.state.pending x.bytes
  pub transfer : TransferIs t h x.state.transfer
  pub plan_is : x.state.plan ≡ plan_after t h
  pub message_is : x.state.message ≡ message_after t h
  pub status_is : x.state.status ≡ status_over (counted_after t h)
  pub received_are : ReceivedAre t h x.state.received

-- after fresh
pub agrees_fresh : (t : List ℕ) → RightTable t → Agrees t ∅ (held fresh (fresh_bytes t))
unfolding fresh plan_after message_after counted_after status_over any_closed two_closed last_closed
agrees_fresh t ok = record {
  fits = fresh_fits t;
  frames = frames_fresh t ok;
  transfer = transfer_fresh t;
  plan_is = refl;
  message_is = refl;
  status_is = refl;
  received_are = received_fresh t;
}

module _ (t : List ℕ) (h : Seq Scheduled) (x : Held) (is : Agrees t h x) (y : Scheduled) where
  -- the message and the status where nothing is closed
  open_message : closes y ≡ false
      → message_after t (h ▹ y) ≡ on_send (λ nad n. message.Sending (record { nad = nad; length = n; next = 0 })) (message_after t h) (act y)
  unfolding message_after
  open_message c = rw c

  open_status : closes y ≡ false → is_status_read (act y) ≡ false → counted_after t (h ▹ y) ≡ counted_after t h
  unfolding counted_after
  open_status c n = rw (n, c)

  -- an event that changes neither bits, nor bytes, nor the transfer
  aside : (s : State) → state_fits t s ≡ true → s.pending ≡ x.state.pending → s.transfer ≡ x.state.transfer → s.received ≡ x.state.received → is_quiet (act y) ≡ true → closes y ≡ false
      → s.plan ≡ plan_after t (h ▹ y) → s.message ≡ message_after t (h ▹ y) → s.status ≡ status_over (counted_after t (h ▹ y))
      → Agrees t (h ▹ y) (held s x.bytes)
  aside s f p r v q c pl ms st = record {
    fits = f;
    frames = rw p (frames_quiet t h x.state.pending x.bytes is.frames y q);
    transfer = rw r (transfer_quiet t h x.state.transfer is.transfer y q c);
    plan_is = pl;
    message_is = ms;
    status_is = st;
    received_are = rw v (received_quiet t h x.state.received is.received_are y (quiet_unsuccessful y q));
  }

  -- a call that was refused, or only asks
  pub agrees_nothing : act y ≡ nothing → Agrees t (h ▹ y) x
  unfolding closes plan_after plan_by
  agrees_nothing a =
      let c : closes y ≡ false = rw a in
      aside x.state is.fits refl refl refl (rw a) c
      (rw a is.plan_is)
      (is.message_is ∙ sym (open_message c ∙ rw a))
      (rw (open_status c (rw a)) is.status_is)

  -- a select
  pub agrees_selected : (n : ℕ) → act y ≡ selected n → state_fits t (with_plan x.state (asking x.state.plan n)) ≡ true
      → Agrees t (h ▹ y) (held (with_plan x.state (asking x.state.plan n)) x.bytes)
  unfolding closes plan_after plan_by
  agrees_selected n a f =
      let c : closes y ≡ false = rw a in
      aside (with_plan x.state (asking x.state.plan n)) f refl refl refl (rw a) c
      (rw (a, is.plan_is))
      (is.message_is ∙ sym (open_message c ∙ rw a))
      (rw (open_status c (rw a)) is.status_is)

  -- a tick that waits
  pub agrees_waited : (m : List ℕ) (b : TickResult) → act y ≡ ticked m b → y.slot ≡ none → slot_due t (plan_after t h) ≡ none
      → state_fits t (with_plan x.state (waited x.state.plan)) ≡ true
      → Agrees t (h ▹ y) (held (with_plan x.state (waited x.state.plan)) x.bytes)
  unfolding closes plan_after plan_by plan_with
  agrees_waited m b a n d f =
      let c : closes y ≡ false = rw (a, n) in
      aside (with_plan x.state (waited x.state.plan)) f refl refl refl (rw a) c
      (rw (a, d, is.plan_is))
      (is.message_is ∙ sym (open_message c ∙ rw a))
      (rw (open_status c (rw a)) is.status_is)

  -- a status reading
  pub agrees_status : act y ≡ status_read → state_fits t (with_status x.state no_status) ≡ true → Agrees t (h ▹ y) (held (with_status x.state no_status) x.bytes)
  unfolding closes plan_after plan_by counted_after status_over any_closed two_closed last_closed
  agrees_status a f =
      let c : closes y ≡ false = rw a in
      aside (with_status x.state no_status) f refl refl refl (rw a) c
      (rw a is.plan_is)
      (is.message_is ∙ sym (open_message c ∙ rw a))
      (rw a)

  -- a send
  pub agrees_sending : (nad n : ℕ) → act y ≡ sending nad n
      → state_fits t (with_message x.state (message.Sending (record { nad = nad; length = n; next = 0 }))) ≡ true
      → Agrees t (h ▹ y) (held (with_message x.state (message.Sending (record { nad = nad; length = n; next = 0 }))) x.bytes)
  unfolding closes plan_after plan_by
  agrees_sending nad n a f =
      let c : closes y ≡ false = rw a in
      aside (with_message x.state (message.Sending (record { nad = nad; length = n; next = 0 }))) f refl refl refl (rw a) c
      (rw a is.plan_is)
      (sym (open_message c ∙ rw a))
      (rw (open_status c (rw a)) is.status_is)
