-- An accepted tick: the state after it is what the history says, its answer is the one that the history gives, and a list's slot opens the first pending member.
use Prim.Native.Nat.{ℕ}
use mathlib.Core.Path.{◌≡◌, refl, sym, ap, ◌∙◌}
use mathlib.Core.Bool.{Bool, true, false}
use mathlib.Core.List.{List}
use lib.Dec.{eqb}
use lib.ListN.{length}
use Rattle.cluster.specs.Check.{RightTable}
use Rattle.cluster.specs.Table.{entry_kind, entry_target}
use Rattle.cluster.specs.Lists.{members}
use Rattle.transport.proofs.Tests.{whether, and_right}
use Rattle.master.specs.declared.state.Opened.{Opened}
use Rattle.master.specs.declared.state.Opened.TheVariants.{Nothing, Frame, Request, Response}
use Rattle.master.specs.declared.state.Message.{Message}
use Rattle.master.specs.declared.state.State.{State}
use Rattle.master.specs.declared.tick.TickAnswer.TheVariants as tick
use Rattle.master.specs.Answers.{Ticked}
use Rattle.master.specs.Fits.{state_fits, is_sending, lent_fits, frame_there, entry_opens}
use Rattle.master.specs.Transfers.{format_of, is_open, open_protected, opening}
use Rattle.master.specs.Plan.{waits, waited, entry_due, begun}
use Rattle.master.specs.Message.{message_failed}
use Rattle.master.specs.Tick.{first_pending, slot_opens, abandoned, tick_effect}
use Rattle.master.specs.Seq.{Seq, ◌▹◌}
use Rattle.master.specs.Calls as call
use Rattle.master.specs.Calls.{◌⇒◌}
use Rattle.master.specs.Run.{Held, held}
use Rattle.master.specs.Acts as acts
use Rattle.master.specs.Schedule.{slot_begun, Slot, none, unscheduled, entry, Scheduled, act, is_start, slot_due, plan_with, plan_by, plan_after, schedule}
use Rattle.master.specs.History.{opened_as, opens, closes, open_after, Pending}
use Rattle.master.specs.Answering.{message_closed, message_after}
use Rattle.master.specs.Replies.{EntryReply, SlotReply, is_being_sent, TickReply}
use Rattle.master.proofs.Tests.{never}
use Rattle.master.proofs.Admitted.{fits_clauses, fits_all}
use Rattle.master.proofs.Cases.{opened, ticked_by}
use Rattle.master.proofs.SlotFits.{not_open, abandoned_plan, abandoned_fits, ticked_fits, abandoned_received}
use Rattle.master.proofs.SlotOpens.{slot_opens_lem, due_there, entry_below}
use Rattle.master.proofs.PendingLength.{abandoned_pending}
use Rattle.master.proofs.History.Computed.{pending_after}
use Rattle.master.proofs.History.Events.{starts_closes}
use Rattle.master.proofs.History.PendingLaw.{pending_iff}
use Rattle.master.proofs.History.First.{first_with, answer_for, first_pending_lem, first_takes}
use Rattle.master.proofs.History.Words.{slot_due_lem, message_failed_lem, being_sent, lent_right_lem}
use Rattle.master.proofs.History.Named.{named}
use Rattle.master.proofs.History.FramesAre.{frames_quiet}
use Rattle.master.proofs.History.Quiet.{quiet_unsuccessful}
use Rattle.master.proofs.History.ReceivedAre.{received_quiet}
use Rattle.master.proofs.History.TransferIs.{TransferIs, transfer_closed}
use Rattle.master.proofs.History.OpeningIs.{Requests, transfer_opened}
use Rattle.master.proofs.History.Closing.{abandoned_message, abandoned_transfer, start_is, start_message, start_status}
use Rattle.master.proofs.History.Agrees.{Agrees, agrees_waited}
use Rattle.master.proofs.History.Stepped.{Stepped}
use Rattle.master.specs.State.{with_plan}
use Rattle.std.specs.Prelude.{Ok}
use Rattle.master.specs.Calls.{TickResult}
use Rattle.std.specs.Prelude.{Some, None}

-- what an accepted tick answers where its slot opens something or nothing
answer_silent : (t : List ℕ) (o : Opened) → is_open o ≡ false → Ok tick.Silent ≡ answer_for t o
answer_silent t o n = rw (not_open o n)

answer_opened : (t : List ℕ) (o : Opened) → is_open o ≡ true → Ok (tick.Opened (open_protected t o)) ≡ answer_for t o
unfolding open_protected format_of
answer_opened t Nothing p = never p
answer_opened t (Frame f) p = refl
answer_opened t Request p = refl
answer_opened t Response p = refl

-- a message that fails is lent whole where it was
lent_failed : (o : Opened) (x : Message) (n : ℕ) → lent_fits x n ≡ true → lent_fits (message_failed o x) n ≡ true
lent_failed Nothing x n l = l
lent_failed (Frame f) x n l = l
lent_failed Request x n l = refl
lent_failed Response x n l = l

-- what a slot opens by its kind
module _ (t : List ℕ) (bits : List Bool) (e : ℕ) where
  kind_list : (x : Message) → entry_kind t e ≡ 1 → slot_opens t bits x e ≡ first_pending bits (members t (entry_target t e))
  unfolding slot_opens
  kind_list x k = rw k

module _ (t : List ℕ) (ok : RightTable t) (h : Seq Scheduled) (x : Held) (is : Agrees t h x) (m : List ℕ) where
  abbrev s : State
  s = x.state

  abbrev due : Slot
  due = slot_due t (plan_after t h)

  -- ---- the slot due

  due_waits : waits s.plan ≡ true → due ≡ none
  due_waits w = rw (← is.plan_is, slot_due_lem t s.plan, w)

  due_none : waits s.plan ≡ false → entry_due t s.plan.requested s.plan.current ≡ None → due ≡ unscheduled
  due_none w c = rw (← is.plan_is, slot_due_lem t s.plan, w, c)

  due_entry : (e : ℕ) → waits s.plan ≡ false → entry_due t s.plan.requested s.plan.current ≡ Some e → due ≡ entry e
  due_entry e w c = rw (← is.plan_is, slot_due_lem t s.plan, w, c)

  -- ---- the answer of a slot

  slot_message : (abandoned t s).message ≡ message_closed (open_after t h) false (message_after t h)
  slot_message = abandoned_message t s ∙ message_failed_lem s.transfer.opened s.message ∙ rw (is.message_is, is.transfer.opened_is)

  abbrev slot_by : ℕ → Opened
  slot_by e = slot_opens t (abandoned t s).pending (abandoned t s).message e

  list_first : (e : ℕ) → entry_kind t e ≡ 1 → slot_by e ≡ first_with (pending_after t h) (members t (entry_target t e))
  list_first e k =
      kind_list t (abandoned t s).pending e (abandoned t s).message k
      ∙ first_pending_lem (abandoned t s).pending (pending_after t h) (λ f. rw (abandoned_pending t s) (is.frames.bits_are f)) (members t (entry_target t e))

  entry_replies : (e : ℕ) (a : TickResult) → a ≡ answer_for t (slot_by e) → EntryReply t h e a
  unfolding slot_opens
  entry_replies e a p = record {
    frame = λ k. p ∙ rw k;
    list = λ k. rw (p, list_first e k) (first_takes t (pending_after t h) (Pending t h) (pending_iff t h) (members t (entry_target t e)));
    request = λ k.
        let x = message_closed (open_after t h) false (message_after t h) in
        p ∙ rw (k, slot_message, being_sent x) (whether (is_being_sent x) (λ b. rw b) (λ b. rw b));
    response = λ k. p ∙ rw k;
  }

  -- ---- the state after a slot start

  module _ (y : Scheduled) (a : TickResult) (acts-as : act y ≡ acts.ticked m a) (slot_is : y.slot ≡ due) (start : is_start due ≡ true) where
    starting : is_start y.slot ≡ true
    starting = rw slot_is start

    y_closes : closes y ≡ true
    y_closes = starts_closes y (start_is t h x is y m a acts-as starting)

    agrees_start : (s' : State) → state_fits t s' ≡ true → s'.pending ≡ s.pending → TransferIs t (h ▹ y) s'.transfer → s'.plan ≡ plan_with t s.plan due
        → s'.message ≡ (abandoned t s).message → s'.status ≡ (abandoned t s).status → s'.received ≡ s.received → Agrees t (h ▹ y) (held s' x.bytes)
    unfolding plan_after plan_by
    agrees_start s' f p r pl ms st v = record {
      fits = f;
      frames = rw p (frames_quiet t h s.pending x.bytes is.frames y (rw acts-as));
      transfer = r;
      plan_is = rw acts-as (pl ∙ rw is.plan_is);
      message_is = ms ∙ slot_message ∙ sym (start_message t h x is y m a acts-as starting);
      status_is = st ∙ start_status t h x is y m a acts-as starting;
      received_are = rw v (received_quiet t h s.received is.received_are y (quiet_unsuccessful y (rw acts-as)));
    }

    -- where the slot opens nothing
    closed_transfer : opened_as t a ≡ Nothing → TransferIs t (h ▹ y) (abandoned t s).transfer
    unfolding opens
    closed_transfer n = rw (abandoned_transfer t h x is) (transfer_closed t h y y_closes (rw (acts-as, starting, n)))

    -- where it opens something
    opened_transfer : (o : Opened) → opened_as t a ≡ o → frame_there t o ≡ true → Requests (abandoned t s).message m o
        → TransferIs t (h ▹ y) (opening t x.bytes (abandoned t s).message m o)
    unfolding opens
    opened_transfer o n there can =
        let e = slot_message ∙ sym (start_message t h x is y m a acts-as starting) in
        rw e
        (transfer_opened t ok x.bytes is.frames.size h is.frames.written_are y m a acts-as y_closes o (rw (acts-as, starting, n)) there
        (rw e at can))

  -- ---- every accepted tick

  module _ (lent : lent_fits s.message (length m) ≡ true) where
    tick_replies : (a : TickResult) → SlotReply t h due a → TickReply t h m a
    tick_replies a r = record { refuses = λ n. never (sym n ∙ rw (is.message_is, lent_right_lem (message_after t h) (length m)) at lent); goes_on = λ l. r }

    -- what is opened can be sent
    can_request : (e : ℕ) (o : Opened) → entry_opens t (abandoned t s).message e o ≡ true → Requests (abandoned t s).message m o
    unfolding entry_opens
    can_request e Nothing c = tt
    can_request e (Frame f) c = tt
    can_request e Request c = record {
      sending_now = and_right (eqb (entry_kind t e) 2) (is_sending (abandoned t s).message) c;
      frames_left = (abandoned_fits t s (fits_clauses t s is.fits)).message_fits_lem;
      lent_whole = rw (abandoned_message t s) (lent_failed s.transfer.opened s.message (length m) lent);
    }
    can_request e Response c = tt

    abbrev Goes : Ticked → Type 0
    Goes w = state_fits t w.state ≡ true → Stepped t h (call.tick m) w.answer (held w.state x.bytes)

    goes_waiting : waits s.plan ≡ true → Goes (record { state = with_plan s (waited s.plan); answer = Ok tick.Waiting })
    unfolding schedule slot_begun
    goes_waiting w f = record {
      agrees = agrees_waited t h x is (schedule t h (call.tick m ⇒ Ok tick.Waiting)) m (Ok tick.Waiting) refl (due_waits w) (due_waits w) f;
      replies = tick_replies (Ok tick.Waiting) (rw (due_waits w));
      lawful = λ e b p k. never (rw (due_waits w) at b);
    }

    goes_idle : waits s.plan ≡ false → entry_due t s.plan.requested s.plan.current ≡ None
        → Goes (record { state = abandoned t s; answer = Ok tick.Idle })
    unfolding schedule plan_with slot_begun
    goes_idle w c f =
        let y = schedule t h (call.tick m ⇒ Ok tick.Idle) in
        let d = due_none w c in
        let b : is_start due ≡ true = rw d in
        record {
          agrees = agrees_start y (Ok tick.Idle) refl refl b (abandoned t s) f (abandoned_pending t s) (closed_transfer y (Ok tick.Idle) refl refl b refl)
              (rw d (abandoned_plan t s)) refl refl (abandoned_received t s);
          replies = tick_replies (Ok tick.Idle) (rw d);
          lawful = λ e q p k. let z : unscheduled ≡ entry e = sym d ∙ p in cc;
        }

    goes_silent : (e : ℕ) → waits s.plan ≡ false → entry_due t s.plan.requested s.plan.current ≡ Some e
        → is_open (slot_by e) ≡ false → Goes (record { state = with_plan (abandoned t s) (begun t e); answer = Ok tick.Silent })
    unfolding schedule plan_with opens slot_begun
    goes_silent e w c n f =
        let y = schedule t h (call.tick m ⇒ Ok tick.Silent) in
        let d = due_entry e w c in
        let b : is_start due ≡ true = rw d in
        record {
          agrees = agrees_start y (Ok tick.Silent) refl refl b (with_plan (abandoned t s) (begun t e)) f (abandoned_pending t s)
              (closed_transfer y (Ok tick.Silent) refl refl b refl) (rw d) refl refl (abandoned_received t s);
          replies = tick_replies (Ok tick.Silent) (rw d (entry_replies e (Ok tick.Silent) (answer_silent t (slot_by e) n)));
          lawful = λ e' q p k.
              let z : entry e ≡ entry e' = sym d ∙ p in
              let i : e ≡ e' = cc in
              rw b (sym (not_open (slot_by e) n) ∙ rw i (list_first e' k));
        }

    goes_opened : (e : ℕ) (o : Opened) → waits s.plan ≡ false → entry_due t s.plan.requested s.plan.current ≡ Some e
        → o ≡ slot_by e → is_open o ≡ true
        → Goes (record { state = opened t x.bytes m (with_plan (abandoned t s) (begun t e)) o; answer = Ok (tick.Opened (open_protected t o)) })
    unfolding schedule plan_with opens slot_begun
    goes_opened e o w c q p f =
        let a = Ok (tick.Opened (open_protected t o)) in
        let y = schedule t h (call.tick m ⇒ a) in
        let d = due_entry e w c in
        let b : is_start due ≡ true = rw d in
        let cl = fits_clauses t s is.fits in
        let can =
        slot_opens_lem t ok (abandoned t s).pending (abandoned t s).message e
        (entry_below t e (rw c at (due_there t ok s.plan.requested s.plan.current cl.schedule_there_lem cl.entry_there_lem))) in
        let there : frame_there t o ≡ true = rw q can.frame_there_lem in
        record {
          agrees = agrees_start y a refl refl b (opened t x.bytes m (with_plan (abandoned t s) (begun t e)) o) f (abandoned_pending t s)
              (opened_transfer y a refl refl b o (named t ok o there p) there (can_request e o (rw q can.can_open_lem))) (rw d) refl refl (abandoned_received t s);
          replies = tick_replies a (rw d (entry_replies e a (answer_opened t o p ∙ ap (answer_for t) q)));
          lawful = λ e' r u k.
              let z : entry e ≡ entry e' = sym d ∙ u in
              let i : e ≡ e' = cc in
              rw b (named t ok o there p ∙ q ∙ rw i (list_first e' k));
        }

    -- an accepted tick
    pub tick_goes : Stepped t h (call.tick m) (tick_effect t x.bytes m s).answer (held (tick_effect t x.bytes m s).state x.bytes)
    tick_goes =
        ticked_by t x.bytes m Goes s goes_waiting goes_idle goes_silent goes_opened
        (fits_all t (tick_effect t x.bytes m s).state (ticked_fits t ok x.bytes m s (fits_clauses t s is.fits)))
