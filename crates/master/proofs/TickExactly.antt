-- Document 01, "Tick", of every state, also one that no history has: when it waits, when it is idle, and else which entry begins and what it opens.
use Prim.Native.Nat.{ℕ, ◌-◌, ◌≤◌, ◌<◌}
use mathlib.Core.Path.{◌≡◌, refl, sym, ◌∙◌}
use mathlib.Core.Logic.{◌↔◌, ◌⊎◌, inl, inr, ⊎_elim}
use mathlib.Core.Bool.{Bool, true, false, xor}
use mathlib.Core.List.{List, [], ◌∷◌}
use native.Mathlib.Omega.{arith}
use borrow.Author.Tests.{lt-ltb, le-ltb}
use lib.ListN.{length, get_or}
use Rattle.wire.specs.Bits.{bit}
use Rattle.wire.specs.Identifier.{p0, p1, protected_byte}
use Rattle.cluster.specs.Table.{identifier, entry_kind, entry_target, entry_delay}
use Rattle.cluster.specs.Lists.{members, first_entry, next_entry}
use Rattle.transport.proofs.Tests.{whether, order}
use Rattle.master.specs.declared.state.Plan.{Plan}
use Rattle.master.specs.declared.state.Opened.{Opened}
use Rattle.master.specs.declared.state.Opened.TheVariants.{Nothing, Frame, Request, Response}
use Rattle.master.specs.declared.state.Sending.{Sending}
use Rattle.master.specs.declared.state.Message.{Message}
use Rattle.master.specs.declared.state.Message.TheVariants as message
use Rattle.master.specs.declared.state.State.{State}
use Rattle.master.specs.declared.tick.TickAnswer.TheVariants.{Waiting, Idle, Silent, Opened as Opens}
use Rattle.master.specs.Answers.{Ticked}
use Rattle.master.specs.Fits.{is_sending}
use Rattle.master.specs.Transfers.{is_open, format_of, open_protected, opening}
use Rattle.master.specs.Plan.{entry_due}
use Rattle.master.specs.State.{with_plan}
use Rattle.master.specs.Message.{message_failed}
use Rattle.master.specs.Closing.{failed}
use Rattle.master.proofs.FitsExactly.{sends_message}
use Rattle.master.specs.Tick.{first_pending, slot_opens, abandoned, opens_or_silent, slot_at, slot, tick_effect, tick_verdict, tick_of}
use Rattle.master.proofs.PendingLaws.{NonePending, First, first_pending_is, first_pending_none}
use Rattle.master.proofs.PendingLength.{abandoned_pending}
use Rattle.master.proofs.SlotFits.{abandoned_nothing, abandoned_plan}
use Rattle.master.proofs.Tests.{never}
use Rattle.std.specs.Prelude.{Ok}
use Rattle.master.specs.Calls.{TickResult}
use Rattle.std.specs.Prelude.{Some, None, Option}

-- ---- the paper's sentences

-- the entry that is due: "the requested schedule begins", "at its entry 0", "or the next entry follows, cyclically"
abbrev EntryDue : List ℕ → Plan → ℕ → Type 0
EntryDue t p e =
    ((n : ℕ) × (p.requested ≡ Some n) × (e ≡ first_entry t n))
    ⊎ ((p.requested ≡ None) × ((c : ℕ) × (p.current ≡ Some c) × (e ≡ next_entry t c)))

-- a message is being sent, and none of its frames is being closed as failed by the slot's start
abbrev StillSending : State → Type 0
StillSending s = ((y : Sending) × (s.message ≡ message.Sending y)) × ¬ (s.transfer.opened ≡ Request)

-- what a slot with entry e answers, and what is open after it
pub record SlotSays (t : List ℕ) (s : State) (e : ℕ) (a : TickResult) (o : Opened) : Type 0 where
  -- "Kind 0 opens its frame."
  pub frame : entry_kind t e ≡ 0 → (a ≡ Ok (Opens (protected_byte (identifier t (entry_target t e))))) × (o ≡ Frame (entry_target t e))
  -- "Kind 1 opens the first pending member, or is silent."
  pub list : entry_kind t e ≡ 1
      → ((f : ℕ) × First s.pending (members t (entry_target t e)) f × (a ≡ Ok (Opens (protected_byte (identifier t f)))) × (o ≡ Frame f))
      ⊎ (NonePending s.pending (members t (entry_target t e)) × (a ≡ Ok Silent) × (o ≡ Nothing))
  -- "Kind 2 opens identifier 60 if a message is being sent, or is silent."
  pub request : entry_kind t e ≡ 2 → (StillSending s × (a ≡ Ok (Opens 60)) × (o ≡ Request)) ⊎ (¬ StillSending s × (a ≡ Ok Silent) × (o ≡ Nothing))
  -- "Kind 3 always opens identifier 61": 7D in hexadecimal
  pub response : entry_kind t e ≡ 3 → (a ≡ Ok (Opens 125)) × (o ≡ Response)

pub record TickSays (t : List ℕ) (s : State) (r : Ticked) : Type 0 where
  -- "If the wait is above 1, it falls by one and the answer is "waiting"."
  pub waiting : (r.answer ≡ Ok Waiting) ↔ (1 < s.plan.wait)
  pub falls : 1 < s.plan.wait → r.state ≡ with_plan s (record { wait = s.plan.wait - 1; current = s.plan.current; requested = s.plan.requested })
  -- "Otherwise a slot starts": "with no schedule the answer is "idle" and the wait stays 0"
  pub idle : (r.answer ≡ Ok Idle) ↔ ((s.plan.wait ≤ 1) × (s.plan.requested ≡ None) × (s.plan.current ≡ None))
  pub stays : r.answer ≡ Ok Idle → r.state.plan ≡ s.plan
  -- "The wait becomes the entry's delay."
  pub begins : (e : ℕ) → s.plan.wait ≤ 1 → EntryDue t s.plan e
      → r.state.plan ≡ record { wait = entry_delay t e; current = Some e; requested = None }
  pub opens : (e : ℕ) → s.plan.wait ≤ 1 → EntryDue t s.plan e → SlotSays t s e r.answer r.state.transfer.opened

-- ---- the message behind the slot's start

sends_still : (o : Opened) (x : Message) → is_sending (message_failed o x) ≡ true → ((y : Sending) × (x ≡ message.Sending y)) × ¬ (o ≡ Request)
sends_still Nothing x h = (sends_message x h, λ e. let z : ◌≡◌ {A = ℕ} 0 1 = cc in omega arith)
sends_still (Frame f) x h = (sends_message x h, λ e. let z : ◌≡◌ {A = ℕ} 0 1 = cc in omega arith)
sends_still Request x h = never h
sends_still Response x h = (sends_message x h, λ e. let z : ◌≡◌ {A = ℕ} 0 1 = cc in omega arith)

still_sends : (o : Opened) (x : Message) (y : Sending) → x ≡ message.Sending y → ¬ (o ≡ Request) → is_sending (message_failed o x) ≡ true
still_sends Nothing x y e n = rw e
still_sends (Frame f) x y e n = rw e
still_sends Request x y e n = absurd (n refl)
still_sends Response x y e n = rw e

module _ (t : List ℕ) (s : State) where
  abandoned_message : (abandoned t s).message ≡ message_failed s.transfer.opened s.message
  unfolding abandoned failed
  abandoned_message = by s.transfer.opened refl
    where
      by : (o : Opened) → s.transfer.opened ≡ o → (abandoned t s).message ≡ message_failed s.transfer.opened s.message
      by Nothing e = rw e
      by (Frame f) e = rw e
      by Request e = rw e
      by Response e = rw e

  sending_behind : (is_sending (abandoned t s).message ≡ true) ↔ StillSending s
  sending_behind = rw abandoned_message (
    (λ h. sends_still s.transfer.opened s.message h),
    (λ w. still_sends s.transfer.opened s.message w.0.0 w.0.1 w.1),
  )

-- ---- a slot with its entry

-- a list opens a frame or nothing
frame_or_nothing : (bits : List Bool) (fs : List ℕ) → (first_pending bits fs ≡ Nothing) ⊎ ((f : ℕ) × (first_pending bits fs ≡ Frame f))
unfolding first_pending
frame_or_nothing bits [] = inl refl
frame_or_nothing bits (f ∷ fs) = whether (get_or bits f false) (λ y. inr (f, rw y)) (λ n. rw n (frame_or_nothing bits fs))

protected_diagnostic : (protected_byte 60 ≡ 60) × (protected_byte 61 ≡ 125)
unfolding protected_byte p0 p1 bit xor
protected_diagnostic = (refl, refl)

module _ (t bs m : List ℕ) (s : State) (e : ℕ) where
  -- the slot behind the closing
  abbrev began : Ticked
  began = slot_at t bs m (abandoned t s) (Some e)

  -- what it opens is answered and open
  opened_as_lem : (o : Opened) → is_open o ≡ true → slot_opens t (abandoned t s).pending (abandoned t s).message e ≡ o
      → (began.answer ≡ Ok (Opens (open_protected t o))) × (began.state.transfer.opened ≡ o)
  unfolding slot_at opens_or_silent opening
  opened_as_lem o y q = rw (q, y) (refl, refl)

  silent_as : slot_opens t (abandoned t s).pending (abandoned t s).message e ≡ Nothing → (began.answer ≡ Ok Silent) × (began.state.transfer.opened ≡ Nothing)
  unfolding slot_at opens_or_silent
  silent_as q = rw q (refl, abandoned_nothing t s)

  slot_says : SlotSays t s e began.answer began.state.transfer.opened
  unfolding slot_opens open_protected format_of
  slot_says = record {
    frame = λ k. opened_as_lem (Frame (entry_target t e)) refl (rw k);
    list = λ k. ⊎_elim
        (λ q.
        let w = silent_as (rw (k, abandoned_pending t s) q) in
        inr (first_pending_none s.pending (members t (entry_target t e)) q, w.0, w.1))
        (λ q.
        let w = opened_as_lem (Frame q.0) refl (rw (k, abandoned_pending t s) q.1) in
        inl (q.0, first_pending_is s.pending (members t (entry_target t e)) q.0 q.1, w.0, w.1))
        (frame_or_nothing s.pending (members t (entry_target t e)));
    request = λ k. whether (is_sending (abandoned t s).message)
        (λ y. let w = opened_as_lem Request refl (rw (k, y)) in inl ((sending_behind t s).0 y, w.0 ∙ rw protected_diagnostic.0, w.1))
        (λ n. let w = silent_as (rw (k, n)) in inr ((λ v. never (sym n ∙ (sending_behind t s).1 v)), w.0, w.1));
    response = λ k. let w = opened_as_lem Response refl (rw k) in (w.0 ∙ rw protected_diagnostic.1, w.1);
  }

-- ---- the tick

module _ (t bs m : List ℕ) (s : State) where
  -- a slot with the entry that is due
  due : (e : ℕ) → EntryDue t s.plan e → entry_due t s.plan.requested s.plan.current ≡ Some e
  due e = ⊎_elim (λ w. rw (w.1, w.2)) (λ w. rw (w.0, w.1.1, w.1.2))

  began_plan : (e : ℕ) → (slot_at t bs m (abandoned t s) (Some e)).state.plan
      ≡ record { wait = entry_delay t e; current = Some e; requested = None }
  unfolding slot_at opens_or_silent
  began_plan e = whether (is_open (slot_opens t (abandoned t s).pending (abandoned t s).message e)) (λ y. rw y) (λ n. rw n)

  -- a slot with an entry neither waits nor is idle
  slot_answers : (e : ℕ) → ¬ ((slot_at t bs m (abandoned t s) (Some e)).answer ≡ Ok Waiting) × ¬ ((slot_at t bs m (abandoned t s) (Some e)).answer ≡ Ok Idle)
  unfolding slot_at opens_or_silent
  slot_answers e = whether (is_open (slot_opens t (abandoned t s).pending (abandoned t s).message e))
      (λ y. rw y ((λ q. let z : ◌≡◌ {A = ℕ} 0 1 = cc in omega arith), λ q. let z : ◌≡◌ {A = ℕ} 0 1 = cc in omega arith))
      (λ n. rw n ((λ q. let z : ◌≡◌ {A = ℕ} 0 1 = cc in omega arith), λ q. let z : ◌≡◌ {A = ℕ} 0 1 = cc in omega arith))

  -- no schedule is requested and none runs, or an entry is due
  abbrev NoSchedule : Type 0
  NoSchedule = (s.plan.requested ≡ None) × (s.plan.current ≡ None)

  none_or_due : NoSchedule ⊎ ((e : ℕ) × EntryDue t s.plan e)
  none_or_due = by s.plan.requested refl s.plan.current refl
    where
      by : (r : Option ℕ) → s.plan.requested ≡ r → (c : Option ℕ) → s.plan.current ≡ c → NoSchedule ⊎ ((e : ℕ) × EntryDue t s.plan e)
      by (Some n) p c q = inr (first_entry t n, inl (n, p, refl))
      by None p None q = inl (p, q)
      by None p (Some e) q = inr (next_entry t e, inr (p, (e, q, refl)))

  not_due : (e : ℕ) → EntryDue t s.plan e → ¬ NoSchedule
  not_due e d n = ⊎_elim
      (λ w. let p = w.1 in let q = n.0 in let z : ◌≡◌ {A = ℕ} 0 1 = cc in omega arith)
      (λ w. let p = w.1.1 in let q = n.1 in let z : ◌≡◌ {A = ℕ} 0 1 = cc in omega arith)
      d

  tick_waits : 1 < s.plan.wait → TickSays t s (tick_effect t bs m s)
  unfolding tick_effect
  tick_waits h = rw (lt-ltb 1 s.plan.wait h) (record {
    waiting = (λ q. h, λ q. refl);
    falls = λ q. refl;
    idle = (λ q. let z : ◌≡◌ {A = ℕ} 0 1 = cc in absurd (omega arith), λ w. absurd (omega (arith, w.0)));
    stays = λ q. let z : ◌≡◌ {A = ℕ} 0 1 = cc in absurd (omega arith);
    begins = λ e l d. absurd (omega arith);
    opens = λ e l d. absurd (omega arith);
  })

  tick_idles : s.plan.wait ≤ 1 → NoSchedule → TickSays t s (tick_effect t bs m s)
  unfolding tick_effect slot slot_at
  tick_idles h n = let c : entry_due t s.plan.requested s.plan.current ≡ None = rw (n.0, n.1) in rw (le-ltb 1 s.plan.wait h, c) (record {
    waiting = (λ q. let z : ◌≡◌ {A = ℕ} 0 1 = cc in absurd (omega arith), λ q. absurd (omega arith));
    falls = λ q. absurd (omega arith);
    idle = (λ q. (h, n.0, n.1), λ w. refl);
    stays = λ q. abandoned_plan t s;
    begins = λ e l d. absurd (not_due e d n);
    opens = λ e l d. absurd (not_due e d n);
  })

  -- only one entry is due
  one_due : (d e : ℕ) → EntryDue t s.plan d → EntryDue t s.plan e → d ≡ e
  one_due d e p q = let u = due d p in let v = due e q in let w : Some d ≡ Some e = sym u ∙ v in cc

  tick_begins : s.plan.wait ≤ 1 → (e : ℕ) → EntryDue t s.plan e → TickSays t s (tick_effect t bs m s)
  unfolding tick_effect slot
  tick_begins h e d = rw (le-ltb 1 s.plan.wait h, due e d) (record {
    waiting = (λ q. absurd ((slot_answers e).0 q), λ q. absurd (omega arith));
    falls = λ q. absurd (omega arith);
    idle = (λ q. absurd ((slot_answers e).1 q), λ w. absurd (not_due e d (w.1, w.2)));
    stays = λ q. absurd ((slot_answers e).1 q);
    begins = λ k l c. rw (one_due k e c d) (began_plan e);
    opens = λ k l c. rw (one_due k e c d) (slot_says t bs m s e);
  })

  effect_exactly : TickSays t s (tick_effect t bs m s)
  effect_exactly =
      order s.plan.wait 1
      (λ l. ⊎_elim (tick_idles l) (λ w. tick_begins l w.0 w.1) none_or_due)
      tick_waits

  -- an accepted tick, of every state
  pub tick_exactly : tick_verdict t (length bs) (length m) s ≡ Ok tt → TickSays t s (tick_of t bs m s)
  unfolding tick_of
  tick_exactly a = rw a effect_exactly
