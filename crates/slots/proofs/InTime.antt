-- What the judge's "can open" is in the master, and what a judgement of holds says of every tick.
use Prim.Native.Nat.{ℕ}
use mathlib.Core.Path.{◌≡◌, refl, sym}
use mathlib.Core.Bool.{true, cond, ◌&&◌}
use mathlib.Core.List.{List}
use mathlib.Core.Logic.{◌↔◌}
use native.Mathlib.Omega.{arith}
use borrow.Author.Tests.{eqb-true, eq-eqb, ltb-true}
use lib.Dec.{eqb}
use lib.ListN.{length}
use Rattle.wire.proofs.Tests.{whether, and_left, and_right}
use Rattle.cluster.specs.Lists.{is_one_of, members}
use Rattle.cluster.specs.Table.{frame_length, member_frame, entry_count, entry_kind, entry_target}
use Rattle.cluster.proofs.Accepted.{then_first}
use Rattle.cluster.proofs.ListLaws.{in_list}
use Rattle.master.specs.declared.state.Message.{Message}
use Rattle.master.specs.declared.state.Message.TheVariants as message
use Rattle.master.specs.declared.state.Opened as state
use Rattle.master.specs.declared.state.Opened.TheVariants.{Nothing, Frame, Request, Response}
use Rattle.master.specs.declared.state.State.{State}
use Rattle.master.specs.Answers.{Ticked}
use Rattle.master.specs.declared.tick.TickAnswer.TheVariants as answer
use Rattle.master.specs.Fits.{entry_there, entry_opens, state_fits}
use Rattle.master.specs.Plan.{waits, entry_due}
use Rattle.master.specs.Tick.{slot_opens, abandoned, opens_or_silent, slot_at, slot, tick_effect, tick_verdict, tick_of}
use Rattle.master.specs.Transfers.{is_open, format_of, open_length, opening}
use Rattle.master.proofs.Admitted.{admitted_fits, fits_clauses}
use Rattle.master.proofs.SlotOpens as slots
use Rattle.timing.specs.InWords.{Opens, its_frame, its_member, the_request, the_response, Fits}
use Rattle.timing.specs.Judge.{judge_of}
use Rattle.timing.proofs.JudgeExactly.{holds_exactly}
use Rattle.std.specs.Prelude.{Ok, Err}
use Rattle.cluster.specs.Check.{Verdict}
use Rattle.std.specs.Prelude.{None}
use Rattle.std.specs.Prelude.{Some, Option}

-- an entry can open something of so many data bytes by the sentence of refusal 3: "a list entry can open each member of its list, whatever is
-- pending now; for kind 2 also: no message being sent"
abbrev pub CanOpen : List ℕ → ℕ → ℕ → Type 0
CanOpen t e n = (x : Message) × (o : state.Opened) × (is_open o ≡ true) × (entry_opens t x e o ≡ true) × (open_length t o ≡ n)

module _ (t : List ℕ) (e : ℕ) where
  -- what the judge says that an entry can open, the master can open there
  opens_there : (n : ℕ) → Opens t e n → CanOpen t e n
  unfolding entry_opens format_of
  opens_there n (its_frame k) = (message.None, Frame (entry_target t e), refl, rw k (eq-eqb (entry_target t e) (entry_target t e) refl), refl)
  opens_there n (its_member k m h q) =
      (message.None, Frame (member_frame t m), refl, rw k ((in_list t (entry_target t e) (member_frame t m)).1 (m, h, q, refl)), refl)
  opens_there n (the_request k) = (message.Sending (record { nad = 0; length = 1; next = 0 }), Request, refl, rw k, refl)
  opens_there n (the_response k) = (message.None, Response, refl, rw k, refl)

  frame_there_lem : (f : ℕ)
      → cond (eqb (entry_kind t e) 0) (eqb (entry_target t e) f) (eqb (entry_kind t e) 1 && is_one_of f (members t (entry_target t e))) ≡ true
      → Opens t e (frame_length t f)
  frame_there_lem f h =
      whether (eqb (entry_kind t e) 0)
      (λ k. let same = eqb-true (entry_target t e) f (rw k at h) in rw (sym same) (its_frame (eqb-true (entry_kind t e) 0 k)))
      (λ k.
      let list = rw k at h in
      let one = and_left (eqb (entry_kind t e) 1) (is_one_of f (members t (entry_target t e))) list in
      let w = (in_list t (entry_target t e) f).0 (and_right (eqb (entry_kind t e) 1) (is_one_of f (members t (entry_target t e))) list) in
      rw (sym w.3) (its_member (eqb-true (entry_kind t e) 1 one) w.0 w.1 w.2))

  -- and what the master can open there, the judge reckons with
  there_opens : (x : Message) (o : state.Opened) → is_open o ≡ true → entry_opens t x e o ≡ true → Opens t e (open_length t o)
  unfolding entry_opens format_of
  there_opens x Nothing h k = let z : ◌≡◌ {A = ℕ} 0 1 = cc in absurd (omega arith)
  there_opens x (Frame f) h k = frame_there_lem f k
  there_opens x Request h k = the_request (eqb-true (entry_kind t e) 2 (and_left (eqb (entry_kind t e) 2) _ k))
  there_opens x Response h k = the_response (eqb-true (entry_kind t e) 3 k)

  -- the frames that the judge reckons with are those that the master can open
  pub opens_exactly : (n : ℕ) → Opens t e n ↔ CanOpen t e n
  opens_exactly n = (opens_there n, λ w. rw w.4 at (there_opens w.0 w.1 w.2 w.3))

-- ---- a tick

module _ (t bs m : List ℕ) (tick bit : ℕ) (holds : judge_of t tick bit ≡ Ok None) where
  -- what a tick hands back has time for what it opened
  abbrev InTime : Ticked → Type 0
  InTime r = (p : ℕ) → r.answer ≡ Ok (answer.Opened p) → Fits tick bit r.state.plan.wait (open_length t r.state.transfer.opened)

  slot_in_time : (s : State) (c : Option ℕ) → entry_there t c ≡ true → InTime (slot_at t bs m s c)
  unfolding slot_at opens_or_silent opening
  slot_in_time s None h = λ p a. let z : ◌≡◌ {A = ℕ} 0 1 = cc in absurd (omega arith)
  slot_in_time s (Some e) h =
      let w = (holds_exactly t tick bit).0 holds in
      let there = ltb-true e (entry_count t) h in
      let o = slot_opens t s.pending s.message e in
      let can = (slots.slot_opens_lem t w.0 s.pending s.message e there).can_open_lem in
      whether (is_open o)
      (λ y. rw y (λ p a. w.3 e there (open_length t o) (there_opens t e s.message o y can)))
      (λ n. rw n (λ p a. let z : ◌≡◌ {A = ℕ} 0 1 = cc in absurd (omega arith)))

  effect_in_time : (s : State) → state_fits t s ≡ true → InTime (tick_effect t bs m s)
  unfolding tick_effect slot
  effect_in_time s fits =
      let f = fits_clauses t s fits in
      let ok = ((holds_exactly t tick bit).0 holds).0 in
      whether (waits s.plan)
      (λ y. rw y (λ p a. let z : ◌≡◌ {A = ℕ} 0 1 = cc in absurd (omega arith)))
      (λ n. rw n (slot_in_time (abandoned t s) (entry_due t s.plan.requested s.plan.current)
      (slots.due_there t ok s.plan.requested s.plan.current f.schedule_there_lem f.entry_there_lem)))

  -- where every slot holds its longest frame: whatever a tick opens, in every state, takes at its longest no more than the ticks that it sets
  pub opened_in_time : (s : State) (p : ℕ) → (tick_of t bs m s).answer ≡ Ok (answer.Opened p)
      → Fits tick bit (tick_of t bs m s).state.plan.wait (open_length t (tick_of t bs m s).state.transfer.opened)
  unfolding tick_of tick_verdict
  opened_in_time s = by (tick_verdict t (length bs) (length m) s) refl
    where
      by : (v : Verdict) → tick_verdict t (length bs) (length m) s ≡ v → InTime (tick_of t bs m s)
      by (Ok tt) e = rw e (effect_in_time s (admitted_fits t (length bs) s (then_first _ _ e)))
      by (Err r) e = rw e (λ p a. let z : ◌≡◌ {A = ℕ} 0 1 = cc in absurd (omega arith))
