-- What holds in each case of a byte and of a tick holds of the byte and of the tick.
use Prim.Native.Nat.{ℕ}
use mathlib.Core.Path.{◌≡◌, refl}
use mathlib.Core.Bool.{true, false}
use mathlib.Core.List.{List}
use lib.Dec.{eqb}
use lib.ListN.{get_or}
use Rattle.transport.proofs.Tests.{whether}
use Rattle.master.specs.declared.state.Opened.{Opened}
use Rattle.master.specs.declared.state.Opened.TheVariants.{Nothing, Frame, Request, Response}
use Rattle.master.specs.declared.state.State.{State}
use Rattle.master.specs.declared.byte.ByteAnswer.TheVariants as byte
use Rattle.master.specs.Answers.{Took}
use Rattle.master.specs.declared.tick.TickAnswer.TheVariants as tick
use Rattle.master.specs.Answers.{Ticked}
use Rattle.master.specs.Admit.{Step}
use Rattle.master.specs.Transfers.{is_open, sends, open_protected, opening}
use Rattle.master.specs.Plan.{waits, waited, entry_due, begun}
use Rattle.master.specs.Closing.{failed, sent, received}
use Rattle.master.specs.Tick.{slot_opens, abandoned, opens_or_silent, slot_at, slot, tick_effect}
use Rattle.master.specs.Byte.{passed, early, sent_byte, with_byte, checksum_right, accepted, last_byte, received_byte, byte_effect}
use Rattle.master.specs.State.{with_plan, with_transfer}
use Rattle.std.specs.Prelude.{Ok}
use Rattle.std.specs.Prelude.{Some, None, Option}
use Rattle.master.specs.Answers.{handed}

-- a byte that changes no frame byte
abbrev pub keeping : Took → List ℕ → Step Took
keeping r bs = record { given = r; left = bs }

module _ (t : List ℕ) (s : State) (bs : List ℕ) (b : ℕ) (P : Step Took → Type 0) where
  -- a byte is one of more, the failing one, the last of a sent transfer, or the last of a received one with a right checksum
  pub taken_by :
      ((nine : List ℕ) → early t s.transfer ≡ true → P (keeping (handed (passed s nine) (Ok byte.More)) bs))
      → P (keeping (handed (failed t s true) (Ok byte.Failure)) bs)
      → (sends t s.transfer.opened ≡ true → P (keeping (handed (sent t s) (Ok byte.Success)) bs))
      → (sends t s.transfer.opened ≡ false → P (accepted t s s.transfer.opened (with_byte s.transfer b) bs))
      → P (byte_effect t s bs b)
  unfolding byte_effect sent_byte received_byte last_byte
  taken_by more failure last_sent last_received =
      whether (sends t s.transfer.opened)
      (λ y. whether (eqb (get_or s.transfer.bytes s.transfer.count 0) b)
      (λ e. whether (early t s.transfer) (λ z. rw (y, e, z) (more s.transfer.bytes z)) (λ z. rw (y, e, z) (last_sent y)))
      (λ e. rw (y, e) failure))
      (λ y. whether (early t s.transfer)
      (λ z. rw (y, z) (more (with_byte s.transfer b) z))
      (λ z. whether (checksum_right t s.transfer.opened (with_byte s.transfer b))
      (λ c. rw (y, z, c) (last_received y))
      (λ c. rw (y, z, c) failure)))

-- the last byte of a received transfer, with a right checksum, closes it as successful
pub accepted_state : (t : List ℕ) (s : State) (o : Opened) (nine bs : List ℕ) → (accepted t s o nine bs).given.state ≡ received t s
unfolding accepted
accepted_state t s Nothing nine bs = refl
accepted_state t s (Frame f) nine bs = refl
accepted_state t s Request nine bs = refl
accepted_state t s Response nine bs = refl

-- the state that opens something
abbrev pub opened : List ℕ → List ℕ → List ℕ → State → Opened → State
opened t bs m s o = with_transfer s (opening t bs s.message m o)

module _ (t bs m : List ℕ) (P : Ticked → Type 0) where
  opens_by : (s : State) (o : Opened)
      → (is_open o ≡ false → P (record { state = s; answer = Ok tick.Silent }))
      → (is_open o ≡ true → P (record { state = opened t bs m s o; answer = Ok (tick.Opened (open_protected t o)) }))
      → P (opens_or_silent t bs m s o)
  unfolding opens_or_silent
  opens_by s o silent opening = whether (is_open o) (λ y. rw y (opening y)) (λ n. rw n (silent n))

  slot_by_lem : (s : State) (c : Option ℕ)
      → (c ≡ None → P (record { state = s; answer = Ok tick.Idle }))
      → ((e : ℕ) → c ≡ Some e → P (opens_or_silent t bs m (with_plan s (begun t e)) (slot_opens t s.pending s.message e)))
      → P (slot_at t bs m s c)
  unfolding slot_at
  slot_by_lem s None idle entry = idle refl
  slot_by_lem s (Some e) idle entry = entry e refl

  -- a tick waits, or starts a slot that is idle, silent or opens something
  pub ticked_by : (s : State)
      → (waits s.plan ≡ true → P (record { state = with_plan s (waited s.plan); answer = Ok tick.Waiting }))
      → (waits s.plan ≡ false → entry_due t s.plan.requested s.plan.current ≡ None
      → P (record { state = abandoned t s; answer = Ok tick.Idle }))
      → ((e : ℕ) → waits s.plan ≡ false → entry_due t s.plan.requested s.plan.current ≡ Some e
      → is_open (slot_opens t (abandoned t s).pending (abandoned t s).message e) ≡ false
      → P (record { state = with_plan (abandoned t s) (begun t e); answer = Ok tick.Silent }))
      → ((e : ℕ) (o : Opened) → waits s.plan ≡ false → entry_due t s.plan.requested s.plan.current ≡ Some e
      → o ≡ slot_opens t (abandoned t s).pending (abandoned t s).message e → is_open o ≡ true
      → P (record { state = opened t bs m (with_plan (abandoned t s) (begun t e)) o; answer = Ok (tick.Opened (open_protected t o)) }))
      → P (tick_effect t bs m s)
  unfolding tick_effect slot
  ticked_by s waiting idle silent opening =
      whether (waits s.plan) (λ y. rw y (waiting y))
      (λ n. rw n (slot_by_lem (abandoned t s) (entry_due t s.plan.requested s.plan.current) (idle n)
      (λ e c. let o = slot_opens t (abandoned t s).pending (abandoned t s).message e in
      opens_by (with_plan (abandoned t s) (begun t e)) o (silent e n c) (opening e o n c refl))))
