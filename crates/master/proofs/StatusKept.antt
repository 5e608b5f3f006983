-- "either stays set until read": no call but a status reading clears a bit of status, and only a tick and a byte in change it at all.
use Prim.Native.Nat.{ℕ}
use mathlib.Core.Path.{◌≡◌, refl}
use mathlib.Core.Bool.{true, false}
use mathlib.Core.List.{List}
use lib.Dec.{ltb}
use lib.ListN.{length}
use Rattle.transport.proofs.Tests.{whether}
use Rattle.master.specs.declared.state.Status.{Status}
use Rattle.master.specs.declared.state.State.{State}
use Rattle.master.specs.Answers.{Chosen}
use Rattle.master.specs.Answers.{Ticked}
use Rattle.master.specs.Answers.{Took}
use Rattle.master.specs.Answers.{Sent}
use Rattle.master.specs.Transfers.{is_open, open_protected}
use Rattle.master.specs.Admit.{Step}
use Rattle.master.specs.Select.{select_verdict, select_of}
use Rattle.master.specs.Message.{send_verdict, send_of}
use Rattle.master.specs.Closing.{failed, sent, received}
use Rattle.master.specs.Tick.{abandoned, tick_verdict, tick_of}
use Rattle.master.specs.Byte.{passed, with_byte, byte_verdict, byte_of}
use Rattle.master.proofs.Answered.{by_verdict}
use Rattle.master.proofs.Cases.{taken_by, accepted_state, ticked_by}
use Rattle.master.proofs.StatusLaws.{Stays, stays_set}

same : (x : Status) → Stays x x
same x = record {
  error_stays = λ h. h;
  success_stays = λ h. h;
  overrun_stays = λ h. h;
}

-- a select leaves status
pub select_status : (t : List ℕ) (s : State) (n : ℕ) → (select_of t s n).state.status ≡ s.status
unfolding select_of
select_status t s n = by_verdict (λ (w : Chosen). w.state.status ≡ s.status) (select_verdict t s n) _ _ (λ r e. refl) (λ a. refl)

-- a send leaves status
pub send_status : (t : List ℕ) (s : State) (nad n : ℕ) → (send_of t s nad n).state.status ≡ s.status
unfolding send_of
send_status t s nad n = by_verdict (λ (w : Sent). w.state.status ≡ s.status) (send_verdict t s n) _ _ (λ r e. refl) (λ a. refl)

module _ (t : List ℕ) (s : State) where
  abandoned_stays : Stays s.status (abandoned t s).status
  unfolding abandoned failed
  abandoned_stays =
      whether (is_open s.transfer.opened)
      (λ y. rw y (stays_set s.status (ltb 0 s.transfer.count) false (open_protected t s.transfer.opened)))
      (λ n. rw n (same s.status))

  -- a tick clears no bit of status
  pub tick_stays : (bs m : List ℕ) → Stays s.status (tick_of t bs m s).state.status
  unfolding tick_of
  tick_stays bs m =
      by_verdict (λ (w : Ticked). Stays s.status w.state.status) (tick_verdict t (length bs) (length m) s) _ _
      (λ r e. same s.status)
      (λ a. ticked_by t bs m (λ w. Stays s.status w.state.status) s
      (λ y. same s.status) (λ n c. abandoned_stays) (λ e n c q. abandoned_stays) (λ e o n c p y. abandoned_stays))

  failed_stays : Stays s.status (failed t s true).status
  unfolding failed
  failed_stays = stays_set s.status true false (open_protected t s.transfer.opened)

  sent_stays : Stays s.status (sent t s).status
  unfolding sent
  sent_stays = stays_set s.status true true (open_protected t s.transfer.opened)

  received_stays : Stays s.status (received t s).status
  unfolding received
  received_stays = stays_set s.status true true (open_protected t s.transfer.opened)

  -- a byte in clears no bit of status
  pub byte_stays : (bs : List ℕ) (b : ℕ) → Stays s.status (byte_of t s bs b).given.state.status
  unfolding byte_of passed
  byte_stays bs b =
      by_verdict (λ (w : Step Took). Stays s.status w.given.state.status) (byte_verdict t (length bs) s) _ _
      (λ r e. same s.status)
      (λ a. taken_by t s bs b (λ w. Stays s.status w.given.state.status)
      (λ nine e. same s.status) failed_stays (λ y. sent_stays)
      (λ n. rw (accepted_state t s s.transfer.opened (with_byte s.transfer b) bs) received_stays))
