-- An accepted write changes the pending bits of the frames that its signal touches, the written mark and the signal's bits, and nothing else.
use Prim.Native.Nat.{ℕ}
use mathlib.Core.Path.{◌≡◌, refl}
use mathlib.Core.Bool.{◌||◌}
use mathlib.Core.List.{List}
use lib.ListN.{length}
use Rattle.master.specs.declared.state.State.{State}
use Rattle.master.specs.Answers.{Wrote}
use Rattle.master.specs.Admit.{Step}
use Rattle.master.specs.Write.{marked_from, touches_open, rewritten, marked, write_verdict, write_of}
use Rattle.master.proofs.Answered.{by_verdict}
use Rattle.master.specs.Put.{Put, with_value}
use Rattle.std.specs.Prelude.{Ok}

-- what a write, refused or not, leaves of the state
pub record Beside (x y : State) : Type 0 where
  pub plan_same : y.plan ≡ x.plan
  pub message_same : y.message ≡ x.message
  pub status_same : y.status ≡ x.status
  pub opened_same : y.transfer.opened ≡ x.transfer.opened
  pub count_same : y.transfer.count ≡ x.transfer.count
  pub copy_same : y.transfer.bytes ≡ x.transfer.bytes
  pub received_same : y.received ≡ x.received

-- the marks of a write, each by itself
pub record Marks (t : List ℕ) (s : ℕ) (x y : State) : Type 0 where
  pub pending_is : y.pending ≡ marked_from t s 0 x.pending
  pub written_is : y.transfer.written ≡ (x.transfer.written || touches_open t s x.transfer.opened)

marked_marks : (t : List ℕ) (s : ℕ) (x y : State) → y ≡ marked t s x → Marks t s x y
unfolding marked rewritten
marked_marks t s x y e = record {
  pending_is = rw e;
  written_is = rw e;
}

-- ---- a write of either kind

module _ (t : List ℕ) (x : State) (bs : List ℕ) (w : Put) where
  -- an accepted write is one that its verdict accepts
  pub write_accepts : (write_of t x bs w).given.answer ≡ Ok tt → write_verdict t (length bs) x w ≡ Ok tt
  unfolding write_of
  write_accepts = by_verdict (λ (z : Step Wrote). z.given.answer ≡ Ok tt → write_verdict t (length bs) x w ≡ Ok tt)
      (write_verdict t (length bs) x w) _ _
      (λ r e k. cc) (λ a k. a)

  -- an accepted write changes no more of the state than the marks
  pub write_state : (write_of t x bs w).given.answer ≡ Ok tt → (write_of t x bs w).given.state ≡ marked t w.signal x
  unfolding write_of
  write_state k = rw (write_accepts k)

  -- an accepted write makes the frames pending that its signal touches, and marks an open transfer of one of them as written
  pub write_marks : (write_of t x bs w).given.answer ≡ Ok tt → Marks t w.signal x (write_of t x bs w).given.state
  write_marks k = marked_marks t w.signal x (write_of t x bs w).given.state (write_state k)

  -- an accepted write leaves the frame bytes with the value in the signal's bits
  pub write_left : (write_of t x bs w).given.answer ≡ Ok tt → (write_of t x bs w).left ≡ with_value t bs w.signal w.value
  unfolding write_of
  write_left k = rw (write_accepts k)

  -- a write, refused or not, leaves the plan, the message, the status, the open transfer with its count and its bytes, and the receptions
  pub write_beside : Beside x (write_of t x bs w).given.state
  unfolding write_of marked rewritten
  write_beside =
      by_verdict (λ (z : Step Wrote). Beside x z.given.state) (write_verdict t (length bs) x w) _ _
      (λ r e. record { plan_same = refl; message_same = refl; status_same = refl; opened_same = refl; count_same = refl; copy_same = refl; received_same = refl })
      (λ a. record { plan_same = refl; message_same = refl; status_same = refl; opened_same = refl; count_same = refl; copy_same = refl; received_same = refl })

  -- "later writes do not touch that copy": neither accepted ones nor refused ones
  pub write_copy : (write_of t x bs w).given.state.transfer.bytes ≡ x.transfer.bytes
  write_copy = write_beside.copy_same
