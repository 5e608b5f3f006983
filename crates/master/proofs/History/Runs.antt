-- Every sequence of calls after an accepted fresh call: what holds after it, and at each of its events.
use Prim.Native.Nat.{ℕ, suc, ◌≤◌}
use mathlib.Core.Path.{◌≡◌, refl}
use mathlib.Core.Bool.{true}
use mathlib.Core.List.{List}
use native.Mathlib.Omega.{arith}
use borrow.Author.Tests.{eq-eqb}
use lib.ListN.{length, take}
use Rattle.cluster.specs.Check.{taken_of, TakenTable, RightTable}
use Rattle.cluster.proofs.Accepted.{then_first}
use Rattle.master.specs.Answers.{Started}
use Rattle.master.specs.Admit.{buffer_size, Step}
use Rattle.master.specs.Start.{fresh_verdict, fresh_of}
use Rattle.master.specs.Transfers.{is_open, open_length, sends}
use Rattle.master.specs.Seq.{Seq, ∅, ◌▹◌}
use Rattle.master.specs.Calls.{Call, Event, ◌⇒◌}
use Rattle.master.specs.Run.{Held, answer_of, left_by, held_after, history_of}
use Rattle.master.specs.Schedule.{slot_begun, Scheduled, schedule, scheduled}
use Rattle.master.specs.History.{open_after, got_after}
use Rattle.master.specs.Answering.{due_after}
use Rattle.master.specs.Replies.{Replies}
use Rattle.master.specs.Claim.{record_of}
use Rattle.master.proofs.Admitted.{fits_clauses, open_count}
use Rattle.master.proofs.Answered.{by_verdict}
use Rattle.master.proofs.History.Along.{Along}
use Rattle.master.proofs.History.Agrees.{Agrees, agrees_fresh}
use Rattle.master.proofs.History.Progress.{Lawful}
use Rattle.master.proofs.History.Stepped.{Stepped}
use Rattle.master.proofs.History.Steps.{steps}
use Rattle.cluster.proofs.TakenLaws.{taken_right}
use Rattle.std.specs.Prelude.{Ok}

-- the answer of an event is the one that the history before it gives
abbrev pub RepliesTo : List ℕ → Seq Scheduled → Event → Type 0
RepliesTo t h (c ⇒ a) = Replies t h c a

-- what holds of an event x after h
pub record Good (t : List ℕ) (h : Seq Scheduled) (x : Scheduled) : Type 0 where
  -- its slot is the one due
  pub placed : x.slot ≡ (schedule t h x.event).slot
  pub replies : RepliesTo t h x.event
  pub lawful : Lawful t h x
  -- of the transfer that is open before it: no more bytes came than close it, and of one that the master sends they are the first of those due
  pub short : is_open (open_after t h) ≡ true → length (got_after h) ≤ open_length t (open_after t h)
  pub due_length : sends t (open_after t h) ≡ true → length (due_after t h) ≡ suc (open_length t (open_after t h))
  pub matched : sends t (open_after t h) ≡ true → got_after h ≡ take (length (got_after h)) (due_after t h)

module _ (t : List ℕ) (h : Seq Scheduled) (x : Held) (is : Agrees t h x) (c : Call) (st : Stepped t h c (answer_of t x c) (left_by t x c)) where
  pub good_step : Good t h (schedule t h (c ⇒ answer_of t x c))
  unfolding schedule slot_begun
  good_step = record {
    placed = refl;
    replies = st.replies;
    lawful = st.lawful;
    short = λ o.
        rw (← is.transfer.count_is, ← is.transfer.opened_is)
        (open_count t x.state (fits_clauses t x.state is.fits).count_fits_lem (rw is.transfer.opened_is o));
    due_length = is.transfer.due_length;
    matched = is.transfer.matched;
  }

-- a fresh call is accepted for every accepted table and every buffer of its size
pub fresh_taken : (t bs : List ℕ) → TakenTable t → length bs ≡ buffer_size t → (fresh_of t bs).given.answer ≡ Ok tt
unfolding fresh_of fresh_verdict
fresh_taken t bs ok size = rw (ok, eq-eqb (length bs) (buffer_size t) size)

module _ (t bs : List ℕ) (accepted : (fresh_of t bs).given.answer ≡ Ok tt) where
  fresh_accepts : fresh_verdict t (length bs) ≡ Ok tt
  unfolding fresh_of
  fresh_accepts =
      by_verdict (λ (w : Step Started). w.given.answer ≡ Ok tt → fresh_verdict t (length bs) ≡ Ok tt) (fresh_verdict t (length bs)) _ _
      (λ r e k. let z : ◌≡◌ {A = ℕ} 0 1 = cc in absurd (omega arith))
      (λ a k. a)
      accepted

  -- an accepted fresh call has a table that is taken
  pub table_taken : TakenTable t
  unfolding fresh_verdict
  table_taken = then_first (taken_of t) _ fresh_accepts

  pub fresh_table : RightTable t
  fresh_table = taken_right t table_taken

  -- after every sequence of calls the state and the bytes are what its history says
  pub agrees : (cs : Seq Call) → Agrees t (record_of t bs cs) (held_after t bs cs)
  unfolding held_after history_of scheduled fresh_of
  agrees ∅ = rw fresh_accepts (agrees_fresh t fresh_table)
  agrees (cs ▹ c) = (steps t table_taken (record_of t bs cs) (held_after t bs cs) (agrees cs) c).agrees

  -- and every event of its history is good
  pub goods : (cs : Seq Call) → Along (Good t) (record_of t bs cs)
  unfolding held_after history_of scheduled
  goods ∅ = tt
  goods (cs ▹ c) = (
    goods cs,
    good_step t (record_of t bs cs) (held_after t bs cs) (agrees cs) c (steps t table_taken (record_of t bs cs) (held_after t bs cs) (agrees cs) c),
  )
