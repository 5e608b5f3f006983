-- Demand 3 with rows of values: the claim holds of every sequence of orders.
use Prim.Native.Nat.{ℕ}
use mathlib.Core.Path.{◌≡◌, refl, ◌∙◌, ap}
use mathlib.Core.List.{List, [], ◌∷◌}
use native.Mathlib.Omega.{arith}
use Rattle.master.specs.Start.{fresh_of}
use Rattle.master.specs.Seq.{Seq, ∅, ◌▹◌, Each}
use Rattle.master.specs.Calls.{Call, write, Event, ◌⇒◌}
use Rattle.master.specs.Put.{Put, puts}
use Rattle.master.specs.Acts.{nothing, act_of}
use Rattle.master.specs.Run.{Held, answer_of, held_after, history_of}
use Rattle.master.specs.Schedule.{schedule, scheduled}
use Rattle.master.specs.Claim.{record_of, HeldClaim, HistoryClaim}
use Rattle.master.specs.RowInWords.{row_answer, row_left, after_writes, Admitted}
use Rattle.master.proofs.Admitted.{admits}
use Rattle.master.proofs.RowExactly.{row_is_writes, row_refused_unchanged}
use Rattle.master.proofs.History.Claimed.{demand_3}
use Rattle.master.proofs.History.Runs.{table_taken, agrees}
use Rattle.orders.specs.Orders.{Order, one, row, ◌⇛◌, with_writes, read_row, read_order}
use Rattle.orders.specs.Run.{order_answer, order_left, held_by}
use Rattle.orders.specs.Replies.{OrderReplies}
use Rattle.orders.specs.Claim.{read_of, OrderClaim}
use Rattle.orders.proofs.AsCalls.{as_calls, read_as_calls}
use Rattle.orders.proofs.RowReplies.{row_replies}
use Rattle.std.specs.Prelude.{Ok}
use Rattle.std.specs.Prelude.{Err}
use Rattle.master.specs.Calls.{WriteAnswer}

-- of an accepted row of which no event counts there is no pair
some_write : (h : Seq Event) (w : Put) (ws : List Put) → ¬ (Each (λ e. act_of e ≡ nothing) (with_writes (h ▹ (write w ⇒ Ok tt)) ws))
unfolding with_writes
some_write h w [] n = let z : ◌≡◌ {A = ℕ} 0 1 = (let y = n.1 in cc) in omega arith
some_write h w (v ∷ ws) n = some_write (h ▹ (write w ⇒ Ok tt)) v ws n

none_written : (t : List ℕ) (x : Held) (ws : List Put) → Each (λ e. act_of e ≡ nothing) (with_writes ∅ ws) → after_writes t x ws ≡ x
unfolding with_writes after_writes
none_written t x [] n = refl
none_written t x (w ∷ ws) n = absurd (some_write ∅ w ws n)

module _ (t bs : List ℕ) (accepted : (fresh_of t bs).given.answer ≡ Ok tt) (os : Seq Order) where
  abbrev calls : Seq Call
  calls = as_calls t bs os

  pub same_held : held_after t bs calls ≡ held_by t bs os
  same_held = (read_as_calls t bs os).0

  pub same_record : record_of t bs calls ≡ read_of t bs os
  same_record = ap (scheduled t) (read_as_calls t bs os).1

  -- (a)
  held_claim : HeldClaim t (read_of t bs os) (held_by t bs os)
  held_claim = rw (same_held, same_record) at ((demand_3 t bs accepted calls).after_each calls ∅ refl)

  -- (b) to (e)
  history_claim : HistoryClaim t (read_of t bs os)
  history_claim = rw same_record at (demand_3 t bs accepted calls).history

  -- tests 1 to 3 hold after every order
  pub admitted_after : Admitted t (held_by t bs os)
  admitted_after =
      let is = agrees t bs accepted calls in
      rw same_held at (admits t _ _ (table_taken t bs accepted) is.frames.size is.fits)

  -- (f)
  pub replies : (o : Order) → OrderReplies t (read_of t bs os) o (order_answer t (held_by t bs os) o)
  unfolding order_answer history_of scheduled schedule
  replies (one c) =
      rw (same_held, same_record) at ((demand_3 t bs accepted (calls ▹ c)).answers (record_of t bs calls) ∅ c (answer_of t (held_after t bs calls) c) _ _ refl)
  replies (row ss vs) = row_replies t (held_by t bs os) admitted_after ss vs

  -- (f) an order of which no event counts leaves all as it was
  leaves_all : (o : Order) → Each (λ e. act_of e ≡ nothing) (read_order ∅ (o ⇛ order_answer t (held_by t bs os) o)) → order_left t (held_by t bs os) o ≡ held_by t bs os
  unfolding order_answer order_left read_order held_after row_answer row_left
  leaves_all (one c) n = rw same_held at ((demand_3 t bs accepted (calls ▹ c)).unchanged calls ∅ c refl (rw (← same_held) at n.1))
  leaves_all (row ss vs) n = by (order_answer t (held_by t bs os) (row ss vs)) refl n
    where
      by : (a : WriteAnswer) → order_answer t (held_by t bs os) (row ss vs) ≡ a → Each (λ e. act_of e ≡ nothing) (read_row a ∅ (puts ss vs))
          → order_left t (held_by t bs os) (row ss vs) ≡ held_by t bs os
      by (Ok tt) k m = row_is_writes t (held_by t bs os) ss vs k ∙ none_written t (held_by t bs os) (puts ss vs) m
      by (Err r) k m = row_refused_unchanged t (held_by t bs os) ss vs r k

-- Demand 3 with rows
pub demand_3_with_rows : (t bs : List ℕ) → (fresh_of t bs).given.answer ≡ Ok tt → (os : Seq Order) → OrderClaim t bs os
unfolding held_by
demand_3_with_rows t bs accepted os = record {
  after_each = λ before after p. held_claim t bs accepted before;
  history = history_claim t bs accepted os;
  answers = λ before after o p. replies t bs accepted before o;
  unchanged = λ before after o p n. leaves_all t bs accepted before o n;
}
