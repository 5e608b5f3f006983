-- Part (f) over orders leaves no choice: some answered orders meet it if and only if they are those of our core, and so it decides every answer. And what a
-- published signal reads as, with rows in the history.
use Prim.Native.Nat.{ℕ, ◌<◌}
use mathlib.Core.Path.{◌≡◌, refl, sym, ◌∙◌, ap, subst}
use mathlib.Core.Logic.{◌↔◌}
use mathlib.Core.Bool.{true}
use mathlib.Core.List.{List}
use lib.ListN.{replicate, length-replicate}
use Rattle.cluster.specs.Check.{RightTable}
use Rattle.cluster.specs.Table.{signal_count}
use Rattle.cluster.specs.Values.{signal_published}
use Rattle.cluster.proofs.TakenLaws.{right_taken}
use Rattle.master.specs.Admit.{buffer_size}
use Rattle.master.specs.Start.{fresh_of}
use Rattle.master.specs.Seq.{Seq, ∅, ◌▹◌}
use Rattle.master.specs.Run.{answer_of}
use Rattle.master.specs.InWords.{last_value, ReadsAs}
use Rattle.master.proofs.History.Only.{only_answer}
use Rattle.master.proofs.History.LastWrite.{last_write}
use Rattle.master.proofs.History.Runs.{fresh_taken}
use Rattle.orders.specs.Orders.{Order, one, row, OrderAnswer, Ordered, ◌⇛◌}
use Rattle.orders.specs.Run.{order_answer, held_by, ordered_of}
use Rattle.orders.specs.Replies.{OrderReplies}
use Rattle.orders.specs.Claim.{read_of, orders_of, Meets}
use Rattle.orders.proofs.AsCalls.{as_calls}
use Rattle.orders.proofs.RowReplies.{row_replies}
use Rattle.orders.proofs.Claimed.{same_held, same_record, admitted_after, replies}
use Rattle.std.specs.Prelude.{Ok}

module _ (t bs : List ℕ) (accepted : (fresh_of t bs).given.answer ≡ Ok tt) where
  -- after every sequence of orders, an answer that (f) takes is the one that the core gives
  pub only_order_answer : (os : Seq Order) (o : Order) (a : OrderAnswer o) → OrderReplies t (read_of t bs os) o a → a ≡ order_answer t (held_by t bs os) o
  unfolding order_answer
  only_order_answer os (one c) a r =
      only_answer t bs accepted (as_calls t bs os) c a (rw (← same_record t bs accepted os) at r)
      ∙ ap (λ x. answer_of t x c) (same_held t bs accepted os)
  only_order_answer os (row ss vs) a r = r ∙ sym (row_replies t (held_by t bs os) (admitted_after t bs accepted os) ss vs)

  core_meets : (os : Seq Order) → Meets t (ordered_of t bs os)
  unfolding ordered_of
  core_meets ∅ = tt
  core_meets (os ▹ o) = (core_meets os, replies t bs accepted os o)

  meets_core : (h : Seq Ordered) → Meets t h → h ≡ ordered_of t bs (orders_of h)
  unfolding ordered_of
  meets_core ∅ m = refl
  meets_core (h ▹ (o ⇛ a)) m =
      let e = meets_core h m.0 in
      let r : OrderReplies t (read_of t bs (orders_of h)) o a = rw e at m.1 in
      let q = only_order_answer (orders_of h) o a r in
      cc

  -- any core meets (f) exactly where it answers as ours does
  pub orders_exactly : (h : Seq Ordered) → Meets t h ↔ (h ≡ ordered_of t bs (orders_of h))
  orders_exactly h = (meets_core h, λ e. subst (Meets t) (sym e) (core_meets (orders_of h)))

  -- a published signal reads as its last accepted write left it, also one in a row, or as its start value
  pub last_write_with_rows : (s : ℕ) → s < signal_count t → signal_published t s ≡ true → (os : Seq Order)
      → ReadsAs t (held_by t bs os) s (last_value t s (read_of t bs os))
  last_write_with_rows s hs p os =
      rw (same_held t bs accepted os, same_record t bs accepted os) at (last_write t bs accepted s hs p (as_calls t bs os))

-- the claim decides every answer, whatever the core: two sequences of answered orders with the same orders, each of whose answers meets (f), are equal
pub orders_decided : (t : List ℕ) → RightTable t → (g h : Seq Ordered) → orders_of g ≡ orders_of h → Meets t g → Meets t h → g ≡ h
orders_decided t ok g h e m n =
    let bs : List ℕ = replicate (buffer_size t) 0 in
    let accepted = fresh_taken t bs (right_taken t ok) (length-replicate (buffer_size t) 0) in
    meets_core t bs accepted g m ∙ ap (ordered_of t bs) e ∙ sym (meets_core t bs accepted h n)
