-- Demand 3 over orders: the parts of the claim about calls (master, specs/Claim.antt), with accepted rows read as their single writes.
use Rattle.std.specs.Prelude.{ℕ, ◌≡◌, List}
use Rattle.master.specs.Seq.{Seq, ∅, ◌▹◌, ◌⋈◌, Each}
use Rattle.master.specs.Acts.{nothing, act_of}
use Rattle.master.specs.Schedule.{Scheduled, scheduled}
use Rattle.master.specs.Claim.{HeldClaim, HistoryClaim}
use Rattle.orders.specs.Orders.{Order, Ordered, ◌⇛◌, read_order, read_orders}
use Rattle.orders.specs.Run.{order_answer, held_by, ordered_of}
use Rattle.orders.specs.Replies.{OrderReplies}

-- the history of some orders after a fresh call, each event with its slots
abbrev pub read_of : List ℕ → List ℕ → Seq Order → Seq Scheduled
read_of t bs os = scheduled t (read_orders (ordered_of t bs os))

pub record OrderClaim (t bs : List ℕ) (os : Seq Order) : Type 0 where
  -- (a) after every order
  pub after_each : (before after : Seq Order) → os ≡ before ⋈ after → HeldClaim t (read_of t bs before) (held_by t bs before)
  -- (b) to (e) hold of the history
  pub history : HistoryClaim t (read_of t bs os)
  -- (f) every answer is the one that the table and the history before it give
  pub answers :
      (before after : Seq Order) (o : Order) →
      os ≡ before ▹ o ⋈ after →
      OrderReplies t (read_of t bs before) o (order_answer t (held_by t bs before) o)
  -- (f) and what counts for nothing changes nothing: an order of which no event counts
  pub unchanged :
      (before after : Seq Order) (o : Order) →
      os ≡ before ▹ o ⋈ after →
      Each (λ e. act_of e ≡ nothing) (read_order ∅ (o ⇛ order_answer t (held_by t bs before) o)) →
      held_by t bs (before ▹ o) ≡ held_by t bs before

-- ---- whatever the core

-- the orders of some answered ones
abbrev pub orders_of : Seq Ordered → Seq Order
orders_of ∅ = ∅
orders_of (h ▹ (o ⇛ a)) = orders_of h ▹ o

-- orders of any core: what (f) says of each answer, after the events before it
abbrev pub Meets : List ℕ → Seq Ordered → Type 0
Meets t ∅ = Unit {0}
Meets t (h ▹ (o ⇛ a)) = Meets t h × OrderReplies t (scheduled t (read_orders h)) o a
