-- Document 02, Req 01: "Demand 3 reads such a call, if accepted, as its single writes." An order is one call of demand 3 or a row of values.
use Rattle.std.specs.Prelude.{ℕ, List, [], ◌∷◌}
use Rattle.master.specs.Put.{Put, puts}
use Rattle.master.specs.Seq.{Seq, ∅, ◌▹◌}
use Rattle.master.specs.Calls.{Call, write, Answer, Event, ◌⇒◌}
use Rattle.std.specs.Prelude.{Ok, Err}
use Rattle.master.specs.Calls.{WriteAnswer}

pub data Order : Type 0 where
  -- one call
  one : Call → Order
  -- a row of values: the signals, and the values
  row : List ℕ → List ℕ → Order

-- each order has its own answers
abbrev pub OrderAnswer : Order → Type 0
OrderAnswer (one c) = Answer c
OrderAnswer (row ss vs) = WriteAnswer

infix 60 ◌⇛◌
-- an order and its answer
pub data Ordered : Type 0 where
  ◌⇛◌ : (o : Order) → OrderAnswer o → Ordered

-- ---- the history of some orders: that of the single calls

-- some events, and behind them each of some writes, accepted
unfoldable pub with_writes : Seq Event → List Put → Seq Event
with_writes h [] = h
with_writes h (w ∷ ws) = with_writes (h ▹ (write w ⇒ Ok tt)) ws

-- "if accepted, as its single writes"; a refused one counts for nothing
abbrev pub read_row : WriteAnswer → Seq Event → List Put → Seq Event
read_row (Ok tt) h ws = with_writes h ws
read_row (Err r) h ws = h

-- one more order, read behind some events
unfoldable pub read_order : Seq Event → Ordered → Seq Event
read_order h (one c ⇛ a) = h ▹ (c ⇒ a)
read_order h (row ss vs ⇛ a) = read_row a h (puts ss vs)

-- all orders
unfoldable pub read_orders : Seq Ordered → Seq Event
read_orders ∅ = ∅
read_orders (os ▹ o) = read_order (read_orders os) o
