-- Document 01, demand 3, and document 02, Req 01: one accepted fresh call, then any sequence of orders; each gets the table and the state and frame
-- bytes that the one before left. A call's answer and what it leaves are those of its contract (`answer_of`, `left_by` of master's specs/Run.antt), and so
-- are a row's.
use Rattle.std.specs.Prelude.{ℕ, List}
use Rattle.master.specs.WriteRow.{row_of}
use Rattle.master.specs.Seq.{Seq, ∅, ◌▹◌}
use Rattle.master.specs.Run.{Held, held, answer_of, left_by, held_after}
use Rattle.orders.specs.Orders.{Order, one, row, OrderAnswer, Ordered, ◌⇛◌}

-- what an order answers
unfoldable pub order_answer : List ℕ → Held → (o : Order) → OrderAnswer o
order_answer t x (one c) = answer_of t x c
order_answer t x (row ss vs) = (row_of t x.state x.bytes ss vs).given.answer

-- what an order leaves
unfoldable pub order_left : List ℕ → Held → Order → Held
order_left t x (one c) = left_by t x c
order_left t x (row ss vs) = held (row_of t x.state x.bytes ss vs).given.state (row_of t x.state x.bytes ss vs).left

-- what a sequence of orders leaves, after the fresh call on some frame bytes
unfoldable pub held_by : List ℕ → List ℕ → Seq Order → Held
held_by t bs ∅ = held_after t bs ∅
held_by t bs (os ▹ o) = order_left t (held_by t bs os) o

-- the orders of a sequence, each with its answer
unfoldable pub ordered_of : List ℕ → List ℕ → Seq Order → Seq Ordered
ordered_of t bs ∅ = ∅
ordered_of t bs (os ▹ o) = ordered_of t bs os ▹ (o ⇛ order_answer t (held_by t bs os) o)
