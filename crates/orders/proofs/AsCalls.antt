-- A sequence of orders is one of calls: each accepted row as its single writes, each refused one as none. State, bytes and history are the same.
use Prim.Native.Nat.{ℕ}
use mathlib.Core.Path.{◌≡◌, refl, sym, ◌∙◌, ap}
use mathlib.Core.List.{List, [], ◌∷◌}
use Rattle.master.specs.Put.{Put, puts}
use Rattle.master.specs.Seq.{Seq, ∅, ◌▹◌}
use Rattle.master.specs.Calls.{Call, write}
use Rattle.master.specs.Run.{Held, left_by, held_after, history_of}
use Rattle.master.specs.RowInWords.{row_answer, row_left, after_writes, AllWritten}
use Rattle.master.proofs.RowExactly.{row_written_exactly, row_is_writes, row_refused_unchanged}
use Rattle.orders.specs.Orders.{Order, one, row, with_writes, read_row, read_order, read_orders}
use Rattle.orders.specs.Run.{order_answer, order_left, held_by, ordered_of}
use Rattle.std.specs.Prelude.{Ok, Err}
use Rattle.master.specs.Calls.{WriteAnswer}

-- some calls, and behind them some writes
abbrev pub with_calls : Seq Call → List Put → Seq Call
with_calls cs [] = cs
with_calls cs (w ∷ ws) = with_calls (cs ▹ write w) ws

abbrev pub row_calls : WriteAnswer → Seq Call → List Put → Seq Call
row_calls (Ok tt) cs ws = with_calls cs ws
row_calls (Err r) cs ws = cs

module _ (t bs : List ℕ) where
  -- the calls as which some orders are read
  unfoldable pub as_calls : Seq Order → Seq Call
  as_calls ∅ = ∅
  as_calls (os ▹ one c) = as_calls os ▹ c
  as_calls (os ▹ row ss vs) = row_calls (order_answer t (held_by t bs os) (row ss vs)) (as_calls os) (puts ss vs)

  -- writes that are accepted leave what they leave one by one, and their events are those of an accepted row
  writes_run : (cs : Seq Call) (ws : List Put) → AllWritten t (held_after t bs cs) ws
      → (held_after t bs (with_calls cs ws) ≡ after_writes t (held_after t bs cs) ws)
      × (history_of t bs (with_calls cs ws) ≡ with_writes (history_of t bs cs) ws)
  unfolding held_after history_of after_writes with_writes
  writes_run cs [] u = (refl, refl)
  writes_run cs (w ∷ ws) u = let r = writes_run (cs ▹ write w) ws u.1 in (r.0, r.1 ∙ rw u.0)

  row_run : (cs : Seq Call) (x : Held) → held_after t bs cs ≡ x → (ss vs : List ℕ) (a : WriteAnswer) → row_answer t x ss vs ≡ a
      → (held_after t bs (row_calls a cs (puts ss vs)) ≡ row_left t x ss vs)
      × (history_of t bs (row_calls a cs (puts ss vs)) ≡ read_row a (history_of t bs cs) (puts ss vs))
  row_run cs x e ss vs (Ok tt) k =
      let r = writes_run cs (puts ss vs) (rw (← e) at ((row_written_exactly t x ss vs).0 k).2) in
      (r.0 ∙ ap (λ y. after_writes t y (puts ss vs)) e ∙ sym (row_is_writes t x ss vs k), r.1)
  row_run cs x e ss vs (Err r) k = (e ∙ sym (row_refused_unchanged t x ss vs r k), refl)

  -- the state and the bytes after the orders, and the history, are those of the calls
  pub read_as_calls : (os : Seq Order)
      → (held_after t bs (as_calls os) ≡ held_by t bs os) × (history_of t bs (as_calls os) ≡ read_orders (ordered_of t bs os))
  unfolding as_calls held_by ordered_of read_orders read_order order_answer order_left held_after history_of row_answer row_left
  read_as_calls ∅ = (refl, refl)
  read_as_calls (os ▹ one c) = let r = read_as_calls os in (ap (λ x. left_by t x c) r.0, rw (r.0, r.1))
  read_as_calls (os ▹ row ss vs) =
      let r = read_as_calls os in
      let q = row_run (as_calls os) (held_by t bs os) r.0 ss vs (order_answer t (held_by t bs os) (row ss vs)) refl in
      (q.0, q.1 ∙ ap (λ h. read_row (order_answer t (held_by t bs os) (row ss vs)) h (puts ss vs)) r.1)
