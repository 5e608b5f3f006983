-- Document 01, demand 3: "one accepted fresh call, then any sequence of" calls; "Each gets that table and the state and frame bytes the one
-- before left; nothing else changes them." Every answer, state and byte is that of the definition which the call's contract cites.
use Rattle.std.specs.Prelude.{List, ℕ}
use Rattle.master.specs.declared.state.State.{State}
use Rattle.master.specs.Start.{fresh_of}
use Rattle.master.specs.Write.{write_of}
use Rattle.master.specs.Read.{read_scalar_of, read_array_of}
use Rattle.master.specs.Select.{select_of}
use Rattle.master.specs.Tick.{tick_of}
use Rattle.master.specs.Byte.{byte_of}
use Rattle.master.specs.Status.{status_of}
use Rattle.master.specs.Message.{send_of, message_of}
use Rattle.master.specs.Ahead.{ahead_of}
use Rattle.master.specs.Seq.{Seq, ∅, ◌▹◌}
use Rattle.master.specs.Calls.{Call, write, read, read_array, select, tick, byte_in, read_status, send, message_state, number_ahead, Answer, Event, ◌⇒◌}

-- what one call leaves to the next
pub record Held : Type 0 where
  pub state : State
  pub bytes : List ℕ

-- what a call answers
unfoldable pub answer_of : List ℕ → Held → (c : Call) → Answer c
answer_of t x (write w) = (write_of t x.state x.bytes w).given.answer
answer_of t x (read s) = read_scalar_of t x.state x.bytes s
answer_of t x (read_array s) = read_array_of t x.state x.bytes s
answer_of t x (select n) = (select_of t x.state n).answer
answer_of t x (tick m) = (tick_of t x.bytes m x.state).answer
answer_of t x (byte_in b) = (byte_of t x.state x.bytes b).given.answer
answer_of t x read_status = (status_of t x.state).answer
answer_of t x (send nad n) = (send_of t x.state nad n).answer
answer_of t x message_state = message_of t x.state
answer_of t x (number_ahead f) = ahead_of t x.state f

-- a state, and frame bytes
abbrev pub held : State → List ℕ → Held
held s bs = record { state = s; bytes = bs }

-- what a call leaves; a call that only asks hands no state back and is lent its bytes to read
unfoldable pub left_by : List ℕ → Held → Call → Held
left_by t x (write w) = held (write_of t x.state x.bytes w).given.state (write_of t x.state x.bytes w).left
left_by t x (read s) = x
left_by t x (read_array s) = x
left_by t x (select n) = held (select_of t x.state n).state x.bytes
left_by t x (tick m) = held (tick_of t x.bytes m x.state).state x.bytes
left_by t x (byte_in b) = held (byte_of t x.state x.bytes b).given.state (byte_of t x.state x.bytes b).left
left_by t x read_status = held (status_of t x.state).state x.bytes
left_by t x (send nad n) = held (send_of t x.state nad n).state x.bytes
left_by t x message_state = x
left_by t x (number_ahead f) = x

-- what a sequence of calls leaves, after the fresh call on some frame bytes
unfoldable pub held_after : List ℕ → List ℕ → Seq Call → Held
held_after t bs ∅ = held (fresh_of t bs).given.state (fresh_of t bs).left
held_after t bs (cs ▹ c) = left_by t (held_after t bs cs) c

-- the history of a sequence of calls: each with its answer
unfoldable pub history_of : List ℕ → List ℕ → Seq Call → Seq Event
history_of t bs ∅ = ∅
history_of t bs (cs ▹ c) = history_of t bs cs ▹ (c ⇒ answer_of t (held_after t bs cs) c)
