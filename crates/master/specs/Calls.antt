-- Document 01, "Histories": "A history is the calls with their arguments and answers".
use Rattle.std.specs.Prelude.{ℕ, List, Result, ⊤}
use Rattle.refusal.specs.declared.Refusal.{Refusal}
use Rattle.cluster.specs.declared.values.Array.{Array}
use Rattle.master.specs.declared.tick.TickAnswer.{TickAnswer}
use Rattle.master.specs.declared.byte.ByteAnswer.{ByteAnswer}
use Rattle.master.specs.declared.send.MessageAnswer.{MessageAnswer}
use Rattle.master.specs.Put.{Put}

-- ---- what each call answers, or the refusal

abbrev pub FreshAnswer : Type 0
FreshAnswer = Result ⊤ Refusal

abbrev pub WriteAnswer : Type 0
WriteAnswer = Result ⊤ Refusal

abbrev pub ReadAnswer : Type 0
ReadAnswer = Result ℕ Refusal

abbrev pub ArrayAnswer : Type 0
ArrayAnswer = Result Array Refusal

abbrev pub SelectAnswer : Type 0
SelectAnswer = Result ⊤ Refusal

abbrev pub TickResult : Type 0
TickResult = Result TickAnswer Refusal

abbrev pub ByteResult : Type 0
ByteResult = Result ByteAnswer Refusal

abbrev pub StatusAnswer : Type 0
StatusAnswer = Result ℕ Refusal

abbrev pub SendAnswer : Type 0
SendAnswer = Result ⊤ Refusal

abbrev pub MessageResult : Type 0
MessageResult = Result MessageAnswer Refusal

abbrev pub AheadAnswer : Type 0
AheadAnswer = Result ℕ Refusal

-- ---- the calls

-- a call behind the fresh one, with what it is given beside the table, the state and the frame bytes; "Values, arrays and lent
-- messages may be anything"
pub data Call : Type 0 where
  -- a signal and a value, or its bytes
  write : Put → Call
  -- a signal
  read read_array : ℕ → Call
  -- a schedule
  select : ℕ → Call
  -- the lent message
  tick : List ℕ → Call
  -- a byte
  byte_in : ℕ → Call
  read_status : Call
  -- a NAD and a length
  send : ℕ → ℕ → Call
  message_state : Call
  -- a frame
  number_ahead : ℕ → Call

-- each call has its own answers
abbrev pub Answer : Call → Type 0
Answer (write w) = WriteAnswer
Answer (read s) = ReadAnswer
Answer (read_array s) = ArrayAnswer
Answer (select n) = SelectAnswer
Answer (tick m) = TickResult
Answer (byte_in b) = ByteResult
Answer read_status = StatusAnswer
Answer (send nad n) = SendAnswer
Answer message_state = MessageResult
Answer (number_ahead f) = AheadAnswer

infix 60 ◌⇒◌
-- a call and its answer
pub data Event : Type 0 where
  ◌⇒◌ : (c : Call) → Answer c → Event
