-- What is handed back beside the answers of the calls, and the answers in the paper's terms: of each case the refusal number, 0 where it refuses nothing, the place and the values.
use Rattle.std.specs.Prelude.{Bool, true, false, [], ◌∷◌, Ok, Err}
use Rattle.refusal.specs.Answers.{Told, gives, refuses}
use Rattle.master.specs.Calls.{FreshAnswer, WriteAnswer, ReadAnswer, ArrayAnswer, SelectAnswer, TickResult, ByteResult, StatusAnswer, SendAnswer, MessageResult, AheadAnswer}
use Rattle.master.specs.declared.state.State.{State}
use Rattle.master.specs.declared.tick.TickAnswer.TheVariants as tick
use Rattle.master.specs.declared.byte.ByteAnswer.TheVariants as byte
use Rattle.master.specs.declared.send.MessageAnswer.TheVariants as message

-- ---- the state that a call leaves beside its answer

pub record Handed (A : Type 0) : Type 0 where
  pub state : State
  pub answer : A

abbrev pub handed : {A : Type 0} → State → A → Handed A
handed s a = record { state = s; answer = a }

abbrev pub Started : Type 0
Started = Handed FreshAnswer

abbrev pub Wrote : Type 0
Wrote = Handed WriteAnswer

abbrev pub Chosen : Type 0
Chosen = Handed SelectAnswer

abbrev pub Ticked : Type 0
Ticked = Handed TickResult

abbrev pub Took : Type 0
Took = Handed ByteResult

abbrev pub StatusRead : Type 0
StatusRead = Handed StatusAnswer

abbrev pub Sent : Type 0
Sent = Handed SendAnswer

-- ---- in the paper's terms

-- of fresh
abbrev pub fresh_told : FreshAnswer → Told
fresh_told (Ok tt) = gives []
fresh_told (Err r) = refuses r

-- of a write
abbrev pub write_told : WriteAnswer → Told
write_told (Ok tt) = gives []
write_told (Err r) = refuses r

-- of a read of a scalar: its value
abbrev pub read_told : ReadAnswer → Told
read_told (Ok v) = gives (v ∷ [])
read_told (Err r) = refuses r

-- of a read of an array: how many bytes it has, which stand beside the number
abbrev pub array_told : ArrayAnswer → Told
array_told (Ok a) = gives (a.count ∷ [])
array_told (Err r) = refuses r

-- of select
abbrev pub select_told : SelectAnswer → Told
select_told (Ok tt) = gives []
select_told (Err r) = refuses r

-- of tick: the protected identifier of what is opened
abbrev pub tick_told : TickResult → Told
tick_told (Ok tick.Waiting) = gives []
tick_told (Ok tick.Idle) = gives []
tick_told (Ok tick.Silent) = gives []
tick_told (Ok (tick.Opened p)) = gives (p ∷ [])
tick_told (Err r) = refuses r

-- of byte in; the eight bytes of a response are no value of the paper's
abbrev pub byte_told : ByteResult → Told
byte_told (Ok byte.More) = gives []
byte_told (Ok byte.Success) = gives []
byte_told (Ok byte.Failure) = gives []
byte_told (Ok (byte.Response bs)) = gives []
byte_told (Err r) = refuses r

-- of a status reading: the word
abbrev pub status_told : StatusAnswer → Told
status_told (Ok w) = gives (w ∷ [])
status_told (Err r) = refuses r

-- of send
abbrev pub send_told : SendAnswer → Told
send_told (Ok tt) = gives []
send_told (Err r) = refuses r

-- of the message state
abbrev pub message_told : MessageResult → Told
message_told (Ok message.None) = gives []
message_told (Ok message.Sending) = gives []
message_told (Ok message.Completed) = gives []
message_told (Ok message.Failed) = gives []
message_told (Err r) = refuses r

-- of number ahead: the number
abbrev pub ahead_told : AheadAnswer → Told
ahead_told (Ok n) = gives (n ∷ [])
ahead_told (Err r) = refuses r

-- byte in answered success: "success", or the bytes of a response
abbrev pub successful : ByteResult → Bool
successful (Ok byte.More) = false
successful (Ok byte.Success) = true
successful (Ok byte.Failure) = false
successful (Ok (byte.Response bs)) = true
successful (Err r) = false
