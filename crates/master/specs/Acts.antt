-- Document 01, "Histories": "Refused calls count for nothing." What counts of an event.
use Rattle.std.specs.Prelude.{ℕ, Bool, true, false, List}
use Rattle.master.specs.declared.tick.TickAnswer.TheVariants as tick
use Rattle.master.specs.declared.byte.ByteAnswer.TheVariants as byte
use Rattle.master.specs.Calls as call
use Rattle.master.specs.Calls.{Event, ◌⇒◌}
use Rattle.master.specs.Put.{Value}
use Rattle.std.specs.Prelude.{Ok, Err}
use Rattle.master.specs.Calls.{WriteAnswer}
use Rattle.master.specs.Calls.{SelectAnswer}
use Rattle.master.specs.Calls.{SendAnswer}
use Rattle.master.specs.Calls.{StatusAnswer}
use Rattle.master.specs.Calls.{TickResult}
use Rattle.master.specs.Calls.{ByteResult}

-- an accepted call that changes something, with what it was given, and what a tick or a byte was answered
pub data Act : Type 0 where
  -- none: the call was refused, or only asks
  nothing : Act
  wrote : ℕ → Value → Act
  selected : ℕ → Act
  ticked : List ℕ → TickResult → Act
  took : ℕ → ByteResult → Act
  status_read : Act
  sending : ℕ → ℕ → Act

-- what counts of each call that can change something, by its answer
abbrev pub write_act : ℕ → Value → WriteAnswer → Act
write_act s v (Ok tt) = wrote s v
write_act s v (Err r) = nothing

abbrev pub select_act : ℕ → SelectAnswer → Act
select_act n (Ok tt) = selected n
select_act n (Err r) = nothing

abbrev pub tick_act : List ℕ → TickResult → Act
tick_act m (Ok tick.Waiting) = ticked m (Ok tick.Waiting)
tick_act m (Ok tick.Idle) = ticked m (Ok tick.Idle)
tick_act m (Ok tick.Silent) = ticked m (Ok tick.Silent)
tick_act m (Ok (tick.Opened p)) = ticked m (Ok (tick.Opened p))
tick_act m (Err r) = nothing

abbrev pub byte_act : ℕ → ByteResult → Act
byte_act b (Ok byte.More) = took b (Ok byte.More)
byte_act b (Ok byte.Success) = took b (Ok byte.Success)
byte_act b (Ok byte.Failure) = took b (Ok byte.Failure)
byte_act b (Ok (byte.Response bs)) = took b (Ok (byte.Response bs))
byte_act b (Err r) = nothing

abbrev pub status_act : StatusAnswer → Act
status_act (Ok w) = status_read
status_act (Err r) = nothing

abbrev pub send_act : ℕ → ℕ → SendAnswer → Act
send_act nad n (Ok tt) = sending nad n
send_act nad n (Err r) = nothing

-- what counts of an event
abbrev pub act_of : Event → Act
act_of (call.write w ⇒ a) = write_act w.signal w.value a
act_of (call.read s ⇒ a) = nothing
act_of (call.read_array s ⇒ a) = nothing
act_of (call.select n ⇒ a) = select_act n a
act_of (call.tick m ⇒ a) = tick_act m a
act_of (call.byte_in b ⇒ r) = byte_act b r
act_of (call.read_status ⇒ a) = status_act a
act_of (call.send nad n ⇒ a) = send_act nad n a
act_of (call.message_state ⇒ a) = nothing
act_of (call.number_ahead f ⇒ a) = nothing

-- ---- one kind of act, and what is otherwise

abbrev pub on_write : {A : Type 0} → (ℕ → Value → A) → A → Act → A
on_write f other nothing = other
on_write f other (wrote s v) = f s v
on_write f other (selected n) = other
on_write f other (ticked m a) = other
on_write f other (took b a) = other
on_write f other status_read = other
on_write f other (sending nad n) = other

abbrev pub on_tick : {A : Type 0} → (List ℕ → TickResult → A) → A → Act → A
on_tick f other nothing = other
on_tick f other (wrote s v) = other
on_tick f other (selected n) = other
on_tick f other (ticked m a) = f m a
on_tick f other (took b a) = other
on_tick f other status_read = other
on_tick f other (sending nad n) = other

abbrev pub on_byte : {A : Type 0} → (ℕ → ByteResult → A) → A → Act → A
on_byte f other nothing = other
on_byte f other (wrote s v) = other
on_byte f other (selected n) = other
on_byte f other (ticked m a) = other
on_byte f other (took b a) = f b a
on_byte f other status_read = other
on_byte f other (sending nad n) = other

abbrev pub on_send : {A : Type 0} → (ℕ → ℕ → A) → A → Act → A
on_send f other nothing = other
on_send f other (wrote s v) = other
on_send f other (selected n) = other
on_send f other (ticked m a) = other
on_send f other (took b a) = other
on_send f other status_read = other
on_send f other (sending nad n) = f nad n

-- an accepted status reading
abbrev pub is_status_read : Act → Bool
is_status_read nothing = false
is_status_read (wrote s v) = false
is_status_read (selected n) = false
is_status_read (ticked m a) = false
is_status_read (took b a) = false
is_status_read status_read = true
is_status_read (sending nad n) = false
