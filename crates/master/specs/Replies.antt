-- What each call answers, by the table and the history before it alone. Document 01, demand 3 and "Histories". Nothing here is taken from the
-- definitions of the calls.
use Rattle.std.specs.Prelude.{ℕ, suc, ◌≡◌, Bool, true, false, cond, not, ◌&&◌, ltb, leb, eqb, length, get_or}
use Rattle.std.specs.Bool.{beq}
use mathlib.Core.List.{List, [], ◌∷◌, ◌++◌, Memᴰ}
use Rattle.refusal.specs.Numbers.{refused}
use Rattle.wire.specs.Identifier.{protected_byte}
use Rattle.wire.specs.Checksum.{checksum_byte}
use Rattle.wire.specs.declared.checksum.Model.TheVariants.{Classic}
use Rattle.cluster.specs.Table.{signal_count, schedule_count, identifier, frame_length, published, is_array, entry_kind, entry_target}
use Rattle.cluster.specs.Lists.{members}
use Rattle.cluster.specs.Values.{signal_published, value_fits, array_fits}
use Rattle.cluster.specs.declared.values.Array.{Array}
use Rattle.master.specs.declared.state.Opened.{Opened}
use Rattle.master.specs.declared.state.Opened.TheVariants.{Nothing, Frame, Request, Response}
use Rattle.master.specs.declared.state.Message.{Message}
use Rattle.master.specs.declared.state.Message.TheVariants as message
use Rattle.master.specs.Calls.{ArrayAnswer}
use Rattle.master.specs.declared.tick.TickAnswer.TheVariants as tick
use Rattle.master.specs.declared.byte.ByteAnswer.TheVariants as byte
use Rattle.master.specs.declared.send.MessageAnswer.TheVariants as tells
use Rattle.master.specs.Seq.{Seq}
use Rattle.master.specs.Calls as call
use Rattle.master.specs.Calls.{Call, Answer}
use Rattle.master.specs.Schedule.{Slot, none, unscheduled, entry, Scheduled, slot_due, plan_after}
use Rattle.master.specs.History.{Pending, open_after, checksum_over, got_after}
use Rattle.master.specs.Answering.{message_closed, message_after, due_after, bytes_after, counted_after, word_over, read_from, scalar_read, array_given}
use Rattle.master.specs.Put.{Value, scalar, array}
use Rattle.std.specs.Prelude.{Ok, Err}
use Rattle.master.specs.Calls.{WriteAnswer}
use Rattle.master.specs.Calls.{SelectAnswer}
use Rattle.master.specs.Calls.{SendAnswer}
use Rattle.master.specs.Calls.{ReadAnswer}
use Rattle.master.specs.Calls.{AheadAnswer}
use Rattle.master.specs.Calls.{TickResult}
use Rattle.master.specs.Calls.{ByteResult}
use Rattle.master.specs.Calls.{MessageResult}

-- ---- which refusal a call gets: the number of the first test that fails, and 0 where all hold

-- a number where the test fails, and else what the later tests give
abbrev pub test : Bool → ℕ → ℕ → ℕ
test holds number later = cond holds later number

-- "no such signal"; "write to a signal the master doesn't publish"; "scalar call on an array or the reverse"; "value of 2^width or more; array of
-- another length"
unfoldable pub write_number : List ℕ → ℕ → Bool → Bool → ℕ
write_number t s as_array fits =
    test (ltb s (signal_count t)) 4
    (test (signal_published t s) 5
    (test (beq (is_array t s) as_array) 6
    (test fits 7
    0)))

-- of a scalar, and of an array
abbrev pub put_number : List ℕ → ℕ → Value → ℕ
put_number t s (scalar v) = write_number t s false (value_fits t s v)
put_number t s (array vs) = write_number t s true (array_fits t s vs)

-- "no such signal"; "scalar call on an array or the reverse"
unfoldable pub read_number : List ℕ → ℕ → Bool → ℕ
read_number t s as_array =
    test (ltb s (signal_count t)) 4
    (test (beq (is_array t s) as_array) 6
    0)

-- "no such .. schedule"
unfoldable pub select_number : List ℕ → ℕ → ℕ
select_number t n = test (ltb n (schedule_count t)) 4 0

-- a message is being sent
abbrev pub is_being_sent : Message → Bool
is_being_sent message.None = false
is_being_sent (message.Sending x) = true
is_being_sent message.Completed = false
is_being_sent message.Failed = false

-- "message length 0 or above 4,095"; "send while a message is being sent"
unfoldable pub send_number : Message → ℕ → ℕ
send_number x n =
    test (leb 1 n && leb n 4095) 9
    (test (not (is_being_sent x)) 10
    0)

-- ---- writes, reads, select, send and the message state

-- by the number
unfoldable pub write_reply : ℕ → WriteAnswer
write_reply n = cond (eqb n 0) (Ok tt) (Err (refused n))

-- the value of a scalar
unfoldable pub read_reply : ℕ → ℕ → ReadAnswer
read_reply n v = cond (eqb n 0) (Ok v) (Err (refused n))

-- the bytes of an array
unfoldable pub read_array_reply : ℕ → Array → ArrayAnswer
read_array_reply n a =
    cond (eqb n 0)
    (Ok a)
    (Err (refused n))

unfoldable pub select_reply : ℕ → SelectAnswer
select_reply n = cond (eqb n 0) (Ok tt) (Err (refused n))

unfoldable pub send_reply : ℕ → SendAnswer
send_reply n = cond (eqb n 0) (Ok tt) (Err (refused n))

-- "tells none, sending, completed or failed"
abbrev pub message_reply : Message → MessageResult
message_reply message.None = Ok tells.None
message_reply (message.Sending x) = Ok tells.Sending
message_reply message.Completed = Ok tells.Completed
message_reply message.Failed = Ok tells.Failed

-- ---- byte in

-- "Sent frames: the byte must equal the copied one; the first difference closes the transfer as failed, the last equal byte as successful.": n data
-- bytes, the bytes due, those that came before, and the byte
unfoldable pub sent_reply : ℕ → List ℕ → List ℕ → ℕ → ByteResult
sent_reply n due got b =
    cond (eqb (get_or due (length got) 0) b)
    (cond (ltb (length got) n) (Ok byte.More) (Ok byte.Success))
    (Ok byte.Failure)

-- "Received frames: after length + 1 bytes a right checksum .. succeeds; a wrong one .. fails.": n data bytes, their checksum, the bytes that came
-- before, the byte, and what success answers
unfoldable pub received_reply : ℕ → ℕ → List ℕ → ℕ → ByteResult → ByteResult
received_reply n sum got b well =
    cond (ltb (length got) n) (Ok byte.More)
    (cond (eqb b sum) well (Ok byte.Failure))

-- what is open, the bytes that the master sends in it, those that came before, and the byte: 8 "byte in with no transfer open"; a request and a
-- response have "length 8" and a classic checksum; "A successful response frame .. answers its eight bytes."
unfoldable pub byte_reply : List ℕ → Opened → List ℕ → List ℕ → ℕ → ByteResult
byte_reply t Nothing due got b = Err (refused 8)
byte_reply t (Frame f) due got b =
    cond (published t f)
    (sent_reply (frame_length t f) due got b)
    (received_reply (frame_length t f) (checksum_over t f got) got b (Ok byte.Success))
byte_reply t Request due got b = sent_reply 8 due got b
byte_reply t Response due got b = received_reply 8 (checksum_byte 61 Classic got) got b (Ok (byte.Response got))

-- ---- tick

-- "Kind 1 opens the first pending member, or is silent": the answer of a slot over the frames fs, of which those with P are pending
pub data Takes (t : List ℕ) (P : ℕ → Type 0) (fs : List ℕ) : TickResult → Type 0 where
  takes : (ahead behind : List ℕ) (f : ℕ) → fs ≡ ahead ++ (f ∷ behind) → ((g : ℕ) → Memᴰ g ahead → ¬ P g) → P f
      → Takes t P fs (Ok (tick.Opened (protected_byte (identifier t f))))
  leaves : ((g : ℕ) → Memᴰ g fs → ¬ P g) → Takes t P fs (Ok tick.Silent)

-- the answer of a slot with entry e after h
pub record EntryReply (t : List ℕ) (h : Seq Scheduled) (e : ℕ) (a : TickResult) : Type 0 where
  -- "Kind 0 opens its frame."
  pub frame : entry_kind t e ≡ 0 → a ≡ Ok (tick.Opened (protected_byte (identifier t (entry_target t e))))
  -- "Kind 1 opens the first pending member, or is silent."
  pub list : entry_kind t e ≡ 1 → Takes t (Pending t h) (members t (entry_target t e)) a
  -- "Kind 2 opens identifier 60 if a message is being sent, or is silent."; the slot start has closed an open request as failed
  pub request :
      entry_kind t e ≡ 2 →
      a ≡ cond (is_being_sent (message_closed (open_after t h) false (message_after t h))) (Ok (tick.Opened (protected_byte 60))) (Ok tick.Silent)
  -- "Kind 3 always opens identifier 61"
  pub response : entry_kind t e ≡ 3 → a ≡ Ok (tick.Opened (protected_byte 61))

-- the answer of an accepted tick by the slot that it starts
abbrev pub SlotReply : List ℕ → Seq Scheduled → Slot → TickResult → Type 0
SlotReply t h none a = a ≡ Ok tick.Waiting
SlotReply t h unscheduled a = a ≡ Ok tick.Idle
SlotReply t h (entry e) a = EntryReply t h e a

-- the lent message has the length of the one being sent
abbrev pub lent_right : Message → ℕ → Bool
lent_right message.None n = true
lent_right (message.Sending x) n = eqb n x.length
lent_right message.Completed n = true
lent_right message.Failed n = true

-- 3 "on tick, a lent message of another length than the one being sent", and nothing else refuses
pub record TickReply (t : List ℕ) (h : Seq Scheduled) (m : List ℕ) (a : TickResult) : Type 0 where
  pub refuses : lent_right (message_after t h) (length m) ≡ false → a ≡ Err (refused 3)
  pub goes_on : lent_right (message_after t h) (length m) ≡ true → SlotReply t h (slot_due t (plan_after t h)) a

-- ---- number ahead

-- exactly n of the frames fs have P
pub data Count (P : ℕ → Type 0) : List ℕ → ℕ → Type 0 where
  none_left : Count P [] 0
  one_more : {f n : ℕ} {fs : List ℕ} → P f → Count P fs n → Count P (f ∷ fs) (suc n)
  not_this : {f n : ℕ} {fs : List ℕ} → ¬ P f → Count P fs n → Count P (f ∷ fs) n

pub record AheadReply (t : List ℕ) (h : Seq Scheduled) (f : ℕ) (a : AheadAnswer) : Type 0 where
  -- "the number of pending members ahead of a given frame number in its list"
  pub listed : (l : ℕ) (ahead behind : List ℕ) → members t l ≡ ahead ++ (f ∷ behind) → (n : ℕ) × (a ≡ Ok n) × Count (Pending t h) ahead n
  -- "a frame in no list is refused with 4"
  pub unlisted : ((l : ℕ) → ¬ Memᴰ f (members t l)) → a ≡ Err (refused 4)

-- ---- every call

-- a is what c answers after h
abbrev pub Replies : List ℕ → Seq Scheduled → (c : Call) → Answer c → Type 0
Replies t h (call.write w) a = a ≡ write_reply (put_number t w.signal w.value)
Replies t h (call.read s) a = a ≡ read_reply (read_number t s false) (scalar_read t (bytes_after t h) s (read_from t h s))
Replies t h (call.read_array s) a = a ≡ read_array_reply (read_number t s true) (array_given t (bytes_after t h) s (read_from t h s))
Replies t h (call.select n) a = a ≡ select_reply (select_number t n)
Replies t h (call.tick m) a = TickReply t h m a
Replies t h (call.byte_in b) a = a ≡ byte_reply t (open_after t h) (due_after t h) (got_after h) b
Replies t h call.read_status a = a ≡ Ok (word_over (counted_after t h))
Replies t h (call.send nad n) a = a ≡ send_reply (send_number (message_after t h) n)
Replies t h call.message_state a = a ≡ message_reply (message_after t h)
Replies t h (call.number_ahead f) a = AheadReply t h f a
