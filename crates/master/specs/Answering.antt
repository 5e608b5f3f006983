-- What a history says beside specs/History.antt, as functions of the table and the events alone: the diagnostic message, the bytes that the master
-- sends in the open transfer, all frame bytes, the placements received last, and the status word. Demand 3 speaks of them through the answers of the
-- calls (specs/Replies.antt).
use Rattle.std.specs.Prelude.{ℕ, ◌+◌, ◌*◌, Bool, true, false, cond, not, ◌&&◌, ◌||◌, List, [], ◌∷◌, ◌++◌, ltb, length}
use Rattle.wire.specs.Bits.{digit}
use Rattle.wire.specs.Identifier.{protected_byte}
use Rattle.wire.specs.Checksum.{checksum_byte}
use Rattle.wire.specs.declared.checksum.Model.TheVariants.{Classic}
use Rattle.cluster.specs.Table.{identifier, published, signal_start}
use Rattle.cluster.specs.Values.{touches, first_placement, placement_in, signal_published, scalar_at, array_read, start_read}
use Rattle.cluster.specs.declared.values.Array.{Array}
use Rattle.cluster.specs.Fresh.{fresh_bytes}
use Rattle.transport.specs.Cutting.{message_frames, message_frame}
use Rattle.transport.specs.Reassembly as lent
use Rattle.master.specs.declared.state.Opened.{Opened}
use Rattle.master.specs.declared.state.Opened.TheVariants.{Nothing, Frame, Request, Response}
use Rattle.master.specs.declared.state.Message.{Message}
use Rattle.master.specs.declared.state.Message.TheVariants as message
use Rattle.master.specs.Seq.{Seq, ∅, ◌▹◌}
use Rattle.master.specs.Acts.{on_write, on_tick, on_send, is_status_read}
use Rattle.master.specs.Schedule.{Scheduled, act}
use Rattle.master.specs.History.{opens, closes, succeeds, open_after, is_transfer, written_bytes, response_of, got_by, got_after}
use Rattle.master.specs.Put.{with_value}
use Rattle.std.specs.Prelude.{Some, None, Option}

-- ---- the message

-- "A successful request transfer moves to the next frame or completes"
unfoldable pub sent_on : Message → Message
sent_on message.None = message.None
sent_on (message.Sending x) =
    cond (ltb (x.next + 1) (message_frames x.length))
    (message.Sending (record { nad = x.nad; length = x.length; next = x.next + 1 }))
    message.Completed
sent_on message.Completed = message.Completed
sent_on message.Failed = message.Failed

-- "a failed one ends the message as failed", also one that a slot start closes; no other transfer touches the message
unfoldable pub message_closed : Opened → Bool → Message → Message
message_closed Nothing success x = x
message_closed (Frame f) success x = x
message_closed Request success x = cond success (sent_on x) message.Failed
message_closed Response success x = x

-- the message after a history; "Send takes any NAD and the length"
unfoldable pub message_after : List ℕ → Seq Scheduled → Message
message_after t ∅ = message.None
message_after t (h ▹ x) =
    cond (closes x)
    (message_closed (open_after t h) (succeeds x) (message_after t h))
    (on_send (λ nad n. message.Sending (record { nad = nad; length = n; next = 0 })) (message_after t h) (act x))

-- ---- the bytes that the master sends

-- the request: "a frame is cut from the bytes lent when it opens", and its checksum
unfoldable pub request_of : Message → List ℕ → List ℕ
request_of message.None m = []
request_of (message.Sending x) m = message_frame x.nad m x.next ++ (checksum_byte 60 Classic (message_frame x.nad m x.next) ∷ [])
request_of message.Completed m = []
request_of message.Failed m = []

-- what is sent in a transfer, from the frame bytes, the message and what the tick is lent
unfoldable pub due_of : List ℕ → List ℕ → Message → List ℕ → Opened → List ℕ
due_of t bs x m Nothing = []
due_of t bs x m (Frame f) = response_of t bs f
due_of t bs x m Request = request_of x m
due_of t bs x m Response = []

-- what is sent in the open transfer: it was fixed at its opening tick
unfoldable pub due_after : List ℕ → Seq Scheduled → List ℕ
due_after t ∅ = []
due_after t (h ▹ x) =
    cond (closes x)
    (on_tick (λ m a. due_of t (written_bytes t h) (message_after t (h ▹ x)) m (opens t x)) [] (act x))
    (due_after t h)

-- ---- all frame bytes

-- "a right checksum stores the data": those of a frame that the master does not publish
unfoldable pub stored_by : List ℕ → Opened → List ℕ → List ℕ → List ℕ
stored_by t Nothing ds bs = bs
stored_by t (Frame f) ds bs = cond (published t f) bs (lent.written bs (8 * f) ds)
stored_by t Request ds bs = bs
stored_by t Response ds bs = bs

-- as fresh, the accepted writes and the frames received with success left them
unfoldable pub bytes_after : List ℕ → Seq Scheduled → List ℕ
bytes_after t ∅ = fresh_bytes t
bytes_after t (h ▹ x) =
    cond (succeeds x)
    (stored_by t (open_after t h) (got_after h) (bytes_after t h))
    (on_write (λ s v. with_value t (bytes_after t h) s v) (bytes_after t h) (act x))

-- ---- the receptions

-- what is known of a signal after a success of a transfer: the placement in a received frame that has it
unfoldable pub received_in : List ℕ → Opened → ℕ → Option ℕ → Option ℕ
received_in t Nothing s x = x
received_in t (Frame f) s x = cond (not (published t f) && touches t s f) (Some (placement_in t s f)) x
received_in t Request s x = x
received_in t Response s x = x

-- "the placement received last", after a history
unfoldable pub received_after : List ℕ → Seq Scheduled → ℕ → Option ℕ
received_after t ∅ s = None
received_after t (h ▹ x) s = cond (succeeds x) (received_in t (open_after t h) s (received_after t h s)) (received_after t h s)

-- what a read gives after a history: "the placement received last; before any reception, the start value; of a published one, its first placement"
unfoldable pub read_from : List ℕ → Seq Scheduled → ℕ → Option ℕ
read_from t h s = cond (signal_published t s) (Some (first_placement t s)) (received_after t h s)

-- the value of a scalar there
unfoldable pub scalar_read : List ℕ → List ℕ → ℕ → Option ℕ → ℕ
scalar_read t bs s None = signal_start t s
scalar_read t bs s (Some k) = scalar_at t bs s k

-- the bytes of an array, as they are handed out
unfoldable pub array_given : List ℕ → List ℕ → ℕ → Option ℕ → Array
array_given t bs s None = start_read t s
array_given t bs s (Some k) = array_read t bs s k

-- ---- status

-- a closed transfer: its protected identifier, and whether it succeeded
pub record Closed : Type 0 where
  pub protected : ℕ
  pub success : Bool

-- the protected identifier of a transfer
unfoldable pub protected_of : List ℕ → Opened → ℕ
protected_of t Nothing = 0
protected_of t (Frame f) = protected_byte (identifier t f)
protected_of t Request = protected_byte 60
protected_of t Response = protected_byte 61

-- "Only closed transfers with at least one response byte count", since the last accepted reading
unfoldable pub counted_after : List ℕ → Seq Scheduled → Seq Closed
counted_after t ∅ = ∅
counted_after t (h ▹ x) =
    cond (is_status_read (act x)) ∅
    (cond (closes x && (is_transfer (open_after t h) && ltb 0 (length (got_by (got_after h) x))))
    (counted_after t h ▹ record { protected = protected_of t (open_after t h); success = succeeds x })
    (counted_after t h))

-- one of them succeeded, or failed
unfoldable pub any_closed : Bool → Seq Closed → Bool
any_closed success ∅ = false
any_closed success (cs ▹ c) = any_closed success cs || cond success c.success (not c.success)

-- "two or more"
unfoldable pub two_closed : Seq Closed → Bool
two_closed ∅ = false
two_closed (∅ ▹ c) = false
two_closed (cs ▹ b ▹ c) = true

-- "the protected identifier of the last transfer counted"
unfoldable pub last_closed : Seq Closed → ℕ
last_closed ∅ = 0
last_closed (cs ▹ c) = c.protected

-- "bit 0 error in response, bit 1 successful transfer, bit 2 overrun, bits 8 to 15 the protected identifier of the last transfer counted, other
-- bits 0"
unfoldable pub word_over : Seq Closed → ℕ
word_over cs = digit (any_closed false cs) + 2 * digit (any_closed true cs) + 4 * digit (two_closed cs) + 256 * last_closed cs
