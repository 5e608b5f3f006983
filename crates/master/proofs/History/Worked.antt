-- A worked history: a table with frames of four lengths, and calls of every kind, computed from the definitions. Every answer and byte is written
-- out by hand from document 01, so this one theorem holds the meanings from below.
use Prim.Native.Nat.{ℕ}
use mathlib.Core.Path.{◌≡◌, refl}
use mathlib.Core.Bool.{true, false, xor}
use mathlib.Core.List.{List, [], ◌∷◌, ◌++◌}
use lib.ListN.{take, replicate}
use Rattle.refusal.specs.Numbers.{refused}
use Rattle.wire.specs.Bits.{bit}
use Rattle.wire.specs.Identifier.{p0, p1, protected_byte}
use Rattle.wire.specs.Checksum.{with_carry, sum, covered, model_of, inverted, checksum_byte}
use Rattle.signal.specs.Signal.{bit_at, number, bytes_of, inside, replaced, put_bits, put_scalar, put_array, get_scalar, get_array}
use Rattle.cluster.specs.Table.{word, frame_count, signal_count, member_count, entry_count, placement_count, size, identifier, frame_length, flags, published, classic}
use Rattle.cluster.specs.Table.{signal_kind, signal_width, signal_start, is_array, member_list, member_frame}
use Rattle.cluster.specs.Table.{placement_signal, placement_frame, placement_offset, placement_width, placed_signals}
use Rattle.cluster.specs.Table.{entry_schedule, entry_kind, entry_target, entry_delay, counted, list_count, schedule_count}
use Rattle.cluster.specs.Lists.{first_from, members_from, members, member_of, frames_ahead, first_entry, next_entry, is_one_of}
use Rattle.cluster.specs.Columns.{header_columns, frame_columns, offset_right, width_right, start_limit, signal_columns, placement_columns, follows, member_columns, target_right, entry_columns}
use Rattle.cluster.specs.Places.{any_below, place_of, covers, some_placement, at_each}
use Rattle.cluster.specs.Right.{header_right, frame_right, occupied_before, overlaps, signal_right, earlier_placement, again as twice, mixed, sticks_out, placement_right, all_placed, member_right, entry_right, records, front_right, back_right, words_right}
use Rattle.master.specs.Received.{last_of, received_up_to, received_by, last_fits, received_fits, source_of, scalar_from, array_from}
use Rattle.cluster.specs.Check.{taken_of, faults, surplus, judged}
use Rattle.cluster.specs.Fresh.{array_length, start_at, put_start, filled, fresh_bytes}
use Rattle.cluster.specs.Values.{touches, first_placement, signal_published, value_fits, array_fits, scalar_at, array_at, with_scalar, with_array, handed_out, array_read, start_read}
use Rattle.transport.specs.Cutting as cutting
use Rattle.transport.specs.Reassembly as lent
use Rattle.master.specs.declared.tick.TickAnswer.TheVariants as tick
use Rattle.master.specs.declared.byte.ByteAnswer.TheVariants as byte
use Rattle.master.specs.declared.send.MessageAnswer.TheVariants as message
use Rattle.master.specs.Admit.{buffer_size, admitted}
use Rattle.master.specs.Start.{fresh_verdict, fresh_of}
use Rattle.master.specs.Fresh.{fresh}
use Rattle.master.specs.Fits.{wait_fits, bit_fits, pending_fits, entry_opens, can_open, count_fits, message_fits, state_fits}
use Rattle.master.specs.Transfers.{format_of, open_protected, open_checksum, frame_data, sent_data, copied, opening}
use Rattle.master.specs.Select.{select_verdict, select_of}
use Rattle.master.specs.Write.{writable, marked_from, rewritten, marked, write_of}
use Rattle.master.specs.Read.{read_verdict, read_scalar_of, read_array_of}
use Rattle.master.specs.Tick as ticks
use Rattle.master.specs.Status as reading
use Rattle.master.specs.Message as messages
use Rattle.master.specs.Ahead.{pending_count, ahead_verdict, ahead_of}
use Rattle.master.specs.Closing.{cleared_bit, pending_sent, failed, sent, received}
use Rattle.master.specs.Byte.{passed, sent_byte, checksum_right, accepted, last_byte, received_byte, byte_effect, byte_verdict, byte_of}
use Rattle.master.specs.Seq.{Seq, ∅, ◌▹◌, ◌⋈◌}
use Rattle.master.specs.Calls as call
use Rattle.master.specs.Calls.{Call, Event, ◌⇒◌}
use Rattle.master.specs.Run.{answer_of, left_by, held_after, history_of}
use Rattle.master.specs.Replies.{}
use Rattle.master.specs.Claim.{calls_of}
use Rattle.master.specs.Put.{put, scalar, array}
use Rattle.std.specs.Prelude.{Ok, Err}

-- frames: 8, three bytes, published; 24, four bytes, published and classic; 1, two bytes, received; 35, one byte, published. Signals: 7 bits at 5 of
-- frame 0, three bytes at 8 of frame 1, 10 bits at 3 of frame 2, 8 bits at 16 of frame 0, 8 bits at 0 of frame 3. List 0 has frames 1 and 0, list 1 has
-- frame 3. Schedule 0: list 0 for two ticks, frame 2, request; schedule 1: list 1, response
abbrev table : List ℕ
table =
    4 ∷ 5 ∷ 3 ∷ 5 ∷ 5
    ∷ 8 ∷ 3 ∷ 1
    ∷ 24 ∷ 4 ∷ 3
    ∷ 1 ∷ 2 ∷ 0
    ∷ 35 ∷ 1 ∷ 1
    ∷ 0 ∷ 7 ∷ 9
    ∷ 1 ∷ 24 ∷ 17
    ∷ 0 ∷ 10 ∷ 341
    ∷ 0 ∷ 8 ∷ 200
    ∷ 0 ∷ 8 ∷ 0
    ∷ 0 ∷ 0 ∷ 5
    ∷ 1 ∷ 1 ∷ 8
    ∷ 2 ∷ 2 ∷ 3
    ∷ 3 ∷ 0 ∷ 16
    ∷ 4 ∷ 3 ∷ 0
    ∷ 0 ∷ 1
    ∷ 0 ∷ 0
    ∷ 1 ∷ 3
    ∷ 0 ∷ 1 ∷ 0 ∷ 2
    ∷ 0 ∷ 0 ∷ 2 ∷ 1
    ∷ 0 ∷ 2 ∷ 0 ∷ 1
    ∷ 1 ∷ 1 ∷ 1 ∷ 1
    ∷ 1 ∷ 3 ∷ 0 ∷ 1
    ∷ []

-- the message that is lent to the ticks while it is being sent
abbrev lent_message : List ℕ
lent_message = 1 ∷ 2 ∷ 3 ∷ 4 ∷ 5 ∷ 6 ∷ 7 ∷ []

-- ---- a call with its answer

abbrev writes : ℕ → ℕ → Event
writes s v = call.write (put s (scalar v)) ⇒ Ok tt

abbrev writes_bytes : ℕ → List ℕ → Event
writes_bytes s vs = call.write (put s (array vs)) ⇒ Ok tt

abbrev more : ℕ → Event
more b = call.byte_in b ⇒ Ok byte.More

abbrev succeeds : ℕ → Event
succeeds b = call.byte_in b ⇒ Ok byte.Success

abbrev opens : List ℕ → ℕ → Event
opens m p = call.tick m ⇒ Ok (tick.Opened p)

-- ---- the history

-- no schedule 2; no schedule yet; 7 bits hold 127 at most; frame 1 stands ahead of frame 0 and is pending
abbrev starting : Seq Event
starting =
    ∅
    ▹ (call.select 2 ⇒ Err (refused 4))
    ▹ (call.tick [] ⇒ Ok tick.Idle)
    ▹ (call.select 0 ⇒ Ok tt)
    ▹ writes 0 100
    ▹ writes_bytes 1 (1 ∷ 2 ∷ 3 ∷ [])
    ▹ (call.write (put 0 (scalar 128)) ⇒ Err (refused 7))
    ▹ (call.number_ahead 0 ⇒ Ok 1)

-- the list's slot opens frame 1, D8 in hexadecimal, classic; a write in flight does not touch its bytes, and it stays pending
abbrev in_flight : Seq Event
in_flight =
    ∅
    ▹ opens [] 216
    ▹ more 255
    ▹ more 1
    ▹ writes_bytes 1 (4 ∷ 5 ∷ 6 ∷ [])
    ▹ more 2
    ▹ more 3
    ▹ succeeds 249
    ▹ (call.tick [] ⇒ Ok tick.Waiting)

-- frame 2, C1, is received, enhanced: C1 + 34 + 12 is 107, less 255 is 8, and F7 inverted; bits 3 to 12 of 1234 are 582
abbrev receiving : Seq Event
receiving =
    ∅
    ▹ opens [] 193
    ▹ more 52
    ▹ more 18
    ▹ succeeds 247
    ▹ (call.read 2 ⇒ Ok 582)

-- a message of seven bytes for NAD 5; only a message of that length may be lent now; its first frame
abbrev requesting : Seq Event
requesting =
    ∅
    ▹ (call.send 5 7 ⇒ Ok tt)
    ▹ (call.send 5 7 ⇒ Err (refused 10))
    ▹ (call.message_state ⇒ Ok message.Sending)
    ▹ (call.tick [] ⇒ Err (refused 3))
    ▹ opens lent_message 60
    ▹ more 5
    ▹ more 16
    ▹ more 7
    ▹ more 1
    ▹ more 2
    ▹ more 3
    ▹ more 4
    ▹ more 5
    ▹ succeeds 212

-- the schedule is at its first entry again; frame 1 fails at its second byte; error, success and overrun, and D8
abbrev failing : Seq Event
failing =
    ∅
    ▹ opens lent_message 216
    ▹ more 255
    ▹ (call.byte_in 1 ⇒ Ok byte.Failure)
    ▹ (call.read_status ⇒ Ok 55303)

-- the other schedule begins at the next slot: its list has nothing pending, and then the response, 7D, which a write does not touch
abbrev responding : Seq Event
responding =
    ∅
    ▹ (call.select 1 ⇒ Ok tt)
    ▹ (call.tick lent_message ⇒ Ok tick.Waiting)
    ▹ (call.tick lent_message ⇒ Ok tick.Silent)
    ▹ writes 4 77
    ▹ opens lent_message 125
    ▹ more 5
    ▹ more 3
    ▹ more 65
    ▹ more 1
    ▹ more 2
    ▹ more 3
    ▹ more 255
    ▹ more 255
    ▹ (call.byte_in 176 ⇒ Ok (byte.Response (5 ∷ 3 ∷ 65 ∷ 1 ∷ 2 ∷ 3 ∷ 255 ∷ 255 ∷ [])))
    ▹ (call.read_status ⇒ Ok 32002)

-- frame 1 with the bytes of the last write; then none is pending ahead of frame 0; frame 2 gets no response, which counts for nothing
abbrev again : Seq Event
again =
    ∅
    ▹ (call.select 0 ⇒ Ok tt)
    ▹ opens lent_message 216
    ▹ more 255
    ▹ more 4
    ▹ more 5
    ▹ more 6
    ▹ succeeds 240
    ▹ (call.number_ahead 0 ⇒ Ok 0)
    ▹ (call.tick lent_message ⇒ Ok tick.Waiting)
    ▹ opens lent_message 193

-- the second frame of the message, and it is completed
abbrev completing : Seq Event
completing =
    ∅
    ▹ opens lent_message 60
    ▹ more 5
    ▹ more 33
    ▹ more 6
    ▹ more 7
    ▹ more 255
    ▹ more 255
    ▹ more 255
    ▹ more 255
    ▹ succeeds 204
    ▹ (call.message_state ⇒ Ok message.Completed)

-- frame 0, 08, enhanced, with the 7 bits of 100 over its byte border: 9F FC C8; then what is refused, and the status
abbrev ending : Seq Event
ending =
    ∅
    ▹ opens [] 8
    ▹ more 159
    ▹ more 252
    ▹ more 200
    ▹ succeeds 146
    ▹ (call.read_array 1 ⇒ Ok (record { count = 3; bytes = 4 ∷ 5 ∷ 6 ∷ 255 ∷ 255 ∷ 255 ∷ 255 ∷ 255 ∷ [] }))
    ▹ (call.read 0 ⇒ Ok 100)
    ▹ (call.read 1 ⇒ Err (refused 6))
    ▹ (call.write (put 2 (scalar 1)) ⇒ Err (refused 5))
    ▹ (call.number_ahead 2 ⇒ Err (refused 4))
    ▹ (call.byte_in 0 ⇒ (Err (refused 8)))
    ▹ (call.send 5 0 ⇒ Err (refused 9))
    ▹ (call.read_status ⇒ Ok 2054)

abbrev history : Seq Event
history = starting ⋈ in_flight ⋈ receiving ⋈ requesting ⋈ failing ⋈ responding ⋈ again ⋈ completing ⋈ ending

abbrev calls : Seq Call
calls = calls_of history

-- some bytes of a frame, and 255 behind them
abbrev eight : List ℕ → List ℕ
eight bs = take 8 (bs ++ replicate 8 255)

-- the frame bytes as fresh left them, each frame with its start values
abbrev at_first : List ℕ
at_first = eight (63 ∷ 241 ∷ 200 ∷ []) ++ (eight (255 ∷ 17 ∷ 17 ∷ 17 ∷ []) ++ (eight (175 ∷ 234 ∷ []) ++ eight (0 ∷ [])))

-- and at the end: the writes, and the two bytes that were received
abbrev at_last : List ℕ
at_last = eight (159 ∷ 252 ∷ 200 ∷ []) ++ (eight (255 ∷ 4 ∷ 5 ∷ 6 ∷ []) ++ (eight (52 ∷ 18 ∷ []) ++ eight (77 ∷ [])))

-- on a buffer of 32 bytes these calls have these answers and leave these bytes, and frame 3 alone is pending
pub worked : (history_of table (replicate 32 0) calls ≡ history)
    × ((held_after table (replicate 32 0) ∅).bytes ≡ at_first)
    × ((held_after table (replicate 32 0) calls).bytes ≡ at_last)
    × ((held_after table (replicate 32 0) calls).state.pending ≡ false ∷ false ∷ false ∷ true ∷ replicate 56 false)
unfolding history_of held_after left_by answer_of fresh_of fresh_verdict fresh buffer_size admitted taken_of judged faults surplus words_right front_right back_right placement_right earlier_placement twice mixed sticks_out all_placed placed_signals placement_count placement_signal placement_frame placement_offset
    placement_width placement_columns some_placement at_each start_at first_placement records header_right
    frame_right any_below signal_right offset_right width_right start_limit occupied_before overlaps member_right entry_right target_right word frame_count
    signal_count member_count entry_count size identifier frame_length flags published classic signal_kind signal_width signal_start
    is_array member_list member_frame entry_schedule entry_kind entry_target entry_delay counted list_count schedule_count first_from members_from members member_of
    frames_ahead first_entry next_entry place_of array_length put_start filled fresh_bytes touches signal_published value_fits array_fits
    with_scalar with_array array_read bit_at number bytes_of inside replaced put_bits put_scalar put_array get_scalar get_array bit p0 p1 xor
    protected_byte with_carry sum covered model_of inverted checksum_byte state_fits last_fits received_fits received_up_to received_by last_of source_of scalar_from array_from scalar_at array_at handed_out start_read wait_fits bit_fits pending_fits is_one_of entry_opens can_open count_fits
    message_fits open_protected open_checksum frame_data sent_data copied opening select_verdict select_of writable marked_from rewritten marked write_of
    read_verdict read_scalar_of read_array_of ticks.first_pending ticks.slot_opens ticks.abandoned ticks.opens_or_silent ticks.slot_at ticks.slot ticks.tick_effect
    ticks.tick_verdict ticks.tick_of reading.with_counted reading.status_word reading.status_of messages.moved messages.send_verdict
    messages.send_of messages.message_of pending_count ahead_verdict ahead_of cleared_bit pending_sent failed sent received passed sent_byte checksum_right accepted
    last_byte received_byte byte_effect byte_verdict byte_of format_of entry_columns follows frame_columns header_columns member_columns covers signal_columns
    cutting.message_frames cutting.data_bytes cutting.single_frame cutting.first_frame cutting.next_frame cutting.message_frame cutting.cut_of lent.written
worked = (refl, refl, refl, refl)
