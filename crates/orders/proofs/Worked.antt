-- Rows of values in a worked history, computed from the definitions: the numbers of request 01, and a row while its frame is going out. The answers are
-- those of the case row-worked and of document 01's checksums, by hand.
use Prim.Native.Nat.{ℕ}
use mathlib.Core.Path.{◌≡◌, refl}
use mathlib.Core.Bool.{true, false, xor}
use mathlib.Core.List.{List, [], ◌∷◌, ◌++◌}
use lib.ListN.{take, replicate}
use Rattle.refusal.specs.Numbers.{refused, refused_at}
use Rattle.wire.specs.Bits.{bit}
use Rattle.wire.specs.Identifier.{p0, p1, protected_byte}
use Rattle.wire.specs.Checksum.{with_carry, sum, covered, model_of, inverted, checksum_byte}
use Rattle.signal.specs.Signal.{bit_at, number, bytes_of, inside, replaced, put_bits, put_scalar, put_array, get_scalar}
use Rattle.cluster.specs.Table.{word, frame_count, signal_count, member_count, entry_count, placement_count, size, identifier, frame_length, flags, published, classic}
use Rattle.cluster.specs.Table.{signal_kind, signal_width, signal_start, is_array, member_list, member_frame}
use Rattle.cluster.specs.Table.{placement_signal, placement_frame, placement_offset, placement_width, placed_signals}
use Rattle.cluster.specs.Table.{entry_schedule, entry_kind, entry_target, entry_delay, counted, list_count, schedule_count}
use Rattle.cluster.specs.Lists.{first_from, members_from, members, member_of, frames_ahead, first_entry, next_entry, is_one_of}
use Rattle.cluster.specs.Columns.{header_columns, frame_columns, offset_right, width_right, start_limit, signal_columns, placement_columns, follows, member_columns, target_right, entry_columns}
use Rattle.cluster.specs.Places.{any_below, place_of, covers, some_placement, at_each}
use Rattle.cluster.specs.Right.{header_right, frame_right, occupied_before, overlaps, signal_right, earlier_placement, again, mixed, sticks_out, placement_right, all_placed, member_right, entry_right, records, front_right, back_right, words_right}
use Rattle.master.specs.Received.{last_of, received_up_to, received_by, last_fits, received_fits, source_of, scalar_from, array_from}
use Rattle.cluster.specs.Check.{taken_of, faults, surplus, judged}
use Rattle.cluster.specs.Fresh.{array_length, start_at, put_start, filled, fresh_bytes}
use Rattle.cluster.specs.Values.{touches, first_placement, signal_published, value_fits, scalar_at, array_at, with_scalar, handed_out, start_read}
use Rattle.master.specs.declared.tick.TickAnswer.TheVariants as tick
use Rattle.master.specs.declared.byte.ByteAnswer.TheVariants as byte
use Rattle.master.specs.Admit.{buffer_size, admitted}
use Rattle.master.specs.Start.{fresh_verdict, fresh_of}
use Rattle.master.specs.Fresh.{fresh}
use Rattle.master.specs.Fits.{wait_fits, bit_fits, pending_fits, entry_opens, can_open, count_fits, message_fits, state_fits}
use Rattle.master.specs.Transfers.{format_of, open_protected, open_checksum, frame_data, sent_data, copied, opening}
use Rattle.master.specs.Select.{select_verdict, select_of}
use Rattle.master.specs.Write.{writable, marked_from, rewritten}
use Rattle.master.specs.Read.{read_verdict, read_scalar_of}
use Rattle.master.specs.Tick as ticks
use Rattle.master.specs.Status as reading
use Rattle.master.specs.Ahead.{pending_count, ahead_verdict, ahead_of}
use Rattle.master.specs.Closing.{cleared_bit, pending_sent, sent, received}
use Rattle.master.specs.Byte.{passed, sent_byte, checksum_right, accepted, last_byte, received_byte, byte_effect, byte_verdict, byte_of}
use Rattle.master.specs.Seq.{Seq, ∅, ◌▹◌, ◌⋈◌}
use Rattle.master.specs.Calls as call
use Rattle.master.specs.Calls.{Event, ◌⇒◌}
use Rattle.master.specs.Run.{answer_of, left_by, held_after}
use Rattle.master.specs.Replies.{}
use Rattle.master.specs.Put.{put, scalar, puts}
use Rattle.master.specs.WriteRow.{first_bad, row_verdict, marked_bits, rewritten_by, with_row, marked_row, row_of}
use Rattle.orders.specs.Orders.{Order, one, row, Ordered, ◌⇛◌, with_writes, read_order, read_orders}
use Rattle.orders.specs.Run.{order_answer, order_left, held_by, ordered_of}
use Rattle.orders.specs.Claim.{orders_of}
use Rattle.std.specs.Prelude.{Ok, Err}

-- frames: 2, one byte, published; 4, three bytes, published; 5, one byte, received and classic. Signals: 3 bits of frame 0, an array of two bytes of
-- frame 1, 8 bits of frame 2, 8 bits at 16 of frame 1. A list of frames 0 and 1, and a schedule with its slot
abbrev table : List ℕ
table =
    3 ∷ 4 ∷ 2 ∷ 1 ∷ 4
    ∷ 2 ∷ 1 ∷ 1
    ∷ 4 ∷ 3 ∷ 1
    ∷ 5 ∷ 1 ∷ 2
    ∷ 0 ∷ 3 ∷ 5
    ∷ 1 ∷ 16 ∷ 9
    ∷ 0 ∷ 8 ∷ 1
    ∷ 0 ∷ 8 ∷ 100
    ∷ 0 ∷ 0 ∷ 0
    ∷ 1 ∷ 1 ∷ 0
    ∷ 2 ∷ 2 ∷ 0
    ∷ 3 ∷ 1 ∷ 16
    ∷ 0 ∷ 0
    ∷ 0 ∷ 1
    ∷ 0 ∷ 1 ∷ 0 ∷ 1
    ∷ []

abbrev writes : ℕ → ℕ → Event
writes s v = call.write (put s (scalar v)) ⇒ Ok tt

abbrev more : ℕ → Ordered
more b = one (call.byte_in b) ⇛ Ok byte.More

abbrev opens : ℕ → Ordered
opens p = one (call.tick []) ⇛ Ok (tick.Opened p)

-- refused rows: 8 for 3 bits; an array; a received signal; no signal 4; unequal; then three pairs, of which one signal twice
abbrev panel : Seq Ordered
panel =
    ∅
    ▹ (row (0 ∷ 9 ∷ []) (8 ∷ 0 ∷ []) ⇛ Err (refused_at 7 0))
    ▹ (row (3 ∷ 1 ∷ []) (0 ∷ 0 ∷ []) ⇛ Err (refused_at 6 1))
    ▹ (row (3 ∷ 2 ∷ []) (0 ∷ 0 ∷ []) ⇛ Err (refused_at 5 1))
    ▹ (row (0 ∷ 3 ∷ 4 ∷ []) (1 ∷ 1 ∷ 1 ∷ []) ⇛ Err (refused_at 4 2))
    ▹ (row (3 ∷ []) [] ⇛ Err (refused 12))
    ▹ (one (call.read 3) ⇛ Ok 100)
    ▹ (row (0 ∷ 3 ∷ 0 ∷ []) (7 ∷ 200 ∷ 2 ∷ []) ⇛ Ok tt)
    ▹ (one (call.read 0) ⇛ Ok 2)

-- frame 0, 42 in hexadecimal, goes out with FA; a row in flight makes it pending again, a refused one and an empty one do not; FD goes out next
abbrev sending : Seq Ordered
sending =
    ∅
    ▹ (one (call.select 0) ⇛ Ok tt)
    ▹ opens 66
    ▹ (row (0 ∷ []) (5 ∷ []) ⇛ Ok tt)
    ▹ more 250
    ▹ (one (call.byte_in 194) ⇛ Ok byte.Success)
    ▹ (one (call.number_ahead 1) ⇛ Ok 1)
    ▹ opens 66
    ▹ (row (0 ∷ 0 ∷ []) (1 ∷ 8 ∷ []) ⇛ Err (refused_at 7 1))
    ▹ (row [] [] ⇛ Ok tt)
    ▹ more 253
    ▹ (one (call.byte_in 191) ⇛ Ok byte.Success)
    ▹ (one (call.number_ahead 1) ⇛ Ok 0)

abbrev answered : Seq Ordered
answered = panel ⋈ sending

abbrev orders : Seq Order
orders = orders_of answered

-- the same as demand 3 reads it
abbrev history : Seq Event
history =
    ∅
    ▹ (call.read 3 ⇒ Ok 100)
    ▹ writes 0 7
    ▹ writes 3 200
    ▹ writes 0 2
    ▹ (call.read 0 ⇒ Ok 2)
    ▹ (call.select 0 ⇒ Ok tt)
    ▹ (call.tick [] ⇒ Ok (tick.Opened 66))
    ▹ writes 0 5
    ▹ (call.byte_in 250 ⇒ Ok byte.More)
    ▹ (call.byte_in 194 ⇒ Ok byte.Success)
    ▹ (call.number_ahead 1 ⇒ Ok 1)
    ▹ (call.tick [] ⇒ Ok (tick.Opened 66))
    ▹ (call.byte_in 253 ⇒ Ok byte.More)
    ▹ (call.byte_in 191 ⇒ Ok byte.Success)
    ▹ (call.number_ahead 1 ⇒ Ok 0)

-- some bytes of a frame, and 255 behind them
abbrev eight : List ℕ → List ℕ
eight bs = take 8 (bs ++ replicate 8 255)

-- on a buffer of 24 bytes these orders have these answers, are read so, and leave these bytes, and frame 1 alone is pending
pub worked_rows : (ordered_of table (replicate 24 0) orders ≡ answered)
    × (read_orders answered ≡ history)
    × ((held_by table (replicate 24 0) orders).bytes ≡ eight (253 ∷ []) ++ (eight (9 ∷ 9 ∷ 200 ∷ []) ++ eight (1 ∷ [])))
    × ((held_by table (replicate 24 0) orders).state.pending ≡ false ∷ true ∷ replicate 58 false)
unfolding ordered_of held_by order_answer order_left read_orders read_order with_writes first_bad row_verdict marked_bits rewritten_by with_row marked_row row_of
    puts held_after left_by answer_of fresh_of fresh_verdict fresh buffer_size admitted taken_of judged faults surplus words_right front_right back_right placement_right earlier_placement again mixed sticks_out all_placed placed_signals placement_count placement_signal placement_frame placement_offset
    placement_width placement_columns some_placement at_each start_at first_placement records header_right
    frame_right any_below signal_right offset_right width_right start_limit occupied_before overlaps member_right entry_right target_right word frame_count
    signal_count member_count entry_count size identifier frame_length flags published classic signal_kind signal_width signal_start
    is_array member_list member_frame entry_schedule entry_kind entry_target entry_delay counted list_count schedule_count first_from members_from members
    member_of frames_ahead first_entry next_entry place_of array_length put_start filled fresh_bytes touches signal_published value_fits
    with_scalar bit_at number bytes_of inside replaced put_bits put_scalar put_array get_scalar bit p0 p1 xor protected_byte with_carry sum covered model_of
    inverted checksum_byte state_fits last_fits received_fits received_up_to received_by last_of source_of scalar_from array_from scalar_at array_at handed_out start_read wait_fits bit_fits pending_fits is_one_of entry_opens can_open count_fits message_fits open_protected open_checksum frame_data
    sent_data copied opening select_verdict select_of writable marked_from rewritten read_verdict read_scalar_of ticks.first_pending ticks.slot_opens
    ticks.abandoned ticks.opens_or_silent ticks.slot_at ticks.slot ticks.tick_effect ticks.tick_verdict ticks.tick_of reading.with_counted pending_count
    ahead_verdict ahead_of cleared_bit pending_sent sent received passed sent_byte checksum_right accepted last_byte received_byte byte_effect byte_verdict
    byte_of format_of entry_columns follows frame_columns header_columns member_columns covers signal_columns
worked_rows = (refl, refl, refl, refl)
