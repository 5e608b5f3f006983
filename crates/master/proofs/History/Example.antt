-- The claim is not empty: a run on a table of two frames that meets every premise of its part (e), with one frame ahead.
use Prim.Native.Nat.{ℕ}
use mathlib.Core.Path.{◌≡◌, refl}
use mathlib.Core.Bool.{xor}
use mathlib.Core.List.{List, [], ◌∷◌}
use native.Mathlib.Omega.{arith}
use lib.ListN.{replicate}
use Rattle.wire.specs.Bits.{bit}
use Rattle.wire.specs.Identifier.{p0, p1, protected_byte}
use Rattle.wire.specs.Checksum.{with_carry, sum, covered, model_of, inverted, checksum_byte}
use Rattle.signal.specs.Signal.{bit_at, number, bytes_of, inside, replaced, put_bits, put_scalar}
use Rattle.cluster.specs.Table.{word, frame_count, signal_count, member_count, entry_count, placement_count, size, identifier, frame_length, flags, published, classic}
use Rattle.cluster.specs.Table.{signal_kind, signal_width, signal_start, is_array, member_list, member_frame}
use Rattle.cluster.specs.Table.{placement_signal, placement_frame, placement_offset, placement_width, placed_signals}
use Rattle.cluster.specs.Table.{entry_schedule, entry_kind, entry_target, entry_delay, counted, list_count, schedule_count}
use Rattle.cluster.specs.Lists.{first_from, members_from, members, first_entry, next_entry}
use Rattle.cluster.specs.Columns.{header_columns, frame_columns, offset_right, width_right, start_limit, signal_columns, placement_columns, follows, member_columns, target_right, entry_columns}
use Rattle.cluster.specs.Places.{any_below, place_of, covers, some_placement, at_each}
use Rattle.cluster.specs.Right.{header_right, frame_right, occupied_before, overlaps, signal_right, earlier_placement, again, mixed, sticks_out, placement_right, all_placed, member_right, entry_right, records, front_right, back_right, words_right}
use Rattle.master.specs.Received.{last_of, received_up_to, received_by, last_fits, received_fits, source_of, scalar_from, array_from}
use Rattle.cluster.specs.Check.{taken_of, faults, surplus, judged}
use Rattle.cluster.specs.Fresh.{start_at, put_start, filled, fresh_bytes}
use Rattle.cluster.specs.Values.{touches, first_placement, signal_published, value_fits, scalar_at, array_at, with_scalar, handed_out, start_read}
use Rattle.master.specs.declared.tick.TickAnswer.TheVariants.{Opened}
use Rattle.master.specs.declared.byte.ByteAnswer.TheVariants.{More, Success}
use Rattle.master.specs.Admit.{buffer_size, admitted}
use Rattle.master.specs.Start.{fresh_verdict, fresh_of}
use Rattle.master.specs.Fresh.{fresh}
use Rattle.master.specs.Fits.{wait_fits, bit_fits, pending_fits, entry_opens, can_open, count_fits, message_fits, state_fits}
use Rattle.cluster.specs.Lists.{is_one_of}
use Rattle.master.specs.Transfers.{format_of, open_protected, open_checksum, frame_data, sent_data, copied, opening}
use Rattle.master.specs.Select.{select_verdict, select_of}
use Rattle.master.specs.Write.{writable, marked_from, rewritten, marked, write_of}
use Rattle.master.specs.Tick as tick
use Rattle.master.specs.Status as status
use Rattle.master.specs.Closing.{cleared_bit, pending_sent, sent, received}
use Rattle.master.specs.Byte.{passed, sent_byte, byte_effect, byte_verdict, byte_of}
use Rattle.master.specs.Seq.{Seq, ∅, ◌▹◌, ◌⋈◌}
use Rattle.master.specs.Calls.{Call, select, write, tick, byte_in}
use Rattle.master.specs.Run.{answer_of, left_by, held_after, history_of}
use Rattle.master.specs.Schedule.{slot_begun, none, entry, Scheduled, slot_of, slot_due, plan_with, plan_by, plan_after, schedule, scheduled, slot_after}
use Rattle.master.specs.History.{writes, frame_named, transfer_named, opens, closes, succeeds, open_after, Succeeded, successes}
use Rattle.master.specs.Replies.{none_left, one_more}
use Rattle.master.specs.Claim.{record_of, event}
use Rattle.master.proofs.History.Computed.{rewritten_after, wipes, pending_after}
use Rattle.master.proofs.History.PendingLaw.{pending_iff}
use Rattle.master.proofs.History.Claimed.{demand_3}
use Rattle.master.specs.Put.{put, scalar}
use Rattle.std.specs.Prelude.{Ok}

-- two frames of one byte with a signal in each, both in list 0, and a schedule of one slot of that list, at every tick
abbrev table : List ℕ
table =
    2 ∷ 2 ∷ 2 ∷ 1 ∷ 2
    ∷ 2 ∷ 1 ∷ 1
    ∷ 3 ∷ 1 ∷ 1
    ∷ 0 ∷ 8 ∷ 0
    ∷ 0 ∷ 8 ∷ 0
    ∷ 0 ∷ 0 ∷ 0
    ∷ 1 ∷ 1 ∷ 0
    ∷ 0 ∷ 0
    ∷ 0 ∷ 1
    ∷ 0 ∷ 1 ∷ 0 ∷ 1
    ∷ []

abbrev buffer : List ℕ
buffer = replicate 16 0

-- both frames are written, and then sent
abbrev calls : Seq Call
calls = ∅ ▹ select 0 ▹ write (put 1 (scalar 5)) ▹ write (put 0 (scalar 7)) ▹ tick [] ▹ byte_in 7 ▹ byte_in 182 ▹ tick [] ▹ byte_in 5 ▹ byte_in 247

abbrev writing : Seq Scheduled
writing = ∅ ▹ event (select 0) (Ok tt) none none ▹ event (write (put 1 (scalar 5))) (Ok tt) none none ▹ event (write (put 0 (scalar 7))) (Ok tt) none none

abbrev sending : Seq Scheduled
sending =
    ∅
    ▹ event (tick []) (Ok (Opened 66)) (entry 0) (entry 0)
    ▹ event (byte_in 7) (Ok More) none (entry 0)
    ▹ event (byte_in 182) (Ok Success) none (entry 0)
    ▹ event (tick []) (Ok (Opened 3)) (entry 0) (entry 0)
    ▹ event (byte_in 5) (Ok More) none (entry 0)
    ▹ event (byte_in 247) (Ok Success) none (entry 0)

accepted : (fresh_of table buffer).given.answer ≡ Ok tt
unfolding fresh_of fresh_verdict buffer_size taken_of judged faults surplus words_right front_right back_right placement_right earlier_placement again mixed sticks_out all_placed placed_signals placement_count placement_signal placement_frame placement_offset
    placement_width placement_columns some_placement at_each start_at first_placement records header_right frame_right any_below
    signal_right offset_right width_right start_limit occupied_before overlaps member_right entry_right target_right word frame_count
    signal_count member_count entry_count size identifier frame_length flags published signal_kind
    signal_width signal_start is_array member_list member_frame entry_schedule entry_kind entry_target entry_delay counted list_count
    inside bit entry_columns follows frame_columns header_columns member_columns covers signal_columns place_of
accepted = refl

record_is : record_of table buffer calls ≡ writing ⋈ sending
unfolding scheduled schedule slot_begun slot_after plan_after plan_by plan_with slot_due slot_of history_of held_after left_by answer_of
    fresh_of fresh_verdict fresh buffer_size admitted taken_of judged faults surplus words_right front_right back_right placement_right earlier_placement again mixed sticks_out all_placed placed_signals placement_count placement_signal placement_frame placement_offset
    placement_width placement_columns some_placement at_each start_at first_placement records header_right frame_right
    any_below signal_right offset_right width_right start_limit occupied_before overlaps member_right entry_right target_right word
    frame_count signal_count member_count entry_count size identifier frame_length flags published classic signal_kind
    signal_width signal_start is_array member_list member_frame entry_schedule entry_kind entry_target entry_delay
    counted list_count schedule_count first_from members_from members first_entry next_entry place_of put_start filled fresh_bytes
    touches signal_published value_fits with_scalar bit_at number bytes_of inside replaced put_bits put_scalar bit p0 p1 xor
    protected_byte with_carry sum covered model_of inverted checksum_byte state_fits last_fits received_fits received_up_to received_by last_of source_of scalar_from array_from scalar_at array_at handed_out start_read wait_fits bit_fits pending_fits is_one_of
    entry_opens can_open count_fits message_fits open_protected open_checksum frame_data sent_data copied opening select_verdict
    select_of writable marked_from rewritten marked write_of tick.first_pending tick.slot_opens tick.abandoned tick.opens_or_silent
    tick.slot_at tick.slot tick.tick_effect tick.tick_verdict tick.tick_of status.with_counted cleared_bit
    pending_sent sent received passed sent_byte byte_effect byte_verdict byte_of format_of entry_columns follows frame_columns
    header_columns member_columns covers signal_columns
record_is = refl

-- frame 1 is sent by the second success of its list
pub sent_second : Succeeded table sending 1
unfolding open_after closes opens transfer_named frame_named first_from frame_count word identifier protected_byte p0 p1 xor bit
    rewritten_after wipes pending_after writes succeeds touches some_placement any_below placement_count placement_signal placement_frame successes slot_after members members_from member_count
    member_list member_frame signal_count entry_kind entry_target
sent_second =
    (demand_3 table buffer accepted calls).history.progress writing sending 0 1 1 (0 ∷ []) [] record_is refl refl
    ((pending_iff table writing 1).0 refl)
    (one_more ((pending_iff table writing 0).0 refl) none_left)
    ((((((tt, λ g i. refl), λ g i. refl), λ g i. refl), λ g i. refl), λ g i. refl), λ g i. refl)
    (omega arith)
