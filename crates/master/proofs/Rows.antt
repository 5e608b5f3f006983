-- Document 01, "Refusal numbers": the rows of the paper's table, each with the calls that it concerns, in the paper's words.
use Prim.Native.Nat.{ℕ, ◌*◌, ◌^◌, ◌≤◌, ◌<◌}
use mathlib.Core.Path.{◌≡◌}
use mathlib.Core.Bool.{Bool, true, false}
use mathlib.Core.List.{List}
use lib.ListN.{length}
use Rattle.refusal.specs.declared.Refusal.{Refusal}
use Rattle.cluster.specs.Check.{judged}
use Rattle.cluster.specs.Table.{frame_count, signal_count, published, signal_kind, signal_width, placement_count, placement_signal, placement_frame}
use Rattle.cluster.specs.Table.{member_count, member_frame, entry_count, entry_schedule}
use Rattle.master.specs.declared.state.Opened.TheVariants as opened
use Rattle.master.specs.declared.state.Sending as state
use Rattle.master.specs.declared.state.Message.TheVariants as message
use Rattle.master.specs.Put.{Put, scalar, array}
use Rattle.master.specs.Calls as call
use Rattle.master.specs.Calls.{Call}
use Rattle.master.specs.Run.{Held}
use Rattle.master.proofs.FitsExactly.{Clauses}
use Rattle.std.specs.Prelude.{Err}

-- the calls that are lent the frame buffer
abbrev pub lent : Call → Bool
lent (call.write w) = true
lent (call.read s) = true
lent (call.read_array s) = true
lent (call.select n) = false
lent (call.tick m) = true
lent (call.byte_in b) = true
lent call.read_status = false
lent (call.send nad n) = false
lent call.message_state = false
lent (call.number_ahead f) = false

-- the rows of the paper's table: a number, and when it applies to a call
pub data Row (t : List ℕ) (x : Held) : Call → ℕ → Type 0 where
  -- "the table check finds a fault"
  table_fault : {c : Call} → (r : Refusal) → judged t ≡ Err r → Row t x c 1
  -- "the frame buffer isn't 8F bytes"
  buffer_size_lem : {c : Call} → lent c ≡ true → ¬ (length x.bytes ≡ 8 * frame_count t) → Row t x c 2
  -- "the state doesn't fit the table"
  state_unfit : {c : Call} → ¬ Clauses t x.state → Row t x c 3
  -- "on tick, a lent message of another length than the one being sent"
  lent_length : {m : List ℕ} → (y : state.Sending) → x.state.message ≡ message.Sending y → ¬ (length m ≡ y.length) → Row t x (call.tick m) 3
  -- "no such signal, schedule, or frame in a list"
  no_signal_to_write : {w : Put} → signal_count t ≤ w.signal → Row t x (call.write w) 4
  no_signal_to_read : {s : ℕ} → signal_count t ≤ s → Row t x (call.read s) 4
  no_array_to_read : {s : ℕ} → signal_count t ≤ s → Row t x (call.read_array s) 4
  no_schedule : {n : ℕ} → ((e : ℕ) → e < entry_count t → ¬ (entry_schedule t e ≡ n)) → Row t x (call.select n) 4
  no_member : {f : ℕ} → ((m : ℕ) → m < member_count t → ¬ (member_frame t m ≡ f)) → Row t x (call.number_ahead f) 4
  -- "write to a signal the master doesn't publish": one with a placement in a frame that is not published
  not_published_lem : {w : Put} → (k : ℕ) → k < placement_count t → placement_signal t k ≡ w.signal → published t (placement_frame t k) ≡ false
      → Row t x (call.write w) 5
  -- "scalar call on an array or the reverse"
  scalar_into_array : {w : Put} → (v : ℕ) → w.value ≡ scalar v → signal_kind t w.signal ≡ 1 → Row t x (call.write w) 6
  array_into_scalar : {w : Put} → (vs : List ℕ) → w.value ≡ array vs → ¬ (signal_kind t w.signal ≡ 1) → Row t x (call.write w) 6
  scalar_of_array : {s : ℕ} → signal_kind t s ≡ 1 → Row t x (call.read s) 6
  array_of_scalar : {s : ℕ} → ¬ (signal_kind t s ≡ 1) → Row t x (call.read_array s) 6
  -- "value of 2^width or more; array of another length"
  value_too_large : {w : Put} → (v : ℕ) → w.value ≡ scalar v → 2 ^ signal_width t w.signal ≤ v → Row t x (call.write w) 7
  array_length_lem : {w : Put} → (vs : List ℕ) → w.value ≡ array vs → ¬ (8 * length vs ≡ signal_width t w.signal) → Row t x (call.write w) 7
  -- "byte in with no transfer open"
  no_transfer_lem : {b : ℕ} → x.state.transfer.opened ≡ opened.Nothing → Row t x (call.byte_in b) 8
  -- "message length 0 or above 4,095"
  message_empty : {nad n : ℕ} → n ≡ 0 → Row t x (call.send nad n) 9
  message_too_long : {nad n : ℕ} → 4095 < n → Row t x (call.send nad n) 9
  -- "send while a message is being sent"
  message_sending : {nad n : ℕ} → (y : state.Sending) → x.state.message ≡ message.Sending y → Row t x (call.send nad n) 10
