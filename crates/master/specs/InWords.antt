-- Beside the claim: pending in the very words of demand 3, for a reader who asks whether `Pending` (specs/History.antt) says what is meant, and what a
-- signal reads as. The theorems are `pending_in_words` (proofs/History/InWords.antt), `last_write` (proofs/History/LastWrite.antt), `placements_agree`
-- (proofs/History/PlacementsAgree.antt) and `last_reception` (proofs/History/LastReception.antt).
use Rattle.std.specs.Prelude.{ℕ, ◌-◌, ◌/◌, ◌≡◌, ◌⊎◌, true, false, cond, List, ◌++◌, eqb, length, replicate}
use Rattle.wire.specs.Bits.{Bytes}
use Rattle.signal.specs.Signal.{get_scalar, get_array}
use Rattle.cluster.specs.Table.{published, is_array, signal_width, signal_start, placement_offset}
use Rattle.cluster.specs.Values.{touches, placement_in, scalar_at, array_at}
use Rattle.master.specs.declared.state.Opened.{Opened}
use Rattle.master.specs.declared.state.Opened.TheVariants.{Nothing, Frame, Request, Response}
use Rattle.master.specs.Put.{Value, scalar, array}
use Rattle.master.specs.Calls as call
use Rattle.master.specs.Acts.{on_write}
use Rattle.master.specs.Run.{Held, answer_of}
use Rattle.master.specs.Seq.{Seq, ∅, ◌▹◌, ◌⋈◌}
use Rattle.master.specs.Schedule.{Scheduled, act}
use Rattle.master.specs.History.{writes, succeeds, open_after, got_after, Succeeded}
use Rattle.std.specs.Prelude.{Ok}

-- a write to f was accepted in h
pub record Written (t : List ℕ) (h : Seq Scheduled) (f : ℕ) : Type 0 where
  pub before : Seq Scheduled
  pub write : Scheduled
  pub after : Seq Scheduled
  pub split : h ≡ before ▹ write ⋈ after
  pub accepted : writes t write f ≡ true

-- "its last successful transfer": one that was opened in h and has succeeded, and none that was opened behind it has
pub record LastSent (t : List ℕ) (h : Seq Scheduled) (f : ℕ) : Type 0 where
  pub sent : Succeeded t h f
  pub last : ¬ Succeeded t sent.after f

-- what came after its opening
abbrev pub since_opening : {t : List ℕ} {h : Seq Scheduled} {f : ℕ} → LastSent t h f → Seq Scheduled
since_opening l = l.sent.during ▹ l.sent.end ⋈ l.sent.after

-- "an accepted write to it came after the opening of its last successful transfer, or .. it was written and never yet sent with success"
abbrev pub PendingInWords : List ℕ → Seq Scheduled → ℕ → Type 0
PendingInWords t h f =
    ((l : LastSent t h f) × Written t (since_opening l) f)
    ⊎ (Written t h f × ¬ Succeeded t h f)

-- ---- what a published signal reads as

-- its start value, "given to each byte" of an array
unfoldable pub start_value : List ℕ → ℕ → Value
start_value t s = cond (is_array t s) (array (replicate (signal_width t s / 8) (signal_start t s))) (scalar (signal_start t s))

-- what its last accepted write put in, and the start value where there was none
unfoldable pub last_value : List ℕ → ℕ → Seq Scheduled → Value
last_value t s ∅ = start_value t s
last_value t s (h ▹ x) = on_write (λ r v. cond (eqb r s) v (last_value t s h)) (last_value t s h) (act x)

-- two of its placements hold the same
abbrev pub Alike : List ℕ → List ℕ → ℕ → ℕ → ℕ → Type 0
Alike t bs s j k = (is_array t s ≡ false → scalar_at t bs s j ≡ scalar_at t bs s k) × (is_array t s ≡ true → array_at t bs s j ≡ array_at t bs s k)

-- a read of it answers a value: a number, or bytes with 255 in the unused ones of eight
abbrev pub ReadsAs : List ℕ → Held → ℕ → Value → Type 0
ReadsAs t x s (scalar v) = answer_of t x (call.read s) ≡ Ok v
ReadsAs t x s (array vs) =
    Bytes vs → answer_of t x (call.read_array s) ≡ Ok (record { count = length vs; bytes = vs ++ replicate (8 - length vs) 255 })

-- ---- what a received signal reads as

-- what the data bytes of a frame say of a signal that stands in it: its bits from the offset of its placement there on
unfoldable pub brought_by : List ℕ → ℕ → ℕ → List ℕ → Value
brought_by t s f ds =
    cond (is_array t s)
    (array (get_array ds (placement_offset t (placement_in t s f)) (signal_width t s / 8)))
    (scalar (get_scalar ds (placement_offset t (placement_in t s f)) (signal_width t s)))

-- after a success of a transfer with these data: of a frame that has the signal and that the master does not publish
unfoldable pub received_with : List ℕ → ℕ → Opened → List ℕ → Value → Value
received_with t s Nothing ds v = v
received_with t s (Frame f) ds v = cond (published t f) v (cond (touches t s f) (brought_by t s f ds) v)
received_with t s Request ds v = v
received_with t s Response ds v = v

-- what the last successful reception of a frame that has it brought, "before any reception, the start value"
unfoldable pub received_value : List ℕ → ℕ → Seq Scheduled → Value
received_value t s ∅ = start_value t s
received_value t s (h ▹ x) = cond (succeeds x) (received_with t s (open_after t h) (got_after h) (received_value t s h)) (received_value t s h)
