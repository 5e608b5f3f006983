-- What a history says, as functions of the table and the events alone: openings, closings and successful transfers, which frames are
-- pending, and the bytes of a published frame. Document 01, demand 3 and "Histories". Nothing here is taken from the definitions of the calls.
use Rattle.std.specs.Prelude.{ℕ, suc, ◌*◌, ◌≡◌, Bool, true, false, cond, ◌&&◌, ◌||◌, List, [], ◌∷◌, ◌++◌, ltb, eqb, take, drop}
use Rattle.wire.specs.Identifier.{protected_byte}
use Rattle.wire.specs.Checksum.{checksum_byte}
use Rattle.wire.specs.declared.checksum.Model.TheVariants.{Classic, Enhanced}
use Rattle.cluster.specs.Table.{frame_count, identifier, frame_length, classic}
use Rattle.cluster.specs.Lists.{first_from}
use Rattle.cluster.specs.Values.{touches}
use Rattle.cluster.specs.Fresh.{fresh_bytes}
use Rattle.master.specs.declared.state.Opened.{Opened}
use Rattle.master.specs.declared.state.Opened.TheVariants.{Nothing, Frame, Request, Response}
use Rattle.master.specs.declared.tick.TickAnswer.TheVariants as tick
use Rattle.master.specs.declared.byte.ByteAnswer.TheVariants as byte
use Rattle.master.specs.Seq.{Seq, ∅, ◌▹◌, ◌⋈◌, Each}
use Rattle.master.specs.Acts.{on_write, on_tick, on_byte}
use Rattle.master.specs.Schedule.{Scheduled, act, is_start, starts, slot_after, of_list}
use Rattle.master.specs.Put.{with_value}
use Rattle.std.specs.Prelude.{Ok, Err}
use Rattle.master.specs.Calls.{TickResult}
use Rattle.master.specs.Calls.{ByteResult}

-- ---- writes

-- an accepted write to frame f: one of a signal that touches it
unfoldable pub writes : List ℕ → Scheduled → ℕ → Bool
writes t x f = on_write (λ s v. touches t s f) false (act x)

-- ---- openings and closings

-- the frame with a protected identifier; the number of frames where there is none
unfoldable pub frame_named : List ℕ → ℕ → ℕ
frame_named t p = first_from (λ f. eqb (protected_byte (identifier t f)) p) 0 (frame_count t)

-- what has a protected identifier: a frame, "identifier 60", the request, or "identifier 61", the response
unfoldable pub transfer_named : List ℕ → ℕ → Opened
transfer_named t p =
    cond (ltb (frame_named t p) (frame_count t)) (Frame (frame_named t p))
    (cond (eqb p (protected_byte 60)) Request
    (cond (eqb p (protected_byte 61)) Response
    Nothing))

-- what the answer of a tick names
abbrev pub opened_as : List ℕ → TickResult → Opened
opened_as t (Ok tick.Waiting) = Nothing
opened_as t (Ok tick.Idle) = Nothing
opened_as t (Ok tick.Silent) = Nothing
opened_as t (Ok (tick.Opened p)) = transfer_named t p
opened_as t (Err r) = Nothing

-- "A slot opens the frame whose protected identifier its tick answers."
unfoldable pub opens : List ℕ → Scheduled → Opened
opens t x = on_tick (λ m a. cond (is_start x.slot) (opened_as t a) Nothing) Nothing (act x)

-- success was answered: "success", or the eight bytes of a response
abbrev pub is_success : ByteResult → Bool
is_success (Ok byte.More) = false
is_success (Ok byte.Success) = true
is_success (Ok byte.Failure) = false
is_success (Ok (byte.Response bs)) = true
is_success (Err r) = false

-- success or failure was answered
abbrev pub is_end : ByteResult → Bool
is_end (Ok byte.More) = false
is_end (Ok byte.Success) = true
is_end (Ok byte.Failure) = true
is_end (Ok (byte.Response bs)) = true
is_end (Err r) = false

-- "The transfer is open until a byte in answers success or failure, or the next slot starts"
unfoldable pub closes : Scheduled → Bool
closes x = starts x || on_byte (λ b a. is_end a) false (act x)

-- "it is successful, and its frame sent, exactly when success was answered"
unfoldable pub succeeds : Scheduled → Bool
succeeds x = on_byte (λ b a. is_success a) false (act x)

-- the transfer that is open after a history: what the last closing event opened
unfoldable pub open_after : List ℕ → Seq Scheduled → Opened
open_after t ∅ = Nothing
open_after t (h ▹ x) = cond (closes x) (opens t x) (open_after t h)

-- a transfer, and not nothing
abbrev pub is_transfer : Opened → Bool
is_transfer Nothing = false
is_transfer (Frame f) = true
is_transfer Request = true
is_transfer Response = true

-- a transfer is one of frame f
abbrev pub carries : Opened → ℕ → Bool
carries Nothing f = false
carries (Frame g) f = eqb g f
carries Request f = false
carries Response f = false

-- ---- the outcome of a slot's transfer

-- it has not ended yet, or how it ended
pub data Outcome : Type 0 where
  running success failure : Outcome

-- with one more event: the first closing one decides
abbrev pub ended_by : Outcome → Scheduled → Outcome
ended_by running x = cond (closes x) (cond (succeeds x) success failure) running
ended_by success x = success
ended_by failure x = failure

-- of a transfer, by what came after its opening
unfoldable pub outcome_of : Seq Scheduled → Outcome
outcome_of ∅ = running
outcome_of (h ▹ x) = ended_by (outcome_of h) x

-- ---- sent, and pending

-- a transfer of frame f that was opened in h has succeeded in h: the first closing event after its opening is a byte answered with success
pub record Succeeded (t : List ℕ) (h : Seq Scheduled) (f : ℕ) : Type 0 where
  pub before : Seq Scheduled
  pub start : Scheduled
  pub during : Seq Scheduled
  pub end : Scheduled
  pub after : Seq Scheduled
  pub split : h ≡ before ▹ start ⋈ during ▹ end ⋈ after
  pub opened : carries (opens t start) f ≡ true
  pub open_on : Each (λ x. closes x ≡ false) during
  pub well : succeeds end ≡ true

-- "an accepted write to it came after the opening of its last successful transfer, or .. it was written and never yet sent with success": there
-- was an accepted write, and no transfer that was opened after it has succeeded
pub record Pending (t : List ℕ) (h : Seq Scheduled) (f : ℕ) : Type 0 where
  pub before : Seq Scheduled
  pub write : Scheduled
  pub after : Seq Scheduled
  pub split : h ≡ before ▹ write ⋈ after
  pub accepted : writes t write f ≡ true
  pub unsent : ¬ Succeeded t after f

-- how many transfers that slots of list l opened in h have succeeded in h
unfoldable pub successes : List ℕ → ℕ → Seq Scheduled → ℕ
successes t l ∅ = 0
successes t l (h ▹ x) =
    cond (succeeds x && (is_transfer (open_after t h) && of_list t (slot_after h) l))
    (suc (successes t l h))
    (successes t l h)

-- ---- the bytes of a published frame

-- the frame bytes as fresh and the accepted writes left them, put in in order
unfoldable pub written_bytes : List ℕ → Seq Scheduled → List ℕ
written_bytes t ∅ = fresh_bytes t
written_bytes t (h ▹ x) = on_write (λ s v. with_value t (written_bytes t h) s v) (written_bytes t h) (act x)

-- "eight a frame"
abbrev pub eight_of : List ℕ → ℕ → List ℕ
eight_of bs f = take 8 (drop (8 * f) bs)

-- the data of a frame: as many of its bytes as its length says
unfoldable pub data_of : List ℕ → List ℕ → ℕ → List ℕ
data_of t bs f = take (frame_length t f) (eight_of bs f)

-- "the frame's checksum", classic or enhanced "as the table says"
unfoldable pub checksum_over : List ℕ → ℕ → List ℕ → ℕ
checksum_over t f ds = checksum_byte (identifier t f) (cond (classic t f) Classic Enhanced) ds

-- "its data .., then the frame's checksum"
unfoldable pub response_of : List ℕ → List ℕ → ℕ → List ℕ
response_of t bs f = data_of t bs f ++ (checksum_over t f (data_of t bs f) ∷ [])

-- some response bytes, and that of one more event
unfoldable pub got_by : List ℕ → Scheduled → List ℕ
got_by got x = on_byte (λ b a. got ++ (b ∷ [])) got (act x)

-- the response bytes that came since a transfer was opened or closed last
unfoldable pub got_after : Seq Scheduled → List ℕ
got_after ∅ = []
got_after (h ▹ x) = cond (closes x) [] (got_by (got_after h) x)
