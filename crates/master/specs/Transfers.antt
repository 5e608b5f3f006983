-- Document 01, "Calls and steps": what an open transfer is: its length, its identifier, who sends it, and the bytes copied at its opening.
use Rattle.std.specs.Prelude.{ℕ, ◌-◌, ◌*◌, Bool, true, false, cond, List, [], ◌∷◌, ◌++◌, length, take, drop, replicate}
use Rattle.wire.specs.Identifier.{protected_byte}
use Rattle.wire.specs.Checksum.{checksum_byte}
use Rattle.wire.specs.declared.checksum.Model.{Model}
use Rattle.wire.specs.declared.checksum.Model.TheVariants.{Classic}
use Rattle.cluster.specs.Table.{identifier, frame_length, published, frame_model}
use Rattle.transport.specs.Cutting.{cut_of, cut_bytes}
use Rattle.master.specs.declared.state.Opened.{Opened}
use Rattle.master.specs.declared.state.Opened.TheVariants.{Nothing, Frame, Request, Response}
use Rattle.master.specs.declared.state.Message as state
use Rattle.master.specs.declared.state.Message.TheVariants as message
use Rattle.master.specs.declared.state.Transfer.{Transfer}
use Rattle.master.specs.declared.transfer.Format.{Format}

-- a transfer is open
abbrev pub is_open : Opened → Bool
is_open Nothing = false
is_open (Frame f) = true
is_open Request = true
is_open Response = true

-- what is known of a transfer: "Kind 2 opens identifier 60", "Kind 3 always opens identifier 61", both of "length 8"; "Identifiers
-- 60 to 63 use classic (000); the others as the table says."; the master sends the response of "published frames and kind 2"
unfoldable pub format_of : List ℕ → Opened → Format
format_of t Nothing = record { identifier = 0; length = 0; model = Classic; sends = false }
format_of t (Frame f) = record { identifier = identifier t f; length = frame_length t f; model = frame_model t f; sends = published t f }
format_of t Request = record { identifier = 60; length = 8; model = Classic; sends = true }
format_of t Response = record { identifier = 61; length = 8; model = Classic; sends = false }

abbrev pub open_identifier : List ℕ → Opened → ℕ
open_identifier t o = (format_of t o).identifier

-- the data bytes of a transfer
abbrev pub open_length : List ℕ → Opened → ℕ
open_length t o = (format_of t o).length

abbrev pub open_model : List ℕ → Opened → Model
open_model t o = (format_of t o).model

-- the master sends the response
abbrev pub sends : List ℕ → Opened → Bool
sends t o = (format_of t o).sends

-- the protected identifier of a transfer
unfoldable pub open_protected : List ℕ → Opened → ℕ
open_protected t o = protected_byte (open_identifier t o)

-- the checksum that a transfer has over its data
unfoldable pub open_checksum : List ℕ → Opened → List ℕ → ℕ
open_checksum t o ds = checksum_byte (open_identifier t o) (open_model t o) ds

-- the data of a frame in the buffer: "eight a frame"
unfoldable pub frame_data : List ℕ → List ℕ → ℕ → List ℕ
frame_data t bs f = take (frame_length t f) (drop (8 * f) bs)

-- "a frame is cut from the bytes lent when it opens"; there is none where no message is being sent
abbrev pub request_data : state.Message → List ℕ → List ℕ
request_data message.None m = replicate 8 255
request_data (message.Sending x) m = cut_bytes (cut_of x.nad m x.next)
request_data message.Completed m = replicate 8 255
request_data message.Failed m = replicate 8 255

-- the data that the master sends in a transfer
unfoldable pub sent_data : List ℕ → List ℕ → state.Message → List ℕ → Opened → List ℕ
sent_data t bs x m Nothing = []
sent_data t bs x m (Frame f) = frame_data t bs f
sent_data t bs x m Request = request_data x m
sent_data t bs x m Response = []

-- data and checksum; the unused ones of the nine bytes are 255
unfoldable pub copied : List ℕ → Opened → List ℕ → List ℕ
copied t o ds = ds ++ (open_checksum t o ds ∷ replicate (8 - length ds) 255)

-- "Opening .., for published frames and kind 2, copies data and checksum into the state"
unfoldable pub opening : List ℕ → List ℕ → state.Message → List ℕ → Opened → Transfer
opening t bs x m o =
    record {
      opened = o;
      count = 0;
      bytes = cond (sends t o) (copied t o (sent_data t bs x m o)) (replicate 9 255);
      written = false;
    }
