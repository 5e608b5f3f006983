-- Document 01, "The cluster table", and document 02, Req 03: where each word stands, and every field by its name. A word that is
-- not there reads as 0.
use Rattle.std.specs.Prelude.{ℕ, zero, suc, ◌+◌, ◌*◌, Bool, cond, List, eqb, get_or}
use Rattle.wire.specs.Bits.{bit}
use Rattle.wire.specs.declared.checksum.Model.{Model}
use Rattle.wire.specs.declared.checksum.Model.TheVariants.{Classic, Enhanced}

unfoldable pub word : List ℕ → ℕ → ℕ
word t i = get_or t i 0

-- ---- "Words 0 to 3: frames F, signals S, list members M, schedule entries E"; "The header gains a fifth word P"

unfoldable pub frame_count : List ℕ → ℕ
frame_count t = word t 0

unfoldable pub signal_count : List ℕ → ℕ
signal_count t = word t 1

unfoldable pub member_count : List ℕ → ℕ
member_count t = word t 2

unfoldable pub entry_count : List ℕ → ℕ
entry_count t = word t 3

unfoldable pub placement_count : List ℕ → ℕ
placement_count t = word t 4

-- ---- "frames F (0..60), signals S (0..256), list members M (0..60), schedule entries E (0..256)", "P (0..512)"

abbrev pub most_frames : ℕ
most_frames = 60

abbrev pub most_signals : ℕ
most_signals = 256

abbrev pub most_members : ℕ
most_members = 60

abbrev pub most_entries : ℕ
most_entries = 256

abbrev pub most_placements : ℕ
most_placements = 512

-- "identifier 0..59": how many identifiers there are for frames
abbrev pub identifiers : ℕ
identifiers = 60

-- ---- the words of the header and of each record, and where a record begins

abbrev pub header_words : ℕ
header_words = 5

abbrev pub frame_words : ℕ
frame_words = 3

abbrev pub signal_words : ℕ
signal_words = 3

abbrev pub placement_words : ℕ
placement_words = 3

abbrev pub member_words : ℕ
member_words = 2

abbrev pub entry_words : ℕ
entry_words = 4

abbrev pub frame_at : ℕ → ℕ
frame_at f = header_words + frame_words * f

abbrev pub signal_at : List ℕ → ℕ → ℕ
signal_at t s = frame_at (frame_count t) + signal_words * s

-- "the placements stand behind the signals"
abbrev pub placement_at : List ℕ → ℕ → ℕ
placement_at t k = signal_at t (signal_count t) + placement_words * k

abbrev pub member_at : List ℕ → ℕ → ℕ
member_at t m = placement_at t (placement_count t) + member_words * m

abbrev pub entry_at : List ℕ → ℕ → ℕ
entry_at t e = member_at t (member_count t) + entry_words * e

-- behind the last record the table ends: the length is exactly 5 + 3F + 3S + 3P + 2M + 4E
unfoldable pub size : List ℕ → ℕ
size t = entry_at t (entry_count t)

-- ---- a frame: identifier, length, flags

unfoldable pub identifier : List ℕ → ℕ → ℕ
identifier t f = word t (frame_at f)

unfoldable pub frame_length : List ℕ → ℕ → ℕ
frame_length t f = word t (frame_at f + 1)

unfoldable pub flags : List ℕ → ℕ → ℕ
flags t f = word t (frame_at f + 2)

-- "bit 0: master publishes"
unfoldable pub published : List ℕ → ℕ → Bool
published t f = bit (flags t f) 0

-- "bit 1: classic"
unfoldable pub classic : List ℕ → ℕ → Bool
classic t f = bit (flags t f) 1

-- the checksum of a frame, "as the table says"
abbrev pub frame_model : List ℕ → ℕ → Model
frame_model t f = cond (classic t f) Classic Enhanced

-- ---- a signal: "the signal record keeps kind, width and start value"

unfoldable pub signal_kind : List ℕ → ℕ → ℕ
signal_kind t s = word t (signal_at t s)

unfoldable pub signal_width : List ℕ → ℕ → ℕ
signal_width t s = word t (signal_at t s + 1)

unfoldable pub signal_start : List ℕ → ℕ → ℕ
signal_start t s = word t (signal_at t s + 2)

-- "kind 0 scalar, 1 array"
unfoldable pub is_array : List ℕ → ℕ → Bool
is_array t s = eqb (signal_kind t s) 1

-- ---- "a placement record of signal, frame and offset"

unfoldable pub placement_signal : List ℕ → ℕ → ℕ
placement_signal t k = word t (placement_at t k)

unfoldable pub placement_frame : List ℕ → ℕ → ℕ
placement_frame t k = word t (placement_at t k + 1)

unfoldable pub placement_offset : List ℕ → ℕ → ℕ
placement_offset t k = word t (placement_at t k + 2)

-- the bits of a placement are as many as its signal's
unfoldable pub placement_width : List ℕ → ℕ → ℕ
placement_width t k = signal_width t (placement_signal t k)

-- ---- a member: list number, frame number

unfoldable pub member_list : List ℕ → ℕ → ℕ
member_list t m = word t (member_at t m)

unfoldable pub member_frame : List ℕ → ℕ → ℕ
member_frame t m = word t (member_at t m + 1)

-- ---- an entry: schedule number, kind, target, delay

unfoldable pub entry_schedule : List ℕ → ℕ → ℕ
entry_schedule t e = word t (entry_at t e)

unfoldable pub entry_kind : List ℕ → ℕ → ℕ
entry_kind t e = word t (entry_at t e + 1)

unfoldable pub entry_target : List ℕ → ℕ → ℕ
entry_target t e = word t (entry_at t e + 2)

unfoldable pub entry_delay : List ℕ → ℕ → ℕ
entry_delay t e = word t (entry_at t e + 3)

-- ---- how many signals have placements, and how many lists and schedules there are: one more than the last record's number, and
-- none without a record

unfoldable pub counted : (ℕ → ℕ) → ℕ → ℕ
counted number zero = 0
counted number (suc k) = suc (number k)

unfoldable pub placed_signals : List ℕ → ℕ
placed_signals t = counted (placement_signal t) (placement_count t)

unfoldable pub list_count : List ℕ → ℕ
list_count t = counted (member_list t) (member_count t)

unfoldable pub schedule_count : List ℕ → ℕ
schedule_count t = counted (entry_schedule t) (entry_count t)
