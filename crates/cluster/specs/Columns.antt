-- Document 01, "The cluster table", and document 02, Req 03: the columns of each record, over its words and what is known of the
-- words before. What is right
-- (specs/Right) takes them over the fields of a table, and the check over the words that it reads, with its marks.
use Rattle.std.specs.Prelude.{ℕ, zero, suc, ◌%◌, ◌^◌, Bool, true, not, cond, ◌&&◌, ◌||◌, List, [], ◌∷◌, ltb, leb, eqb}
use Rattle.cluster.specs.Table.{most_frames, most_signals, most_members, most_entries, most_placements, identifiers}

-- a..b
abbrev pub within : ℕ → ℕ → ℕ → Bool
within a b x = leb a x && leb x b

-- ---- the header

-- "frames F (0..60), signals S (0..256), list members M (0..60), schedule entries E (0..256)", "a fifth word P (0..512)"
unfoldable pub header_columns : ℕ → ℕ → ℕ → ℕ → ℕ → List Bool
header_columns frames signals members entries placements =
    leb frames most_frames
    ∷ leb signals most_signals
    ∷ leb members most_members
    ∷ leb entries most_entries
    ∷ leb placements most_placements
    ∷ []

-- ---- a frame

-- "identifier 0..59, not used earlier"
abbrev pub identifier_right : Bool → ℕ → Bool
identifier_right used id = ltb id identifiers && not used

-- "length 1..8"
abbrev pub length_right : ℕ → Bool
length_right bytes = within 1 8 bytes

-- "flags 0..3"
abbrev pub flags_right : ℕ → Bool
flags_right flags = leb flags 3

unfoldable pub frame_columns : Bool → ℕ → ℕ → ℕ → List Bool
frame_columns used id bytes flags = identifier_right used id ∷ length_right bytes ∷ flags_right flags ∷ []

-- ---- a signal

-- "kind 0 scalar, 1 array"
abbrev pub signal_kind_right : ℕ → Bool
signal_kind_right kind = leb kind 1

-- "width 1..16, for arrays 8..64 in eights"
unfoldable pub width_right : Bool → ℕ → Bool
width_right array width = cond array (within 8 64 width && eqb (width % 8) 0) (within 1 16 width)

-- "start value below 2^width, for arrays 0..255"
unfoldable pub start_limit : Bool → ℕ → ℕ
start_limit array width = cond array 256 (2 ^ width)

abbrev pub start_right : Bool → ℕ → ℕ → Bool
start_right array width start = ltb start (start_limit array width)

unfoldable pub signal_columns : ℕ → ℕ → ℕ → List Bool
signal_columns kind width start =
    signal_kind_right kind
    ∷ width_right (eqb kind 1) width
    ∷ start_right (eqb kind 1) width start
    ∷ []

-- ---- numbers that count up

-- "first 0, then equal to the previous one or one more", of a signal, list or schedule number; `count` is one more than the previous one
unfoldable pub follows : ℕ → ℕ → Bool
follows zero number = eqb number 0
follows (suc previous) number = eqb number previous || eqb number (suc previous)

-- ---- a placement

-- "in ascending signal order", and the signal is there
abbrev pub placement_signal_right : ℕ → Bool → ℕ → Bool
placement_signal_right signals up signal = up && ltb signal signals

-- "frame number < F"; refusal 1 covers "two in one frame, or mixed publishers"
abbrev pub placement_frame_right : ℕ → Bool → Bool → ℕ → Bool
placement_frame_right frames again mixed frame = ltb frame frames && not again && not mixed

-- "offset below 8 x length, for arrays a multiple of 8"
unfoldable pub offset_right : Bool → ℕ → ℕ → Bool
offset_right array bits offset = ltb offset bits && cond array (eqb (offset % 8) 0) true

-- "fit and overlap are judged at the offset word"
abbrev pub placement_offset_right : Bool → ℕ → Bool → Bool → ℕ → Bool
placement_offset_right array bits out overlap offset = offset_right array bits offset && not out && not overlap

unfoldable pub placement_columns : ℕ → ℕ → Bool → Bool → Bool → Bool → ℕ → Bool → Bool → ℕ → ℕ → ℕ → List Bool
placement_columns signals frames up again mixed array bits out overlap signal frame offset =
    placement_signal_right signals up signal
    ∷ placement_frame_right frames again mixed frame
    ∷ placement_offset_right array bits out overlap offset
    ∷ []

-- ---- a member

-- "frame number, master-published, no earlier member"
abbrev pub member_frame_right : ℕ → Bool → Bool → ℕ → Bool
member_frame_right frames published listed frame = ltb frame frames && published && not listed

unfoldable pub member_columns : ℕ → Bool → Bool → Bool → ℕ → List Bool
member_columns frames up published listed frame = up ∷ member_frame_right frames published listed frame ∷ []

-- ---- an entry

-- "kind 0 frame, 1 list, 2 request, 3 response"
abbrev pub entry_kind_right : ℕ → Bool
entry_kind_right kind = leb kind 3

-- "target (frame < F, existing list, or 0 for kinds 2 and 3)"
unfoldable pub target_right : ℕ → ℕ → ℕ → ℕ → Bool
target_right frames lists zero target = ltb target frames
target_right frames lists (suc zero) target = ltb target lists
target_right frames lists (suc (suc kind)) target = eqb target 0

-- "delay 1..65535 ticks"
abbrev pub delay_right : ℕ → Bool
delay_right delay = within 1 65535 delay

unfoldable pub entry_columns : ℕ → ℕ → Bool → ℕ → ℕ → ℕ → List Bool
entry_columns frames lists up kind target delay =
    up ∷ entry_kind_right kind ∷ target_right frames lists kind target ∷ delay_right delay ∷ []
