-- Document 01, "Refusal numbers", and those of document 02: each number by name, and the refusal that an answer carries.
use Rattle.std.specs.Prelude.{ℕ, Bool, ◌&&◌, ◌||◌, List, [], ◌∷◌, leb, eqb}
use Rattle.refusal.specs.declared.Refusal.{Refusal}

-- 1: the table check finds a fault
abbrev pub table : ℕ
table = 1

-- 2: the frame buffer isn't 8F bytes, or a message buffer is shorter than its open message
abbrev pub buffer : ℕ
buffer = 2

-- 3: the state doesn't fit the table
abbrev pub state : ℕ
state = 3

-- 4: no such signal, schedule, or frame in a list
abbrev pub unknown : ℕ
unknown = 4

-- 5: write to a signal the master doesn't publish
abbrev pub not_published : ℕ
not_published = 5

-- 6: scalar call on an array or the reverse
abbrev pub kind : ℕ
kind = 6

-- 7: value of 2^width or more; array of another length
abbrev pub value : ℕ
value = 7

-- 8: byte in with no transfer open
abbrev pub no_transfer : ℕ
no_transfer = 8

-- 9: message length 0 or above 4,095
abbrev pub message_length : ℕ
message_length = 9

-- 10: send while a message is being sent
abbrev pub sending : ℕ
sending = 10

-- 11: identifier above 63; data length 0 or above 8; a frame for the reassembler not of eight bytes; wrong parity
abbrev pub frame : ℕ
frame = 11

-- 12: rows of unequal length
abbrev pub rows : ℕ
rows = 12

-- 13: a tick or bit time of 0 or above 65,535
abbrev pub time : ℕ
time = 13

-- the table's first column, and the numbers that the requests add
abbrev pub numbers : List ℕ
numbers =
    table
    ∷ buffer
    ∷ state
    ∷ unknown
    ∷ not_published
    ∷ kind
    ∷ value
    ∷ no_transfer
    ∷ message_length
    ∷ sending
    ∷ frame
    ∷ rows
    ∷ time
    ∷ []

-- "return only the number": a refusal with no place
abbrev pub refused : ℕ → Refusal
refused n = record { number = n; place = 0 }

-- "1 also the position", "the number of the first bad pair, with its place": a refusal at a place
abbrev pub refused_at : ℕ → ℕ → Refusal
refused_at n p = record { number = n; place = p }

-- "1 also the position"; of a row of values "the number of the first bad pair, with its place, by 4 to 7": whether a number is given with a place, by a
-- row of values or by any other call
unfoldable pub tells_place : Bool → ℕ → Bool
tells_place row n = eqb n 1 || (row && (leb 4 n && leb n 7))
