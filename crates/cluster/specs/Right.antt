-- Document 01, "The cluster table", and document 02, Req 03: which words are right, "every word judged by itself and the words
-- before it". The columns of each
-- record, and the list of all of them in the paper's order: element i says whether the word at position i is right.
use Rattle.std.specs.Prelude.{ℕ, zero, suc, ◌+◌, ◌*◌, Bool, false, not, cond, ◌&&◌, List, [], ◌∷◌, ◌++◌, leb, eqb}
use Rattle.std.specs.Bool.{beq}
use Rattle.cluster.specs.Table.{frame_count, signal_count, member_count, entry_count, placement_count, counted, list_count, placed_signals}
use Rattle.cluster.specs.Table.{identifier, frame_length, flags, published}
use Rattle.cluster.specs.Table.{signal_kind, signal_width, signal_start, is_array, placement_signal, placement_frame, placement_offset}
use Rattle.cluster.specs.Table.{member_list, member_frame, entry_schedule, entry_kind, entry_target, entry_delay}
use Rattle.cluster.specs.Places.{any_below, places, covers}
use Rattle.cluster.specs.Columns.{header_columns, frame_columns, signal_columns, follows, placement_columns, member_columns, entry_columns}

-- an earlier record has the number that record k has
abbrev pub earlier : (ℕ → ℕ) → ℕ → Bool
earlier number k = any_below k (λ j. eqb (number j) (number k))

unfoldable pub header_right : List ℕ → List Bool
header_right t = header_columns (frame_count t) (signal_count t) (member_count t) (entry_count t) (placement_count t)

unfoldable pub frame_right : List ℕ → ℕ → List Bool
frame_right t f = frame_columns (earlier (identifier t) f) (identifier t f) (frame_length t f) (flags t f)

unfoldable pub signal_right : List ℕ → ℕ → List Bool
signal_right t s = signal_columns (signal_kind t s) (signal_width t s) (signal_start t s)

-- the number of record k follows those of the records before it
abbrev pub counts_up : (ℕ → ℕ) → ℕ → Bool
counts_up number k = follows (counted number k) (number k)

-- an earlier placement of the same signal has a property
unfoldable pub earlier_placement : List ℕ → ℕ → (ℕ → Bool) → Bool
earlier_placement t k test = any_below k (λ j. places t (placement_signal t k) j && test j)

-- an earlier placement of the same signal is in the same frame
unfoldable pub again : List ℕ → ℕ → Bool
again t k = earlier_placement t k (λ j. eqb (placement_frame t j) (placement_frame t k))

-- an earlier placement of the same signal is in a frame of the other publisher
unfoldable pub mixed : List ℕ → ℕ → Bool
mixed t k = earlier_placement t k (λ j. not (beq (published t (placement_frame t j)) (published t (placement_frame t k))))

-- the bits of the frame that a placement stands in
abbrev pub frame_bits : List ℕ → ℕ → ℕ
frame_bits t k = 8 * frame_length t (placement_frame t k)

-- some bit of a placement that begins inside its frame stands behind the frame's bits; no signal has more than 64, so none stands behind bit 127
unfoldable pub sticks_out : List ℕ → ℕ → Bool
sticks_out t k = any_below 128 (λ j. covers t k (64 * placement_frame t k + j) && leb (frame_bits t k) j)

-- bit j of the buffer belongs to one of the first n placements
unfoldable pub occupied_before : List ℕ → ℕ → ℕ → Bool
occupied_before t n j = any_below n (λ k. covers t k j)

-- some bit of a placement belongs to an earlier one
unfoldable pub overlaps : List ℕ → ℕ → Bool
overlaps t k = any_below (64 * frame_count t) (λ j. covers t k j && occupied_before t k j)

unfoldable pub placement_right : List ℕ → ℕ → List Bool
placement_right t k =
    placement_columns (signal_count t) (frame_count t) (counts_up (placement_signal t) k) (again t k) (mixed t k)
    (is_array t (placement_signal t k)) (frame_bits t k) (sticks_out t k) (overlaps t k)
    (placement_signal t k) (placement_frame t k) (placement_offset t k)

-- each signal has a placement
unfoldable pub all_placed : List ℕ → Bool
all_placed t = leb (signal_count t) (placed_signals t)

unfoldable pub member_right : List ℕ → ℕ → List Bool
member_right t m =
    member_columns (frame_count t) (counts_up (member_list t) m)
    (published t (member_frame t m)) (earlier (member_frame t) m) (member_frame t m)

unfoldable pub entry_right : List ℕ → ℕ → List Bool
entry_right t e =
    entry_columns (frame_count t) (list_count t) (counts_up (entry_schedule t) e) (entry_kind t e) (entry_target t e) (entry_delay t e)

-- ---- the whole table

-- the words of n records from record k on
unfoldable pub records : ℕ → ℕ → (ℕ → List Bool) → List Bool
records k zero right = []
records k (suc n) right = right k ++ records (suc k) n right

-- "Then, in this order": frames, signals, and the placements behind them
unfoldable pub front_right : List ℕ → List Bool
front_right t =
    header_right t
    ++ records 0 (frame_count t) (frame_right t)
    ++ records 0 (signal_count t) (signal_right t)
    ++ records 0 (placement_count t) (placement_right t)

-- members, entries
unfoldable pub back_right : List ℕ → List Bool
back_right t = records 0 (member_count t) (member_right t) ++ records 0 (entry_count t) (entry_right t)

-- "so a missing one shows at the word that skips it or directly behind the last": whatever word stands there, or none
unfoldable pub words_right : List ℕ → List Bool
words_right t = front_right t ++ cond (all_placed t) (back_right t) (false ∷ [])
