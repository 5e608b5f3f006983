-- Document 02, Req 02: whether the slots of a table hold their longest frames.
use Rattle.std.specs.Prelude.{ℕ, zero, suc, ◌*◌, max, Bool, cond, not, ◌&&◌, List, leb, eqb}
use Rattle.cluster.specs.Lists.{first_from}
use Rattle.cluster.specs.Table.{frame_length, member_count, member_list, member_frame, entry_count, entry_kind, entry_target, entry_delay}
use Rattle.timing.specs.FrameTime.{maximum_tenths}

-- a slot of so many ticks holds a frame of n data bytes; "All is compared in whole numbers": tenths of a bit, times a bit time in tenths of a
-- microsecond, are hundredths of a microsecond, and a slot's ticks, times a tick in microseconds, have 100 of them each
unfoldable pub slot_holds : ℕ → ℕ → ℕ → ℕ → Bool
slot_holds tick bit delay n = leb (maximum_tenths n * bit) (100 * delay * tick)

-- the data bytes of the longest member of list l among the first m members of all lists; 0 where none of them is of the list
unfoldable pub longest_member : List ℕ → ℕ → ℕ → ℕ
longest_member t l zero = 0
longest_member t l (suc m) =
    cond (eqb (member_list t m) l) (max (longest_member t l m) (frame_length t (member_frame t m))) (longest_member t l m)

-- the data bytes of an entry's longest frame: kind 0 has one; "A list slot needs room for its longest member"; kinds 2 and 3 have eight
unfoldable pub entry_bytes : List ℕ → ℕ → ℕ
entry_bytes t e =
    cond (eqb (entry_kind t e) 0) (frame_length t (entry_target t e))
    (cond (eqb (entry_kind t e) 1) (longest_member t (entry_target t e) (member_count t))
    8)

-- an entry's "slot holds its longest frame"
unfoldable pub entry_holds : List ℕ → ℕ → ℕ → ℕ → Bool
entry_holds t tick bit e = slot_holds tick bit (entry_delay t e) (entry_bytes t e)

-- "the first short entry"; the number of entries where there is none
unfoldable pub first_short : List ℕ → ℕ → ℕ → ℕ
first_short t tick bit = first_from (λ e. not (entry_holds t tick bit e)) 0 (entry_count t)

-- not "a tick or bit time of 0 or above 65,535"
unfoldable pub time_right : ℕ → Bool
time_right x = leb 1 x && leb x 65535
