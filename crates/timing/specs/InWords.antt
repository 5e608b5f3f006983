-- Document 02, Req 02, once more in the paper's own words and numbers, over the frames that an entry can open and not over a longest one.
-- The laws of proofs/JudgeExactly.antt hold the judge to it.
use Rattle.std.specs.Prelude.{ℕ, ◌+◌, ◌*◌, ◌≤◌, ◌<◌, ◌≡◌, List, ◌⊎◌}
use Rattle.cluster.specs.Table.{frame_length, member_count, member_list, member_frame, entry_kind, entry_target, entry_delay}

-- an entry can open a frame of so many data bytes: "Kind 0 opens its frame", kind 1 a member of its list, kind 2 identifier 60 and kind 3
-- identifier 61, both of "length 8"
pub data Opens (t : List ℕ) (e : ℕ) : ℕ → Type 0 where
  its_frame : entry_kind t e ≡ 0 → Opens t e (frame_length t (entry_target t e))
  its_member : entry_kind t e ≡ 1 → (m : ℕ) → m < member_count t → member_list t m ≡ entry_target t e → Opens t e (frame_length t (member_frame t m))
  the_request : entry_kind t e ≡ 2 → Opens t e 8
  the_response : entry_kind t e ≡ 3 → Opens t e 8

-- 1.4 times 34 + 10 (N + 1) bit times, a bit time in tenths of a microsecond, are no more than the slot's ticks, a tick in microseconds; both
-- sides are in hundredths of a microsecond
abbrev pub Fits : ℕ → ℕ → ℕ → ℕ → Type 0
Fits tick bit delay n = 14 * (34 + 10 * (n + 1)) * bit ≤ 100 * delay * tick

-- every frame that an entry can open fits its slot
abbrev pub Room : List ℕ → ℕ → ℕ → ℕ → Type 0
Room t tick bit e = (n : ℕ) → Opens t e n → Fits tick bit (entry_delay t e) n

-- an entry can open a frame that does not
abbrev pub NoRoom : List ℕ → ℕ → ℕ → ℕ → Type 0
NoRoom t tick bit e = (n : ℕ) × Opens t e n × (Fits tick bit (entry_delay t e) n → ⊥)

-- a time that is taken, and one "of 0 or above 65,535"
abbrev pub Time : ℕ → Type 0
Time x = (1 ≤ x) × (x ≤ 65535)

abbrev pub WrongTime : ℕ → Type 0
WrongTime x = (x ≡ 0) ⊎ (65535 < x)
