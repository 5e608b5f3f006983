-- What the steps of the check read and compute; only private contracts cite this.
use Rattle.std.specs.Prelude.{ℕ, zero, suc, ◌+◌, ◌<◌, ◌≤◌, ◌≡◌, Bool, true, cond, List, [], ◌∷◌, ltb, length, get_or}
use Rattle.wire.specs.Bits.{bit}
use Rattle.cluster.specs.Table.{most_frames, most_signals, most_members, most_entries, most_placements, word, frame_length, signal_width}
use Rattle.cluster.specs.Table.{is_array, placement_at}
use Rattle.cluster.specs.Table.{frame_count, signal_count, member_count, entry_count, placement_count}
use Rattle.cluster.specs.Columns.{width_right}
use Rattle.cluster.specs.Places.{any_below}

-- the word at a position, and 65536, which no column takes, where it is missing
unfoldable pub due : List ℕ → ℕ → ℕ
due t i = cond (ltb i (length t)) (word t i) 65536

-- the position of word j of a record
abbrev pub position : ℕ → ℕ → ℕ
position at zero = at
position at (suc j) = at + suc j

-- some words are the n of a record, from a position on
abbrev pub IsRecord : List ℕ → ℕ → ℕ → List ℕ → Type 0
IsRecord t at n words = (j : ℕ) → j < n → get_or words j 0 ≡ due t (position at j)

-- how many words are right before the first that is not
unfoldable pub leading : List Bool → ℕ
leading [] = 0
leading (right ∷ rest) = cond right (suc (leading rest)) 0

-- some bit of a field is set in the number of the occupied bits
unfoldable pub hits : ℕ → ℕ → ℕ → Bool
hits bits offset width = any_below width (λ k. bit bits (offset + k))

-- no count is above its limit
pub record InLimits (t : List ℕ) : Type 0 where
  pub frames : frame_count t ≤ most_frames
  pub signals : signal_count t ≤ most_signals
  pub members : member_count t ≤ most_members
  pub entries : entry_count t ≤ most_entries
  pub placements : placement_count t ≤ most_placements

-- the header, the frames and the signals are there and right, as far as the records behind them go by them
pub record RecordsBefore (t : List ℕ) : Type 0 where
  pub all : placement_at t 0 ≤ length t
  pub frames : frame_count t ≤ most_frames
  pub signals : signal_count t ≤ most_signals
  pub short : (f : ℕ) → f < frame_count t → frame_length t f ≤ 8
  pub widths : (s : ℕ) → s < signal_count t → width_right (is_array t s) (signal_width t s) ≡ true
