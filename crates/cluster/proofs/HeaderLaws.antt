-- Laws of an accepted table: how many records it has, and its length.
use Prim.Native.Nat.{ℕ, ◌+◌, ◌*◌, ◌≤◌}
use mathlib.Core.Path.{◌≡◌}
use mathlib.Core.List.{List}
use native.Mathlib.Omega.{arith}
use borrow.Author.Tests.{leb-true}
use lib.ListN.{length}
use Rattle.cluster.specs.Check.{RightTable}
use Rattle.cluster.specs.Columns.{header_columns}
use Rattle.cluster.specs.Right.{header_right}
use Rattle.cluster.specs.Table.{most_frames, most_signals, most_members, most_entries, most_placements}
use Rattle.cluster.specs.Table.{frame_count, signal_count, member_count, entry_count, placement_count, size}
use Rattle.cluster.proofs.Accepted.{AllTrue, exact, header_right_lem}

-- a header of which each word is right
pub header_counts : (t : List ℕ) → AllTrue (header_right t)
    → (frame_count t ≤ most_frames) × (signal_count t ≤ most_signals) × (member_count t ≤ most_members) × (entry_count t ≤ most_entries)
    × (placement_count t ≤ most_placements)
unfolding header_right header_columns
header_counts t right = (
  leb-true (frame_count t) most_frames right.0,
  leb-true (signal_count t) most_signals right.1.0,
  leb-true (member_count t) most_members right.1.1.0,
  leb-true (entry_count t) most_entries right.1.1.1.0,
  leb-true (placement_count t) most_placements right.1.1.1.1.0,
)

module _ (t : List ℕ) (ok : RightTable t) where
  -- at most 60 frames
  pub frame_count_lem : frame_count t ≤ 60
  frame_count_lem = (header_counts t (header_right_lem t ok)).0

  -- at most 256 signals
  pub signal_count_lem : signal_count t ≤ 256
  signal_count_lem = (header_counts t (header_right_lem t ok)).1

  -- at most 60 list members
  pub member_count_lem : member_count t ≤ 60
  member_count_lem = (header_counts t (header_right_lem t ok)).2

  -- at most 256 schedule entries
  pub entry_count_lem : entry_count t ≤ 256
  entry_count_lem = (header_counts t (header_right_lem t ok)).3

  -- at most 512 placements
  pub placement_count_lem : placement_count t ≤ 512
  placement_count_lem = (header_counts t (header_right_lem t ok)).4

  -- the length is exactly 5 + 3F + 3S + 3P + 2M + 4E
  pub table_length : length t ≡ 5 + 3 * frame_count t + 3 * signal_count t + 3 * placement_count t + 2 * member_count t + 4 * entry_count t
  unfolding size
  table_length = omega (arith, exact t ok)

  -- at most 3,633
  pub table_limit : length t ≤ 3633
  table_limit = omega (arith, table_length, frame_count_lem, signal_count_lem, member_count_lem, entry_count_lem, placement_count_lem)
