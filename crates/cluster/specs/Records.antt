-- The records of the placements of a table, and those of its entries, each as a list of their own.
use Rattle.std.specs.Prelude.{ℕ, ◌+◌, ◌<◌, ◌≡◌, List, length, get_or}
use Rattle.cluster.specs.Table.{word, placement_count, placement_at}
use Rattle.cluster.specs.Table.{entry_count, entry_schedule, entry_kind, entry_target, entry_delay}

-- one for each placement, in order, with the three words that stand at its place: signal, frame, offset
pub record PlacementRecords (t : List ℕ) (xs : List (List ℕ)) : Type 0 where
  pub all : length xs ≡ placement_count t
  pub each : (k i : ℕ) (d : List ℕ) → k < placement_count t → i < 3 → get_or (get_or xs k d) i 0 ≡ word t (placement_at t k + i)

-- one for each entry, in order, with its four words: schedule, kind, target, delay
pub record EntryRecords (t : List ℕ) (xs : List (List ℕ)) : Type 0 where
  pub all : length xs ≡ entry_count t
  pub schedule : (e : ℕ) (d : List ℕ) → e < entry_count t → get_or (get_or xs e d) 0 0 ≡ entry_schedule t e
  pub kind : (e : ℕ) (d : List ℕ) → e < entry_count t → get_or (get_or xs e d) 1 0 ≡ entry_kind t e
  pub target : (e : ℕ) (d : List ℕ) → e < entry_count t → get_or (get_or xs e d) 2 0 ≡ entry_target t e
  pub delay : (e : ℕ) (d : List ℕ) → e < entry_count t → get_or (get_or xs e d) 3 0 ≡ entry_delay t e
