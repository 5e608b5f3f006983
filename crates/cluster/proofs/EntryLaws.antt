-- Laws of an accepted table's schedule entries: their fields, and their schedule numbers.
use Prim.Native.Nat.{ℕ, zero, suc, ◌≤◌, ◌<◌}
use mathlib.Core.Path.{◌≡◌}
use mathlib.Core.Bool.{true}
use mathlib.Core.List.{List}
use mathlib.Core.Logic.{◌⊎◌}
use native.Mathlib.Omega.{arith}
use borrow.Author.Tests.{ltb-true, leb-true, eqb-true}
use Rattle.cluster.specs.Check.{RightTable}
use Rattle.cluster.specs.Columns.{target_right, entry_columns}
use Rattle.cluster.specs.Right.{entry_right}
use Rattle.cluster.specs.Table.{frame_count, list_count, entry_count, schedule_count}
use Rattle.cluster.specs.Table.{entry_schedule, entry_kind, entry_target, entry_delay}
use Rattle.cluster.proofs.Accepted.{entry_right_lem}
use Rattle.cluster.proofs.Clauses.{within_low, within_high}
use Rattle.cluster.proofs.CountingUp.{up_first, up_step, up_monotone, up_below, up_count, up_each}
use Rattle.cluster.specs.Passed.{CountsUp}

no_target : (frames lists kind target : ℕ) → 2 ≤ kind → target_right frames lists kind target ≡ true → target ≡ 0
unfolding target_right
no_target frames lists zero target h r = absurd (omega arith)
no_target frames lists (suc zero) target h r = absurd (omega arith)
no_target frames lists (suc (suc kind)) target h r = eqb-true target 0 r

module _ (t : List ℕ) (ok : RightTable t) where
  schedule_right : CountsUp (entry_schedule t) (entry_count t)
  unfolding entry_right entry_columns
  schedule_right e h = (entry_right_lem t ok e h).0

  target_right_lem : (e : ℕ) → e < entry_count t
      → target_right (frame_count t) (list_count t) (entry_kind t e) (entry_target t e) ≡ true
  unfolding entry_right entry_columns
  target_right_lem e h = (entry_right_lem t ok e h).1.1.0

  -- the first schedule is schedule 0
  pub schedule_first : 0 < entry_count t → entry_schedule t 0 ≡ 0
  schedule_first = up_first (entry_schedule t) (entry_count t) schedule_right

  -- the next entry is of the same schedule or of the next one
  pub schedule_step : (e : ℕ) → suc e < entry_count t
      → (entry_schedule t (suc e) ≡ entry_schedule t e) ⊎ (entry_schedule t (suc e) ≡ suc (entry_schedule t e))
  schedule_step = up_step (entry_schedule t) (entry_count t) schedule_right

  -- schedule numbers never fall
  pub schedule_monotone : (d e : ℕ) → d ≤ e → e < entry_count t → entry_schedule t d ≤ entry_schedule t e
  schedule_monotone = up_monotone (entry_schedule t) (entry_count t) schedule_right

  -- an entry's schedule is one of the table
  pub schedule_below : (e : ℕ) → e < entry_count t → entry_schedule t e < schedule_count t
  unfolding schedule_count
  schedule_below = up_below (entry_schedule t) (entry_count t) schedule_right

  -- each schedule of the table has an entry
  pub schedule_entry : (n : ℕ) → n < schedule_count t → (e : ℕ) × (e < entry_count t) × (entry_schedule t e ≡ n)
  unfolding schedule_count
  schedule_entry = up_each (entry_schedule t) (entry_count t) schedule_right

  -- there are at most as many schedules as entries
  pub schedule_count_lem : schedule_count t ≤ entry_count t
  unfolding schedule_count
  schedule_count_lem = up_count (entry_schedule t) (entry_count t) schedule_right

  -- an entry is for a frame, 0, a list, 1, a request, 2, or a response, 3
  pub entry_kind_high : (e : ℕ) → e < entry_count t → entry_kind t e ≤ 3
  unfolding entry_right entry_columns
  entry_kind_high e h = leb-true (entry_kind t e) 3 (entry_right_lem t ok e h).1.0

  -- the target of a frame entry is a frame of the table
  pub frame_target : (e : ℕ) → e < entry_count t → entry_kind t e ≡ 0 → entry_target t e < frame_count t
  unfolding target_right
  frame_target e h k = ltb-true (entry_target t e) (frame_count t) (rw k at (target_right_lem e h))

  -- the target of a list entry is a list of the table
  pub list_target : (e : ℕ) → e < entry_count t → entry_kind t e ≡ 1 → entry_target t e < list_count t
  unfolding target_right
  list_target e h k = ltb-true (entry_target t e) (list_count t) (rw k at (target_right_lem e h))

  -- the target of a request or response entry is 0
  pub other_target : (e : ℕ) → e < entry_count t → 2 ≤ entry_kind t e → entry_target t e ≡ 0
  other_target e h k = no_target (frame_count t) (list_count t) (entry_kind t e) (entry_target t e) k (target_right_lem e h)

  -- a delay is at least one tick
  pub delay_low : (e : ℕ) → e < entry_count t → 1 ≤ entry_delay t e
  unfolding entry_right entry_columns
  delay_low e h = within_low _ 65535 (entry_delay t e) (entry_right_lem t ok e h).1.1.1.0

  -- a delay is at most 65535 ticks
  pub delay_high : (e : ℕ) → e < entry_count t → entry_delay t e ≤ 65535
  unfolding entry_right entry_columns
  delay_high e h = within_high _ 65535 (entry_delay t e) (entry_right_lem t ok e h).1.1.1.0
