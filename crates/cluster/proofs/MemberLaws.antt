-- Laws of an accepted table's list members: their frames, and their list numbers.
use Prim.Native.Nat.{ℕ, suc, ◌≤◌, ◌<◌}
use mathlib.Core.Path.{◌≡◌}
use mathlib.Core.Bool.{true, false}
use mathlib.Core.List.{List}
use mathlib.Core.Logic.{◌⊎◌}
use Rattle.cluster.specs.Check.{RightTable}
use Rattle.cluster.specs.Columns.{member_columns}
use Rattle.cluster.specs.Right.{earlier, member_right}
use Rattle.cluster.specs.Table.{frame_count, published, member_count, member_list, member_frame, list_count}
use Rattle.cluster.proofs.Accepted.{member_right_lem}
use Rattle.cluster.proofs.Clauses.{member_says}
use Rattle.cluster.proofs.CountingUp.{up_first, up_step, up_monotone, up_below, up_count, up_each}
use Rattle.cluster.specs.Passed.{CountsUp}
use Rattle.cluster.proofs.Earlier.{distinct}

module _ (t : List ℕ) (ok : RightTable t) where
  member_new : (m : ℕ) → m < member_count t
      → (member_frame t m < frame_count t) × (published t (member_frame t m) ≡ true) × (earlier (member_frame t) m ≡ false)
  unfolding member_right member_columns
  member_new m h =
      member_says (frame_count t) (published t (member_frame t m)) (earlier (member_frame t) m) (member_frame t m) (member_right_lem t ok m h).1.0

  list_right : CountsUp (member_list t) (member_count t)
  unfolding member_right member_columns
  list_right m h = (member_right_lem t ok m h).0

  -- a member is a frame of the table
  pub member_frame_below : (m : ℕ) → m < member_count t → member_frame t m < frame_count t
  member_frame_below m h = (member_new m h).0

  -- the master publishes a member
  pub member_published : (m : ℕ) → m < member_count t → published t (member_frame t m) ≡ true
  member_published m h = (member_new m h).1

  -- no frame is a member twice
  pub members_distinct : (k m : ℕ) → k < member_count t → m < member_count t → member_frame t k ≡ member_frame t m → k ≡ m
  members_distinct = distinct (member_frame t) (member_count t) (λ m h. (member_new m h).2)

  -- the first list is list 0
  pub list_first : 0 < member_count t → member_list t 0 ≡ 0
  list_first = up_first (member_list t) (member_count t) list_right

  -- the next member is of the same list or of the next one
  pub list_step : (m : ℕ) → suc m < member_count t
      → (member_list t (suc m) ≡ member_list t m) ⊎ (member_list t (suc m) ≡ suc (member_list t m))
  list_step = up_step (member_list t) (member_count t) list_right

  -- list numbers never fall
  pub list_monotone : (k m : ℕ) → k ≤ m → m < member_count t → member_list t k ≤ member_list t m
  list_monotone = up_monotone (member_list t) (member_count t) list_right

  -- a member's list is one of the table
  pub list_below : (m : ℕ) → m < member_count t → member_list t m < list_count t
  unfolding list_count
  list_below = up_below (member_list t) (member_count t) list_right

  -- each list of the table has a member
  pub list_member : (l : ℕ) → l < list_count t → (m : ℕ) × (m < member_count t) × (member_list t m ≡ l)
  unfolding list_count
  list_member = up_each (member_list t) (member_count t) list_right

  -- there are at most as many lists as members
  pub list_count_lem : list_count t ≤ member_count t
  unfolding list_count
  list_count_lem = up_count (member_list t) (member_count t) list_right
