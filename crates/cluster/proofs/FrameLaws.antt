-- Laws of an accepted table's frames: identifiers, lengths and flags.
use Prim.Native.Nat.{ℕ, ◌≤◌, ◌<◌}
use mathlib.Core.Path.{◌≡◌}
use mathlib.Core.Bool.{false}
use mathlib.Core.List.{List}
use borrow.Author.Tests.{leb-true}
use Rattle.cluster.specs.Check.{RightTable}
use Rattle.cluster.specs.Columns.{frame_columns}
use Rattle.cluster.specs.Right.{earlier, frame_right}
use Rattle.cluster.specs.Table.{identifiers, frame_count, identifier, frame_length, flags}
use Rattle.cluster.proofs.Accepted.{frame_right_lem}
use Rattle.cluster.proofs.Clauses.{within_low, within_high, identifier_says}
use Rattle.cluster.proofs.Earlier.{distinct}

module _ (t : List ℕ) (ok : RightTable t) where
  identifier_new : (f : ℕ) → f < frame_count t → (identifier t f < identifiers) × (earlier (identifier t) f ≡ false)
  unfolding frame_right frame_columns
  identifier_new f h = identifier_says (earlier (identifier t) f) (identifier t f) (frame_right_lem t ok f h).0

  -- identifiers are below 60
  pub identifier_below : (f : ℕ) → f < frame_count t → identifier t f < 60
  identifier_below f h = (identifier_new f h).0

  -- no two frames have the same identifier
  pub identifiers_distinct : (f g : ℕ) → f < frame_count t → g < frame_count t → identifier t f ≡ identifier t g → f ≡ g
  identifiers_distinct = distinct (identifier t) (frame_count t) (λ f h. (identifier_new f h).1)

  -- a frame has at least one byte
  pub frame_length_low : (f : ℕ) → f < frame_count t → 1 ≤ frame_length t f
  unfolding frame_right frame_columns
  frame_length_low f h = within_low 1 8 (frame_length t f) (frame_right_lem t ok f h).1.0

  -- a frame has at most eight bytes
  pub frame_length_high : (f : ℕ) → f < frame_count t → frame_length t f ≤ 8
  unfolding frame_right frame_columns
  frame_length_high f h = within_high 1 8 (frame_length t f) (frame_right_lem t ok f h).1.0

  -- a frame's flags are two bits
  pub flags_high : (f : ℕ) → f < frame_count t → flags t f ≤ 3
  unfolding frame_right frame_columns
  flags_high f h = leb-true (flags t f) 3 (frame_right_lem t ok f h).1.1.0
