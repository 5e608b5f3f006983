-- Laws of an accepted table's signals, each for every signal of the table.
use Prim.Native.Nat.{ℕ, ◌*◌, ◌%◌, ◌^◌, ◌≤◌, ◌<◌}
use mathlib.Core.Path.{◌≡◌}
use mathlib.Core.Bool.{true, false}
use mathlib.Core.List.{List}
use native.Mathlib.Omega.{arith}
use borrow.Author.Tests.{ltb-true, leb-true}
use Rattle.cluster.specs.Check.{RightTable}
use Rattle.cluster.specs.Columns.{width_right, start_limit, signal_columns}
use Rattle.cluster.specs.Fresh.{array_length}
use Rattle.cluster.specs.Right.{signal_right}
use Rattle.cluster.specs.Table.{signal_count, signal_kind, signal_width, signal_start, is_array}
use Rattle.cluster.proofs.Accepted.{signal_right_lem}
use Rattle.cluster.proofs.Widths.{scalar_width_lem, array_width, width_range}

module _ (t : List ℕ) (ok : RightTable t) (s : ℕ) (h : s < signal_count t) where
  -- a width is one of its kind
  pub width_right_lem : width_right (is_array t s) (signal_width t s) ≡ true
  unfolding signal_right signal_columns is_array
  width_right_lem = (signal_right_lem t ok s h).1.0

  -- a signal has at least one bit and at most 64
  pub signal_width_lem : (1 ≤ signal_width t s) × (signal_width t s ≤ 64)
  signal_width_lem = width_range (is_array t s) (signal_width t s) width_right_lem

  start_right_lem : signal_start t s < start_limit (is_array t s) (signal_width t s)
  unfolding signal_right signal_columns is_array
  start_right_lem = ltb-true (signal_start t s) (start_limit (is_array t s) (signal_width t s)) (signal_right_lem t ok s h).1.1.0

  -- a signal is a scalar, 0, or an array, 1
  pub signal_kind_high : signal_kind t s ≤ 1
  unfolding signal_right signal_columns
  signal_kind_high = leb-true (signal_kind t s) 1 (signal_right_lem t ok s h).0

  scalar : is_array t s ≡ false → (1 ≤ signal_width t s) × (signal_width t s ≤ 16)
  scalar k = scalar_width_lem (signal_width t s) (rw k at width_right_lem)

  -- a scalar has at least one bit
  pub scalar_width_low : is_array t s ≡ false → 1 ≤ signal_width t s
  scalar_width_low k = (scalar k).0

  -- a scalar has at most 16 bits
  pub scalar_width_high : is_array t s ≡ false → signal_width t s ≤ 16
  scalar_width_high k = (scalar k).1

  -- a scalar's start value fits its bits
  pub scalar_start_below : is_array t s ≡ false → signal_start t s < 2 ^ signal_width t s
  unfolding start_limit
  scalar_start_below k = rw k at start_right_lem

  array : is_array t s ≡ true → (8 ≤ signal_width t s) × (signal_width t s ≤ 64) × (signal_width t s % 8 ≡ 0)
  array k = array_width (signal_width t s) (rw k at width_right_lem)

  -- an array has at least one byte
  pub array_width_low : is_array t s ≡ true → 8 ≤ signal_width t s
  array_width_low k = (array k).0

  -- an array has at most eight bytes
  pub array_width_high : is_array t s ≡ true → signal_width t s ≤ 64
  array_width_high k = (array k).1

  -- an array has whole bytes
  pub array_width_whole : is_array t s ≡ true → signal_width t s % 8 ≡ 0
  array_width_whole k = (array k).2

  -- the bytes of an array have as many bits as the signal
  pub array_bits : is_array t s ≡ true → 8 * array_length t s ≡ signal_width t s
  unfolding array_length
  array_bits k = omega (arith, array k)

  -- an array's start value is a byte
  pub array_start_high : is_array t s ≡ true → signal_start t s ≤ 255
  unfolding start_limit
  array_start_high k = let below : signal_start t s < 256 = rw k at start_right_lem in omega arith
