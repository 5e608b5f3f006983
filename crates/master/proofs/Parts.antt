-- The parts of buffers that are lent on: a frame's data, the data of nine bytes, the eight bytes of a request.
use Prim.Native.Nat.{ℕ, ◌+◌, ◌-◌, ◌*◌, ◌≤◌}
use mathlib.Core.Path.{◌≡◌, refl}
use mathlib.Core.Bool.{true}
use mathlib.Core.List.{List}
use native.Mathlib.Omega.{arith}
use lib.ListN.{length, take, drop}
use Rattle.cluster.specs.Table.{frame_count, frame_length}
use Rattle.cluster.specs.Check.{RightTable}
use Rattle.cluster.proofs.FrameLaws.{frame_length_low, frame_length_high}
use Rattle.master.specs.declared.state.Opened.TheVariants.{Frame}
use Rattle.master.specs.Admit.{buffer_size}
use Rattle.master.specs.Fits.{frame_there}
use Rattle.master.specs.Transfers.{frame_data}
use Rattle.master.proofs.Admitted.{frame_below}
use Rattle.master.proofs.OpenLaws.{frame_data_length}

pub buffer_size_is : (t : List ℕ) → buffer_size t ≡ 8 * frame_count t
unfolding buffer_size
buffer_size_is t = refl

module _ (t : List ℕ) (ok : RightTable t) (bs : List ℕ) (size : length bs ≡ buffer_size t) (f : ℕ) (there : frame_there t (Frame f) ≡ true)
    (n : ℕ) (e : n ≡ frame_length t f) where
  -- a frame's eight bytes are inside the buffer
  pub frame_end : 8 * f + 8 ≤ length bs
  frame_end = omega (arith, size, buffer_size_is t, frame_below t ok f there)

  pub part_end : 8 * f + n ≤ length bs
  part_end = omega (arith, frame_end, e, frame_length_high t ok f (frame_below t ok f there))

  -- the part lent on is the frame's data
  pub part_data : take (8 * f + n - 8 * f) (drop (8 * f) bs) ≡ frame_data t bs f
  unfolding frame_data
  part_data = let p : 8 * f + n - 8 * f ≡ n = omega arith in rw (p, e)

  part_length : length (take (8 * f + n - 8 * f) (drop (8 * f) bs)) ≡ n
  part_length = rw (part_data, e) (frame_data_length t ok bs f (frame_below t ok f there) size)

  pub part_low : 1 ≤ length (take (8 * f + n - 8 * f) (drop (8 * f) bs))
  part_low = omega (arith, part_length, e, frame_length_low t ok f (frame_below t ok f there))

  pub part_high : length (take (8 * f + n - 8 * f) (drop (8 * f) bs)) ≤ 8
  part_high = omega (arith, part_length, e, frame_length_high t ok f (frame_below t ok f there))
