-- Fit, bit by bit: a placement that begins inside its frame has a bit behind the frame's exactly where it ends behind them.
use Prim.Native.Nat.{ℕ, ◌+◌, ◌-◌, ◌*◌, ◌≤◌, ◌<◌}
use mathlib.Core.Path.{◌≡◌, sym, ◌∙◌}
use mathlib.Core.Bool.{Bool, false, ◌&&◌}
use mathlib.Core.List.{List}
use native.Mathlib.Omega.{arith}
use borrow.Author.Tests.{ltb-true, ltb-false, le-leb, leb-true}
use lib.Dec.{ltb, leb}
use Rattle.wire.proofs.Tests.{whether, and_left, and_right}
use Rattle.signal.proofs.Inside.{inside_true}
use Rattle.cluster.specs.Places.{place_of, covers}
use Rattle.cluster.specs.Right.{frame_bits, sticks_out}
use Rattle.cluster.specs.Table.{placement_frame, placement_offset, placement_width}
use Rattle.cluster.proofs.Any.{any_at, any_none}
use Rattle.cluster.proofs.Occupied.{covers_own, covered_from}

module _ (t : List ℕ) (k : ℕ) (begins : placement_offset t k < frame_bits t k) (short : frame_bits t k ≤ 64) (narrow : placement_width t k ≤ 64) where
  abbrev behind : ℕ → Bool
  behind j = covers t k (64 * placement_frame t k + j) && leb (frame_bits t k) j

  pub out_is : sticks_out t k ≡ ltb (frame_bits t k) (placement_offset t k + placement_width t k)
  unfolding sticks_out place_of
  out_is =
      let o = placement_offset t k in
      let w = placement_width t k in
      let bits = frame_bits t k in
      whether (ltb bits (o + w))
      (λ y. let b = ltb-true bits (o + w) y in
      let j = o + w - 1 in
      let own = covers_own t k j ∙ inside_true o w j (omega arith) (omega arith) in
      any_at 128 behind j (omega arith) (rw own (le-leb bits j (omega arith))) ∙ sym y)
      (λ n. let b = ltb-false bits (o + w) n in
      any_none 128 behind (λ j h. whether (behind j)
      (λ y.
      let at = covered_from t k (64 * placement_frame t k + j) (and_left (covers t k (64 * placement_frame t k + j)) (leb bits j) y) in
      let low = leb-true bits j (and_right (covers t k (64 * placement_frame t k + j)) (leb bits j) y) in
      absurd (omega arith))
      (λ z. z)) ∙ sym n)

  -- none is: it ends inside
  pub not_out : sticks_out t k ≡ false → placement_offset t k + placement_width t k ≤ frame_bits t k
  not_out h = ltb-false (frame_bits t k) (placement_offset t k + placement_width t k) (sym out_is ∙ h)
