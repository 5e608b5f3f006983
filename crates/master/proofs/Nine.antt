-- The bytes of a frame put back into the buffer.
use Prim.Native.Nat.{ℕ, ◌+◌, ◌-◌, ◌≤◌}
use mathlib.Core.Path.{◌≡◌}
use mathlib.Core.List.{List}
use native.Mathlib.Omega.{arith}
use lib.ListN.{length, take}
use borrow.Rule.Slice.PartMut.{put_mid}
use Rattle.transport.specs.Reassembly.{written}
use Rattle.transport.proofs.Bytes.{delivered}

-- the part of the buffer that was lent to take a frame's data, put back
pub stored : (b nine ys : List ℕ) (at n : ℕ) → at + n ≤ length b → n ≤ length nine → ys ≡ take n nine
    → put_mid at (at + n - at) b ys ≡ written b at (take n nine)
stored b nine ys at n h k e =
    let q : 0 + n - 0 ≡ n = omega arith in
    delivered b nine ys at 0 n (omega arith) (rw (e, q))
