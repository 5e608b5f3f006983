-- So many bytes were taken.
use Prim.Native.Nat.{◌+◌}
use mathlib.Core.Path.{◌≡◌}
use lib.ListN.{length, take}
use Rattle.desk.specs.Taken.{byte_at, each}
use Rattle.desk.proofs.state.nine.Given as goal

abbrev pub invariant-loop-i : goal.invariant-loop-i
invariant-loop-i l = (length l.place-items ≡ 9) × (take l.i l.place-items ≡ each (λ k. byte_at l.desk (65 + k)) l.i)
