-- Each arm is a case of the definition's test.
use Prim.Native.Nat.{◌+◌}
use native.Mathlib.Omega.{arith}
use borrow.Author.Tests.{lt-ltb, le-ltb}
use Rattle.wire.specs.Checksum.{with_carry}
use Rattle.wire.proofs.checksum.with_carry.Goals as goal

pub returns-then-added-gt255 : goal.returns-then-added-gt255
unfolding with_carry
returns-then-added-gt255 c = simp (le-ltb (c.args.sum + c.args.byte) 256 (omega arith))

pub returns-else-added-gt255 : goal.returns-else-added-gt255
unfolding with_carry
returns-else-added-gt255 c = simp (lt-ltb (c.args.sum + c.args.byte) 256 (omega arith))
