-- Each way out has the test that led to it; the counter that follows is the same within 256.
use Prim.Native.Nat.{◌+◌, ◌%◌}
use mathlib.Core.Path.{◌≡◌}
use native.Mathlib.Omega.{arith}
use borrow.Author.Tests.{lt-ltb, le-ltb}
use Rattle.transport.specs.Reassembly.{reached}
use Rattle.transport.proofs.reassembly.Reassembly.reached.Goals as goal

pub returns-then-n-message : goal.returns-then-n-message
unfolding reached
returns-then-n-message c =
    let same : (c.args.message.counter + 1) % 256 % 16 ≡ (c.args.message.counter + 1) % 16 = omega arith in
    rw (lt-ltb _ _ c.if-n-message.true, same)

pub returns-else-n-message : goal.returns-else-n-message
unfolding reached
returns-else-n-message c = rw (le-ltb _ _ c.if-n-message.false, c.closed.ensures.state, c.closed.ensures.same)
