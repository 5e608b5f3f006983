-- The signal of the placement before is there.
use Prim.Native.Nat.{◌+◌}
use mathlib.Core.Path.{◌≡◌, ◌∙◌}
use native.Mathlib.Omega.{arith}
use borrow.Author.Tests.{eqb-true, ne_eqb, lt-ltb}
use Rattle.cluster.specs.Table.{signal_count}
use Rattle.cluster.proofs.Counting.{follows_same}
use Rattle.cluster.proofs.placements.signal_there.Goals as goal

pub returns-then-s-placed : goal.returns-then-s-placed
returns-then-s-placed c =
    let a = c.args in
    let before : a.s + 1 ≡ a.placed = eqb-true (a.s + 1) a.placed (follows_same a.placed a.s c.if-s-placed.true ∙ c.requires.1) in
    rw (ne_eqb a.s a.placed c.if-s-placed.true, lt-ltb a.s (signal_count a.t.now) (omega (arith, before, c.requires.0)))
