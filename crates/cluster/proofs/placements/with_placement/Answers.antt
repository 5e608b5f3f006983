-- Bits that end inside the frame begin inside it.
use mathlib.Core.Bool.{and-false}
use mathlib.Core.Path.{sym, ◌∙◌}
use native.Mathlib.Omega.{arith}
use Prim.Native.Nat.{◌+◌}
use borrow.Author.Tests.{lt-ltb, le-ltb}
use Rattle.cluster.specs.Columns.{offset_right}
use Rattle.cluster.proofs.placements.with_placement.Goals as goal
use Rattle.cluster.proofs.placements.with_placement.Goals.{else-offset-width-via-then-offset-width+else-on_border}
use Rattle.cluster.proofs.placements.with_placement.Goals.{else-offset-width-via-else-offset-width}

pub returns-then-on_border-clause-right : goal.returns-then-on_border-clause-right
unfolding offset_right
returns-then-on_border-clause-right c =
    let a = c.args in
    simp (
      c.with_bits.ensures.free,
      sym c.on_border.ensures ∙ c.if-on_border.true,
      lt-ltb a.offset a.room.bits (omega arith),
      le-ltb a.room.bits (a.offset + a.shape.width) (omega arith),
    )

pub returns-else-offset-width-clause-right : goal.returns-else-offset-width-clause-right
unfolding offset_right
returns-else-offset-width-clause-right c =
    let a = c.args in
    elim c.else-offset-width.branch [
      | else-offset-width-via-then-offset-width+else-on_border w ↦ simp (sym w.on_border.ensures ∙ w.if-on_border.false, and-false)
      | else-offset-width-via-else-offset-width w ↦ simp
          (lt-ltb a.room.bits (a.offset + a.shape.width) (omega (arith, w.if-offset-width.false)), and-false)
    ]
