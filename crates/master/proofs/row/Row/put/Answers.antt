-- The bytes so far, with the pairs of the row that are left put in, are what is wanted.
use mathlib.Core.Path.{refl, sym, ◌∙◌}
use mathlib.Core.Logic.{inl, inr}
use native.Mathlib.Omega.{arith}
use Rattle.std.proofs.Common.{length-append}
use Rattle.master.specs.Put.{scalar}
use Rattle.master.specs.WriteRow.{with_row}
use Rattle.master.proofs.ReadBack.{value_length}
use Rattle.master.proofs.RowTurns.{no_signal_left, no_value_left, put_turn, good_turn, good_value}
use Rattle.master.proofs.row.Row.put.Goals as goal

pub loop-s-init : goal.loop-s-init
loop-s-init c =
    let zip = c.zip-s-items.ensures in (
      refl,
      rw (c.into_iter-s-iterator.ensures.into_iter_gives, zip.first, zip.second.0, c.iter.ensures.rest) c.requires,
      rw (c.into_iter-s-iterator.ensures.into_iter_gives, zip.first, zip.second.0, c.iter.ensures.rest),
    )

pub overflow_cast-v : goal.overflow_cast-v
overflow_cast-v c =
    let step = c.in-Some.ensures.steps in
    record { fits = omega (arith, good_value _ _ _ _ _ _ (rw (step.0, step.1) at c.loop-s.invariant.1) c.args.t.right) }

pub loop-s-preserved : goal.loop-s-preserved
loop-s-preserved c =
    let at = c.loop-s.invariant in
    let step = c.in-Some.ensures.steps in
    let put = c.put_scalar.ensures in (
      rw put (value_length _ c.loop-s.bytes _ (scalar _)) ∙ at.0,
      rw (length-append c.loop-s.yielded _) (good_turn _ _ _ _ _ _ (rw (step.0, step.1) at at.1)),
      (rw (step.0, step.1) at at.2) ∙ put_turn _ 0 _ _ _ _ c.loop-s.bytes ∙ rw put,
    )

pub shape_of-bytes : goal.shape_of-bytes
shape_of-bytes c = c.loop-s.invariant.0

pub returns : goal.returns
unfolding with_row
returns c =
    let left = c.loop-s.s-iterator in
    elim c.in-None.ensures.steps [
      | inl e ↦ sym (c.loop-s.invariant.2 ∙ rw (no_signal_left left.a.rest.now left.b.rest.now e.1.0))
      | inr e ↦ sym (c.loop-s.invariant.2 ∙ rw (no_value_left left.a.rest.now left.b.rest.now e.1.0))
    ]
