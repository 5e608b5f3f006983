-- The verdict on the pairs from here on is that on the pair at hand, and on those behind it.
use mathlib.Core.Path.{sym, ◌∙◌}
use mathlib.Core.Logic.{inl, inr}
use Rattle.master.specs.WriteRow.{first_bad}
use Rattle.master.proofs.RowTurns.{no_signal_left, no_value_left, first_turn}
use Rattle.master.proofs.row.Row.first_bad.Goals as goal

pub loop-i-init : goal.loop-i-init
loop-i-init c =
    let items = c.enumerate-i-items.ensures in
    rw (c.into_iter-i-iterator.ensures.into_iter_gives, items.source, items.count, c.zip.ensures.first, c.zip.ensures.second.0, c.iter.ensures.rest)

pub returns-in-Err : goal.returns-in-Err
returns-in-Err c =
    let step = c.in-Some.ensures.steps in
    sym ((rw (step.0.0, step.0.1, first_turn) at c.loop-i.invariant) ∙ rw (← c.scalar_fits-fits.ensures, ← c.in-Err.ensures, c.at.ensures, step.1))

pub loop-i-preserved : goal.loop-i-preserved
loop-i-preserved c =
    let step = c.in-Some.ensures.steps in
    (rw (step.0.0, step.0.1, first_turn) at c.loop-i.invariant) ∙ rw (← c.scalar_fits-fits.ensures, ← c.in_default.ensures, step.2)

pub returns : goal.returns
unfolding first_bad
returns c =
    let left = c.loop-i.i-iterator.iter in
    elim c.in-None.ensures.steps.0 [
      | inl e ↦ sym (c.loop-i.invariant ∙ rw (no_signal_left left.a.rest.now left.b.rest.now e.1.0))
      | inr e ↦ sym (c.loop-i.invariant ∙ rw (no_value_left left.a.rest.now left.b.rest.now e.1.0))
    ]
