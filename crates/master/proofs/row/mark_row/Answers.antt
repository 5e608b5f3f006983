-- The bits so far, with the later signals of the row marked, are what is wanted.
use mathlib.Core.Path.{refl, sym, ◌∙◌}
use native.Mathlib.Omega.{arith}
use Rattle.master.proofs.RowTurns.{marks_turn, marks_end}
use Rattle.master.proofs.row.mark_row.Goals as goal

pub loop-s-init : goal.loop-s-init
loop-s-init c = refl

pub loop-s-preserved : goal.loop-s-preserved
loop-s-preserved c =
    let a = c.args in
    let at = c.loop-s in
    let below = c.loop-s-test.true in
    at.invariant ∙ marks_turn a.t.words.now a.signals.now at.s-index below at.pending ∙ rw c.mark.ensures

pub returns : goal.returns
returns c =
    let a = c.args in
    let at = c.loop-s in
    sym (at.invariant ∙ marks_end a.t.words.now a.signals.now at.s-index c.loop-s-test.false (omega (arith, at.auto.s-index-end)) at.pending)
