-- The transfer so far, rewritten by the later signals of the row, is what is wanted.
use mathlib.Core.Path.{refl, sym, ◌∙◌}
use native.Mathlib.Omega.{arith}
use Rattle.master.proofs.RowTurns.{rewrites_turn, rewrites_end}
use Rattle.master.proofs.state.Transfer.rewritten_by.Goals as goal

pub loop-s-init : goal.loop-s-init
loop-s-init c = refl

pub loop-s-preserved : goal.loop-s-preserved
loop-s-preserved c =
    let a = c.args in
    let at = c.loop-s in
    at.invariant ∙ rewrites_turn a.t.words.now a.signals.now at.s-index c.loop-s-test.true at.next ∙ rw c.rewritten-next.ensures

pub returns : goal.returns
returns c =
    let a = c.args in
    let at = c.loop-s in
    sym (at.invariant ∙ rewrites_end a.t.words.now a.signals.now at.s-index c.loop-s-test.false (omega (arith, at.auto.s-index-end)) at.next)
