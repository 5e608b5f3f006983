-- The tests that the code makes in turn say what a frame does.
use mathlib.Core.Path.{◌≡◌, refl, sym, ◌∙◌}
use borrow.Author.Rules.{rules}
use lib.ListN.{length}
use Rattle.transport.proofs.AnswerLaws.{take_told_lem}
use Rattle.transport.proofs.Outcomes.{leaves_plain}
use Rattle.transport.proofs.Steps.{step_unfit, step_length, step_nad}
use Rattle.transport.proofs.reassembly.Reassembly.take.Goals as goal

pub returns-then-not-fits-clause-leaves : goal.returns-then-not-fits-clause-leaves
returns-then-not-fits-clause-leaves c =
    leaves_plain _ _ _ _ _ (step_unfit _ _ _ (sym c.fits.ensures ∙ c.if-not-fits.true)) (rw c.of.ensures)

pub returns-then-not-fits-clause-told : goal.returns-then-not-fits-clause-told
returns-then-not-fits-clause-told c = (take_told_lem _ _ _ _ _ (returns-then-not-fits-clause-leaves c)).1

pub returns-in_default-clause-leaves : goal.returns-in_default-clause-leaves
returns-in_default-clause-leaves c =
    let wrong : length c.args.frame.now ≡ 8 → ⊥ = search rules in
    leaves_plain _ _ _ _ _ (step_length _ _ _ (sym c.fits.ensures ∙ c.if-not-fits.false) wrong) (rw c.of-in_default.ensures)

pub returns-in_default-clause-told : goal.returns-in_default-clause-told
returns-in_default-clause-told c = (take_told_lem _ _ _ _ _ (returns-in_default-clause-leaves c)).1

pub returns-else-listens-clause-leaves : goal.returns-else-listens-clause-leaves
returns-else-listens-clause-leaves c =
    let same : c.in-Ok.frame.now ≡ c.args.frame.now = search rules in
    let eight : length c.args.frame.now ≡ 8 = search rules in
    leaves_plain _ _ _ _ _
    (step_nad _ _ _ (sym c.fits.ensures ∙ c.if-not-fits.false) eight (rw same at (sym c.listens.ensures ∙ c.if-listens.false)))
    refl

pub returns-else-listens-clause-told : goal.returns-else-listens-clause-told
returns-else-listens-clause-told c = (take_told_lem _ _ _ _ _ (returns-else-listens-clause-leaves c)).1

pub returns-then-listens-clause-leaves : goal.returns-then-listens-clause-leaves
returns-then-listens-clause-leaves c =
    let same : c.in-Ok.frame.now ≡ c.args.frame.now = search rules in
    rw same at c.by_kind.ensures

pub returns-then-listens-clause-told : goal.returns-then-listens-clause-told
returns-then-listens-clause-told c = (take_told_lem _ _ _ _ _ (returns-then-listens-clause-leaves c)).1
