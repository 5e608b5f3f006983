-- Each test leads to the next one, or none that follows is made.
use mathlib.Core.Path.{sym, ◌∙◌}
use mathlib.Core.Logic.{⊎_elim}
use native.Mathlib.Omega.{arith}
use borrow.Author.Rules.{rules}
use borrow.Author.Tests.{eqb-true, ltb-true, lt-ltb, eq-eqb}
use Rattle.transport.proofs.Fitting.{fits_by_counter, not_fitting}
use Rattle.transport.proofs.Tests.{clash}
use Rattle.transport.proofs.reassembly.Assembly.fits.Goals as goal
use Rattle.transport.proofs.reassembly.Assembly.fits.Goals.{then-self-le-LONGEST, else-self-le-LONGEST, then-self-eq5, else-self-eq5}

pub returns-then-self : goal.returns-then-self
returns-then-self c =
    elim c.if-self-le-LONGEST.branch [
      | then-self-le-LONGEST w ↦
          elim c.if-self-eq5.branch [
            | then-self-eq5 v ↦
                let known = w.if-self-le-LONGEST.true in
                fits_by_counter _ known.0 known.1 known.2
                (eqb-true _ _ (sym w.value-is ∙ v.if-self-eq5.true))
                (ltb-true _ _ (sym v.value-is ∙ c.if-self.true))
            | else-self-eq5 v ↦ clash _ c.if-self.true (v.value-is ∙ v.if-self-eq5.false)
          ]
      | else-self-le-LONGEST w ↦
          elim c.if-self-eq5.branch [
            | then-self-eq5 v ↦ clash _ v.if-self-eq5.true (w.value-is ∙ search rules)
            | else-self-eq5 v ↦ clash _ c.if-self.true (v.value-is ∙ v.if-self-eq5.false)
          ]
    ]

pub returns-else-self : goal.returns-else-self
returns-else-self c =
    c.if-self.false
    ∙ sym (not_fitting _ (λ p.
    elim c.if-self-le-LONGEST.branch [
      | then-self-le-LONGEST w ↦
          elim c.if-self-eq5.branch [
            | then-self-eq5 v ↦ clash _ (v.value-is ∙ lt-ltb _ _ p.4) c.if-self.false
            | else-self-eq5 v ↦ clash _ (w.value-is ∙ eq-eqb _ _ p.3) v.if-self-eq5.false
          ]
      | else-self-le-LONGEST w ↦ ⊎_elim (λ high. omega (arith, p.2, high.2)) (⊎_elim (λ low. omega (arith, p.1, low.1)) (λ nad. p.0 nad)) w.if-self-le-LONGEST.either
    ]))
