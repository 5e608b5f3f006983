-- Each form in its turn, until the line has one.
use Rattle.std.proofs.Common.{Some, ◌∙◌, refl, sym, ap}
use Rattle.script.specs.Forms.{first_of}
use Rattle.script.proofs.Forming.{first_here, first_later, first_nowhere}
use Rattle.script.proofs.forms.first.Goals as goal

pub loop-k-init : goal.loop-k-init
unfolding first_of
loop-k-init g c = refl

pub returns-in-Some : goal.returns-in-Some
returns-in-Some g c =
    ap (λ l. Some (c.index-forms-k.result.1, l)) c.with_form.ensures
    ∙ first_here _ _ _ _ _ c.loop-k-test.true c.index-forms-k.is (sym c.read_as.ensures ∙ c.in-Some.is)
    ∙ sym c.loop-k.invariant

pub loop-k-preserved : goal.loop-k-preserved
loop-k-preserved g c =
    c.loop-k.invariant
    ∙ first_later _ _ _ _ c.loop-k-test.true c.index-forms-k.is (sym c.read_as.ensures ∙ c.in_default.is)

pub returns : goal.returns
returns g c = sym (c.loop-k.invariant ∙ first_nowhere _ _ _ c.loop-k-test.false)
