-- By cases of the model.
use Rattle.std.proofs.Common.{◌∙◌, ap}
use borrow.Author.Tests.{eq-eqb, ne_eqb}
use Rattle.host.specs.Coded.{coded, wish_of}
use Rattle.host.proofs.lin_checksum.Goals as goal

pub returns-then-model-eq0 : goal.returns-then-model-eq0
unfolding wish_of
returns-then-model-eq0 c = simp (eq-eqb _ _ c.if-model-eq0.true) (c.coded.ensures ∙ ap coded c.of.ensures.value)

pub returns-else-model-eq0 : goal.returns-else-model-eq0
unfolding wish_of
returns-else-model-eq0 c = simp (ne_eqb _ _ c.if-model-eq0.false) (c.coded-else-model-eq0.ensures ∙ ap coded c.of-else-model-eq0.ensures.value)
