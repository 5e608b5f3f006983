-- Each way out has the test that led to it.
use borrow.Author.Tests.{eq-eqb, ne_eqb}
use Rattle.desk.specs.Taken.{chosen_of}
use Rattle.desk.proofs.state.chosen.Goals as goal

pub returns-then-n-eq-NONE : goal.returns-then-n-eq-NONE
unfolding chosen_of
returns-then-n-eq-NONE c = simp (eq-eqb _ _ c.if-n-eq-NONE.true)

pub returns-else-n-eq-NONE : goal.returns-else-n-eq-NONE
unfolding chosen_of
returns-else-n-eq-NONE c = rw c.word.ensures (simp (ne_eqb _ _ c.if-n-eq-NONE.false))
