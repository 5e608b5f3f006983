-- The number that stands for none shows as the word.
use Rattle.std.proofs.Common.{eq-eqb, ne_eqb}
use Rattle.script.specs.Print.{number_or_none}
use Rattle.script.proofs.print.number_or_none.Goals as goal

pub returns-then-n-eq-NONE : goal.returns-then-n-eq-NONE
unfolding number_or_none
returns-then-n-eq-NONE c = rw (eq-eqb c.args.n 65536 c.if-n-eq-NONE.true) c.text.ensures

pub returns : goal.returns
unfolding number_or_none
returns c = rw (ne_eqb c.args.n 65536 c.if-n-eq-NONE.false) c.decimal.ensures
