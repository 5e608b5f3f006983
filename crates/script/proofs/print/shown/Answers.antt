-- Each way out is one case of the definition.
use Rattle.std.proofs.Common.{arith, ne_eqb}
use Rattle.script.specs.Print.{shown_by}
use Rattle.script.proofs.print.shown.Goals as goal

pub returns-in-78 : goal.returns-in-78
unfolding shown_by
returns-in-78 c = rw c.in-78.is c.decimal.ensures

pub returns-in-69 : goal.returns-in-69
unfolding shown_by
returns-in-69 c = rw c.in-69.is c.number_or_none.ensures

pub returns-in-72 : goal.returns-in-72
unfolding shown_by
returns-in-72 c = rw (c.in-72.is, ← c.pair.ensures) c.text.ensures

pub returns-in_default : goal.returns-in_default
unfolding shown_by
returns-in_default c =
    rw (ne_eqb c.args.c 78 (λ e. omega arith), ne_eqb c.args.c 69 (λ e. omega arith), ne_eqb c.args.c 72 (λ e. omega arith)) c.text-in_default.ensures
