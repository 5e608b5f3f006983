-- Each way out is one case of the definition.
use Rattle.std.proofs.Common.{⊎_elim, arith, ne_eqb}
use Rattle.script.specs.Print.{stands_for}
use Rattle.script.proofs.print.stands_for.Goals as goal

pub returns-in-78 : goal.returns-in-78
unfolding stands_for
returns-in-78 c = ⊎_elim (λ e. rw e) (⊎_elim (λ e. rw e) (λ e. rw e)) c.in-78.is

pub returns-in_default : goal.returns-in_default
unfolding stands_for
returns-in_default c =
    rw (ne_eqb c.args.c 78 (λ e. grind arith), ne_eqb c.args.c 69 (λ e. grind arith), ne_eqb c.args.c 72 (λ e. grind arith))
