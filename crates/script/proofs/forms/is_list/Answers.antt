-- A list's field begins with a point.
use Rattle.std.proofs.Common.{length, get_or, arith, ne_eqb, eq-eqb, length}
use Rattle.script.specs.Forms.{is_list}
use Rattle.script.proofs.forms.is_list.Goals as goal

pub returns-in-46 : goal.returns-in-46
unfolding is_list
returns-in-46 c = simp (ne_eqb (length c.args.form.now) 0 (λ e. omega arith), eq-eqb (get_or c.args.form.now 0 0) 46 (omega arith))

pub returns-in_default : goal.returns-in_default
unfolding is_list
returns-in_default c = simp (eq-eqb (length c.args.form.now) 0 (omega arith))

pub returns-in_default-2 : goal.returns-in_default-2
unfolding is_list
returns-in_default-2 c = simp (ne_eqb (length c.args.form.now) 0 (λ e. omega arith), ne_eqb (get_or c.args.form.now 0 0) 46 (λ e. omega arith))
