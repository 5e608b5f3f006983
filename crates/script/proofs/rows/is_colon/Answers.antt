-- A colon stands alone.
use Rattle.std.proofs.Common.{length, get_or, arith, ne_eqb, eq-eqb}
use Rattle.script.specs.Rows.{is_colon}
use Rattle.script.proofs.rows.is_colon.Goals as goal

pub returns-in-58 : goal.returns-in-58
unfolding is_colon
returns-in-58 c = simp (eq-eqb (length c.args.field.now) 1 (omega arith), eq-eqb (get_or c.args.field.now 0 0) 58 (omega arith))

pub returns-in_default : goal.returns-in_default
unfolding is_colon
returns-in_default c = simp (ne_eqb (length c.args.field.now) 1 (λ e. omega arith))

pub returns-in_default-2 : goal.returns-in_default-2
unfolding is_colon
returns-in_default-2 c = simp (eq-eqb (length c.args.field.now) 1 (omega arith), ne_eqb (get_or c.args.field.now 0 0) 58 (λ e. omega arith))

pub returns-in_default-3 : goal.returns-in_default-3
unfolding is_colon
returns-in_default-3 c = simp (ne_eqb (length c.args.field.now) 1 (λ e. omega arith))
