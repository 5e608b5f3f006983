-- A byte has two characters.
use Rattle.std.proofs.Common.{◌∙◌, arith}
use Rattle.script.proofs.Reading.{no_two, two}
use Rattle.script.proofs.fields.byte.Goals as goal

pub returns-in_default : goal.returns-in_default
returns-in_default c = no_two c.args.field.now (λ e. omega arith)

pub returns-in_default-2 : goal.returns-in_default-2
returns-in_default-2 c = no_two c.args.field.now (λ e. omega arith)

pub returns : goal.returns
returns c = c.byte.ensures ∙ two c.args.field.now (omega arith)
