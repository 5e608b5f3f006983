-- An open message has its own NAD, and with none open any but 0 is listened to.
use mathlib.Core.Path.{◌∙◌}
use borrow.Author.Rules.{rules}
use Rattle.transport.proofs.StepCases.{listens_if}
use Rattle.transport.proofs.reassembly.Reassembly.listens.Goals as goal

pub returns-then-is_none_or : goal.returns-then-is_none_or
returns-then-is_none_or c =
    rw c.if-is_none_or.true at (listens_if c.args.self.message c.args.nad c.is_none_or.result _ (λ m h. search rules) c.is_none_or.ensures)

pub returns-else-is_none_or : goal.returns-else-is_none_or
returns-else-is_none_or c =
    c.if-is_none_or.false
    ∙ rw c.if-is_none_or.false at (listens_if c.args.self.message c.args.nad c.is_none_or.result _ (λ m h. search rules) c.is_none_or.ensures)
