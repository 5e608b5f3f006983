-- The line is by all forms what it is by those that are left.
use Rattle.script.proofs.Forming.{LeftForms}
use Rattle.script.proofs.forms.read.Given as goal

abbrev pub invariant-loop-form : goal.invariant-loop-form
invariant-loop-form l = LeftForms goal.iterator-loop-form.next_gives l.forms l.line l.form-iterator l.k
