-- The line is by the form what is left of both comes to.
use Rattle.script.proofs.Forming.{Left}
use Rattle.script.proofs.forms.read_as.Given as goal

abbrev pub invariant-loop-part : goal.invariant-loop-part
invariant-loop-part l = Left goal.iterator-loop-part.next_gives l.form l.line l.part-iterator l.fields l.place l.numbers
