-- The line has none of the forms before the one at hand.
use Rattle.std.proofs.Common.{◌≡◌, drop}
use Rattle.script.specs.Forms.{named, first_of, first_in}
use Rattle.script.proofs.forms.first.Given as goal

abbrev pub invariant-loop-k : goal.invariant-loop-k
invariant-loop-k g l = first_of (named l.forms) l.line ≡ first_in (named (drop l.k l.forms)) l.line l.k
