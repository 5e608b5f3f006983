-- So many bytes were put.
use mathlib.Core.Path.{◌≡◌}
use lib.ListN.{get_or}
use Rattle.desk.specs.Put.{with_each}
use Rattle.desk.proofs.state.put_nine.Given as goal

abbrev pub invariant-loop-i : goal.invariant-loop-i
invariant-loop-i l = l.desk ≡ with_each (λ k. get_or l.bytes k 0) 65 l.i l.initial.desk
