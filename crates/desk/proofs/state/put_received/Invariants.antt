-- So many were put.
use mathlib.Core.Path.{◌≡◌}
use lib.ListN.{get_or}
use Rattle.master.specs.Fresh.{never_received}
use Rattle.desk.specs.Put.{number, with_each}
use Rattle.desk.proofs.state.put_received.Given as goal

abbrev pub invariant-loop-s : goal.invariant-loop-s
invariant-loop-s l = l.desk ≡ with_each (λ i. number (get_or l.received i never_received).last) 128 l.s l.initial.desk
