-- So many bits were put.
use mathlib.Core.Bool.{false}
use mathlib.Core.Path.{◌≡◌}
use lib.ListN.{get_or}
use Rattle.desk.specs.Put.{bit, with_each}
use Rattle.desk.proofs.state.put_pending.Given as goal

abbrev pub invariant-loop-f : goal.invariant-loop-f
invariant-loop-f l = l.desk ≡ with_each (λ k. bit (get_or l.pending k false)) 0 l.f l.initial.desk
