-- The placements before are received.
use mathlib.Core.Path.{◌≡◌}
use Rattle.master.specs.Received.{received_up_to}
use Rattle.master.proofs.received.received_in.Given as goal

abbrev pub invariant-loop-k : goal.invariant-loop-k
invariant-loop-k l = l.next ≡ received_up_to l.t.words.now l.f l.k l.initial.next
