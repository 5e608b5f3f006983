-- The start values of the first k placements are put.
use mathlib.Core.Path.{◌≡◌}
use lib.ListN.{length}
use Rattle.cluster.specs.Fresh.{filled}
use Rattle.cluster.proofs.fresh.fill.Given as goal

abbrev pub invariant-loop-k : goal.invariant-loop-k
invariant-loop-k l = l.bytes ≡ filled l.t (length l.initial.bytes) l.k
