-- So many bits were taken.
use mathlib.Core.Path.{◌≡◌}
use lib.ListN.{length, take}
use Rattle.desk.specs.Taken.{is_set, each}
use Rattle.desk.proofs.state.pending.Given as goal

abbrev pub invariant-loop-f : goal.invariant-loop-f
invariant-loop-f l = (length l.bit-items ≡ 60) × (take l.f l.bit-items ≡ each (is_set l.desk) l.f)
