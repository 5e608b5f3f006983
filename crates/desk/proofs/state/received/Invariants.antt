-- So many were taken.
use Prim.Native.Nat.{ℕ, ◌+◌}
use mathlib.Core.Path.{◌≡◌}
use mathlib.Core.List.{List}
use lib.ListN.{length, take}
use Rattle.master.specs.declared.state.Reception.{Reception}
use Rattle.desk.specs.Taken.{at, each, reception_of}
use Rattle.desk.proofs.state.received.Given as goal

-- the reception of signal i on the desk
abbrev pub on : List ℕ → ℕ → Reception
on d i = reception_of (at d (128 + i))

abbrev pub invariant-loop-s : goal.invariant-loop-s
invariant-loop-s l = (length l.reception-items ≡ 256) × (take l.s l.reception-items ≡ each (on l.desk) l.s)
