-- By cases of the verdict; a position is small enough for the low sixteen bits.
use Rattle.std.proofs.Common.{sym, arith}
use Rattle.cluster.proofs.TakenLaws.{taken_high}
use Rattle.host.specs.Coded.{table_coded}
use Rattle.host.proofs.lin_check.Goals as goal

pub placed-requires : goal.placed-requires
placed-requires c = omega (arith, taken_high _ _ (sym c.in-Err.ensures.value))

pub returns-in-Ok : goal.returns-in-Ok
unfolding table_coded
returns-in-Ok c = rw (sym c.in-Ok.ensures.value)

pub returns-in-Err : goal.returns-in-Err
unfolding table_coded
returns-in-Err c = rw (sym c.in-Err.ensures.value) c.placed.ensures
