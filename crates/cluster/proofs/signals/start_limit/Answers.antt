-- A scalar has at most 16 bits.
use Rattle.cluster.proofs.Widths.{scalar_width_lem, scalar_limit}
use Prim.Native.Nat.{◌≤◌}
use Rattle.cluster.specs.Columns.{start_limit}
use native.Mathlib.Omega.{arith}
use Rattle.cluster.proofs.signals.start_limit.Goals as goal

-- a scalar has at most 16 bits
few : (c : goal.Else-array) → c.args.width ≤ 16
few c = (scalar_width_lem c.args.width (rw c.if-array.false at c.requires)).1

pub overflow_cast-result : goal.overflow_cast-result
overflow_cast-result c = omega (arith, few c)

pub overflow_cast-result-else-array : goal.overflow_cast-result-else-array
overflow_cast-result-else-array c = omega (arith, few c)

pub overflow_shl-result : goal.overflow_shl-result
overflow_shl-result c = omega (arith, few c)

pub returns-then-array-clause-value : goal.returns-then-array-clause-value
unfolding start_limit
returns-then-array-clause-value c = rw c.if-array.true

pub returns-else-array-clause-value : goal.returns-else-array-clause-value
unfolding start_limit
returns-else-array-clause-value c = rw (c.if-array.false, (scalar_limit c.args.width (few c)).0)

pub returns-else-array-clause-upper_bound : goal.returns-else-array-clause-upper_bound
returns-else-array-clause-upper_bound c = let limit = scalar_limit c.args.width (few c) in rw limit.0 limit.1
