-- The sum is the number with its field replaced, and fits as that number does.
use Prim.Native.Nat.{◌+◌, ◌*◌, ◌/◌, ◌%◌, ◌^◌, ◌<◌}
use native.Mathlib.Omega.{arith}
use Rattle.signal.proofs.Field.{field_sum}
use Rattle.signal.proofs.Numbers.{number_below}
use Rattle.signal.proofs.Bits.replaced.Goals as goal

pub returns : goal.returns
returns c =
    let s = c.args.self in
    field_sum _ _ _ _ _ _ _ _
    (rw c.end.ensures at c.power-above.ensures.value)
    c.power.ensures.value
    c.power-2.ensures.value
    c.power-3.ensures.value
    s.in_range.1
    s.in_range.2
    c.requires

pub overflow_add-result-2 : goal.overflow_add-result-2
overflow_add-result-2 c =
    let below :
    c.args.old % c.power.result
    + c.args.value % c.power-2.result * c.power-3.result
    + c.args.old / c.power-above.result * c.power-above.result
    < 2 ^ 24
    = rw (returns c) (number_below 24 _) in
    omega (arith, below)
