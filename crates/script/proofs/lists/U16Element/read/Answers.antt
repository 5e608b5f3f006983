-- The number is within its limit.
use Rattle.std.proofs.Common.{sym, arith}
use Rattle.script.proofs.Reading.{decimal_within}
use Rattle.script.proofs.lists.U16Element.read.Goals as goal

pub overflow_cast-result : goal.overflow_cast-result
overflow_cast-result c = omega (arith, decimal_within 65535 c.args.field.now c.in_ok-number.number (sym c.in_ok-number.ensures))
