-- The digits are copied to the front; there are at most twenty.
use Rattle.std.proofs.Common.{ap, arith, length}
use Rattle.buslog.specs.Row.{decimal_of}
use Rattle.buslog.proofs.Decimal.{decimal_few, shown}
use Rattle.buslog.proofs.Fronting.{copied}
use Rattle.buslog.proofs.row.put_decimal.Goals as goal

pub returns : goal.returns
returns c =
    let n = c.args.number in
    let d = c.decimal-first in
    let e = shown (decimal_of n) d.result.0 d.result.1 (decimal_few n) d.ensures.digits d.ensures.first in
    let k = c.copy.ensures.count (omega arith) in
    (rw e at (copied _ c.args.out.now k (c.copy.ensures.left (omega arith))), omega (arith, k, ap length e, decimal_few n))
