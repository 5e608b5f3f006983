-- 64 ones shifted right.
use native.Mathlib.Omega.{arith}
use Rattle.cluster.proofs.FieldMask.{ones_shifted}
use Rattle.cluster.proofs.marks.ones.Goals as goal

pub returns : goal.returns
returns c = ones_shifted c.args.width (omega arith)
