-- The digits, and behind them the rest of the row.
use Rattle.std.proofs.Common.{refl, arith}
use Rattle.buslog.specs.Parts.{verdict_text}
use Rattle.buslog.specs.Row.{row_of}
use Rattle.buslog.proofs.Fronting.{behind, fronts_within}
use Rattle.buslog.proofs.row.put.Goals as goal

pub overflow_add-result : goal.overflow_add-result
overflow_add-result c = omega (
  arith,
  fronts_within _ c.put_verdict.ensures c.put_verdict.auto.out,
  c.put_decimal-digits.ensures.1,
)

pub returns : goal.returns
unfolding row_of verdict_text
returns c = behind _ _ _ c.put_decimal-digits.ensures.0 c.put_verdict.ensures refl
