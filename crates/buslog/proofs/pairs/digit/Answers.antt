-- Each way out is one case of the definition.
use Rattle.std.proofs.Common.{sym, arith}
use Rattle.buslog.proofs.Digits.{below_digits, decimal_digit, between_digits, letter_digit, above_digits}
use Rattle.buslog.proofs.pairs.digit.Goals as goal

pub returns-in-48-to-57 : goal.returns-in-48-to-57
returns-in-48-to-57 c = let e = decimal_digit c.args.c (omega arith) (omega arith) in (omega (arith, e), sym e)

pub returns-in-65-to-70 : goal.returns-in-65-to-70
returns-in-65-to-70 c = let e = letter_digit c.args.c (omega arith) (omega arith) in (omega (arith, e), omega (arith, e))

pub returns-in_default : goal.returns-in_default
returns-in_default c = λ h. omega (arith, below_digits c.args.c (omega arith))

pub returns-in_default-2 : goal.returns-in_default-2
returns-in_default-2 c = λ h. omega (arith, between_digits c.args.c (omega arith) (omega arith))

pub returns-in_default-3 : goal.returns-in_default-3
returns-in_default-3 c = λ h. omega (arith, above_digits c.args.c (omega arith))
