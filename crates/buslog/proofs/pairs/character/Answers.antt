-- The characters of the ten lower digits are `0` to `9`, and those of the others `A` to `F`.
use Rattle.buslog.proofs.Digits.{low_character, high_character}
use Rattle.buslog.proofs.pairs.character.Goals as goal
use Rattle.std.proofs.Common.{sym, arith}

pub returns-in-0-to-9 : goal.returns-in-0-to-9
returns-in-0-to-9 c = sym (low_character c.args.digit (omega arith))

pub returns-in_default : goal.returns-in_default
returns-in_default c = sym (high_character c.args.digit (omega arith))
