-- `wire::checksum::start` meets its contract, by cases of the identifier and of the wish.
use native.Mathlib.Omega.{arith}
use borrow.Author.Tests.{lt-ltb, le-ltb}
use Rattle.wire.specs.Checksum.{model_of, covered, sum}
use Rattle.wire.proofs.IdentifierLaws.{protected_below}
use Rattle.wire.proofs.Sums.{carry_first}
use Rattle.wire.proofs.checksum.start.Goals as goal

pub returns-then-id-ge60 : goal.returns-then-id-ge60
unfolding model_of covered sum
returns-then-id-ge60 c = simp (le-ltb c.args.id 60 (omega arith))

pub returns-in-Classic : goal.returns-in-Classic
unfolding model_of covered sum
returns-in-Classic c = simp (lt-ltb c.args.id 60 (omega arith), c.in-Classic.is)

pub returns-in-Enhanced : goal.returns-in-Enhanced
unfolding model_of covered sum
returns-in-Enhanced c = simp (
  lt-ltb c.args.id 60 (omega arith),
  c.in-Enhanced.is,
  c.protected_byte.ensures,
  carry_first _ (protected_below _ c.requires),
)
