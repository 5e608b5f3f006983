-- The pair has the characters of both digits.
use Rattle.std.proofs.Common.{}
use Rattle.buslog.specs.Pairs.{pair_of}
use Rattle.buslog.proofs.pairs.pair.Goals as goal

pub returns : goal.returns
unfolding pair_of
returns c = rw (c.character.ensures, c.character-2.ensures)
