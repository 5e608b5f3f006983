-- The list passes the test over all its places, so that its number at each is the protected identifier.
use mathlib.Core.Path.{refl}
use mathlib.Core.Bool.{xor}
use Rattle.wire.specs.Bits.{bit}
use Rattle.wire.specs.Identifier.{protected_byte, p0, p1}
use Rattle.wire.specs.declared.identifier.TheConstants.{PROTECTED}
use Rattle.wire.proofs.ListLaws.{right_at, listed}
use Rattle.wire.proofs.identifier.protected_byte.Goals as goal

pub returns : goal.returns
unfolding right_at protected_byte p0 p1 bit xor
returns c = (listed PROTECTED refl refl).right c.args.id c.requires
