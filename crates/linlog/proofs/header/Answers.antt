-- `linlog::header` is the header, character by character.
use Rattle.std.proofs.Common.{refl}
use Rattle.buslog.specs.Row.{header}
use Rattle.linlog.proofs.header.Goals as goal

pub returns : goal.returns
unfolding header
returns c = refl
