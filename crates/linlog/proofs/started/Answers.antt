-- `linlog::started` is the log before the first reading, field by field.
use Rattle.std.proofs.Common.{refl}
use Rattle.linlog.specs.Part.{started}
use Rattle.linlog.proofs.started.Goals as goal

pub returns : goal.returns
unfolding started
returns c = refl
