-- The definition is opened.
use Rattle.std.proofs.Common.{refl}
use Rattle.buslog.specs.Parts.{so_far}
use Rattle.buslog.proofs.report.reported_so_far.Goals as goal

pub returns : goal.returns
unfolding so_far
returns c = refl
