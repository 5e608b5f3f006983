-- `linlog::table` is the built-in table, word by word.
use Rattle.std.proofs.Common.{refl}
use Rattle.buslog.specs.Report.{built_in}
use Rattle.linlog.proofs.table.Goals as goal

pub returns : goal.returns
unfolding built_in
returns c = refl
