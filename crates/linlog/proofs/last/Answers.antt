-- `linlog::last` reports a last line whose newline is missing.
use Rattle.std.proofs.Common.{arith}
use Rattle.linlog.proofs.PartLaws.{nothing_left, line_left}
use Rattle.linlog.proofs.last.Goals as goal

pub returns-then-log-eq0 : goal.returns-then-log-eq0
returns-then-log-eq0 c = nothing_left _ _ _ _ (omega arith) c.ended.ensures

pub returns : goal.returns
returns c =
    line_left c.args.log _ c.args.text.now _ (omega arith) c.requires c.whole_lines.ensures c.ended-2.ensures
