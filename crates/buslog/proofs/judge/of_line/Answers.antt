-- A text has no bytes, and the bytes of any other line are judged.
use Rattle.std.proofs.Common.{◌∙◌}
use Rattle.buslog.proofs.Judging.{no_bytes, by_bytes}
use Rattle.buslog.proofs.judge.of_line.Goals as goal

pub returns-in_default : goal.returns-in_default
returns-in_default c = no_bytes _ _ c.in_default.ensures

pub returns : goal.returns
returns c = c.of_bytes.ensures ∙ by_bytes _ _ _ (c.as_slice.ensures.value ∙ c.in-Some.ensures.1)
