-- The second time is looked at where the first is right.
use mathlib.Core.Path.{sym, ◌∙◌}
use Rattle.timing.proofs.Times.are_right.Goals as goal

pub returns-then-time_right : goal.returns-then-time_right
returns-then-time_right c = rw (sym c.time_right.ensures ∙ c.if-time_right.true) c.time_right-then-time_right.ensures

pub returns-else-time_right : goal.returns-else-time_right
returns-else-time_right c = rw (sym c.time_right.ensures ∙ c.if-time_right.false) c.if-time_right.false
