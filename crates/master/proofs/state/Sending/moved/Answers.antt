-- What is counted of the message's length says where it goes on.
use mathlib.Core.Path.{sym, ◌∙◌}
use native.Mathlib.Omega.{arith}
use Rattle.master.proofs.Counted.{frames_counted, never_refused, next_high}
use Rattle.master.specs.Message.{moved}
use Rattle.master.proofs.state.Sending.moved.Goals as goal

pub overflow_add-next : goal.overflow_add-next
overflow_add-next c = omega (arith, next_high c.args.self c.requires)

pub returns-in-Ok : goal.returns-in-Ok
unfolding moved
returns-in-Ok c = rw (c.at.ensures, frames_counted c.args.self.length c.in-Ok.frames (sym c.count.ensures.value ∙ c.in-Ok.is))

pub returns-in-Err : goal.returns-in-Err
unfolding moved
returns-in-Err c = absurd (never_refused c.args.self c.requires c.in-Err.field-0 (sym c.count.ensures.value ∙ c.in-Err.is))
