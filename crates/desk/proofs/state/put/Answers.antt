-- One part is put after the other.
use mathlib.Core.Path.{◌∙◌}
use Rattle.desk.specs.Put.{with_state}
use Rattle.desk.proofs.state.put.Goals as goal

pub returns : goal.returns
unfolding with_state
returns c =
    c.put_received.ensures
    ∙ rw (c.put_status.ensures, c.put_message.ensures, c.put_transfer.ensures, c.put_plan.ensures, c.put_pending.ensures)
