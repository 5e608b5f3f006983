-- The state with one part replaced. No other definition but that of the fresh state (specs/Fresh.antt) spells all parts.
use Rattle.std.specs.Prelude.{Bool, List}
use Rattle.master.specs.declared.state.Plan.{Plan}
use Rattle.master.specs.declared.state.Transfer.{Transfer}
use Rattle.master.specs.declared.state.Message.{Message}
use Rattle.master.specs.declared.state.Status.{Status}
use Rattle.master.specs.declared.state.Reception.{Reception}
use Rattle.master.specs.declared.state.State.{State}

abbrev pub with_pending : State → List Bool → State
with_pending s bits = record { pending = bits; plan = s.plan; transfer = s.transfer; message = s.message; status = s.status; received = s.received }

abbrev pub with_plan : State → Plan → State
with_plan s p = record { pending = s.pending; plan = p; transfer = s.transfer; message = s.message; status = s.status; received = s.received }

abbrev pub with_transfer : State → Transfer → State
with_transfer s x = record { pending = s.pending; plan = s.plan; transfer = x; message = s.message; status = s.status; received = s.received }

abbrev pub with_message : State → Message → State
with_message s x = record { pending = s.pending; plan = s.plan; transfer = s.transfer; message = x; status = s.status; received = s.received }

abbrev pub with_status : State → Status → State
with_status s x = record { pending = s.pending; plan = s.plan; transfer = s.transfer; message = s.message; status = x; received = s.received }

abbrev pub with_received : State → List Reception → State
with_received s rs =
    record { pending = s.pending; plan = s.plan; transfer = s.transfer; message = s.message; status = s.status; received = rs }
