-- Document 01, "The cluster table", and document 02, Req 03: the state that a fresh call gives, and the limits that 01 sets.
use Rattle.std.specs.Prelude.{ℕ, false, List, [], ◌∷◌, replicate}
use Rattle.cluster.specs.Table.{most_frames, most_signals}
use Rattle.transport.specs.Cutting.{longest}
use Rattle.master.specs.declared.state.Plan.{Plan}
use Rattle.master.specs.declared.state.Transfer.{Transfer}
use Rattle.master.specs.declared.state.Opened.TheVariants as opened
use Rattle.master.specs.declared.state.Message.TheVariants as message
use Rattle.master.specs.declared.state.Status.{Status}
use Rattle.master.specs.declared.state.Reception.{Reception}
use Rattle.master.specs.declared.state.State.{State}
use Rattle.std.specs.Prelude.{None}

-- "no schedule"
abbrev pub no_plan : Plan
no_plan = record { wait = 0; current = None; requested = None }

-- "no transfer"
abbrev pub no_transfer : Transfer
no_transfer = record { opened = opened.Nothing; count = 0; bytes = replicate 9 255; written = false }

-- "status 0"
abbrev pub no_status : Status
no_status = record { error = false; success = false; overrun = false; last = 0 }

-- "before any reception"
abbrev pub never_received : Reception
never_received = record { last = None }

-- "a state with nothing pending, no schedule, no transfer, no message, status 0", and no reception
unfoldable pub fresh : State
fresh =
    record {
      pending = replicate most_frames false;
      plan = no_plan;
      transfer = no_transfer;
      message = message.None;
      status = no_status;
      received = replicate most_signals never_received;
    }

-- "frames F (0..60), signals S (0..256), .. schedule entries E (0..256)", and the longest message
abbrev pub limits : List ℕ
limits = most_frames ∷ most_signals ∷ longest ∷ []
