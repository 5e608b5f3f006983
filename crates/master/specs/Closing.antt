-- Document 01, "Calls and steps", "Status": what closing a transfer does to the state. Closing leaves the record as a fresh state has it.
use Rattle.std.specs.Prelude.{ℕ, Bool, true, false, cond, List, set}
use Rattle.master.specs.declared.state.Opened.{Opened}
use Rattle.master.specs.declared.state.Opened.TheVariants.{Nothing, Frame, Request, Response}
use Rattle.master.specs.declared.state.State.{State}
use Rattle.master.specs.Fresh.{no_transfer}
use Rattle.master.specs.State.{with_pending, with_transfer, with_message, with_status, with_received}
use Rattle.master.specs.Received.{received_by}
use Rattle.master.specs.Transfers.{open_protected}
use Rattle.master.specs.Status.{status_after}
use Rattle.master.specs.Message.{message_sent, message_failed}

-- the transfer is over; it counts for status, with its outcome, where it had a response byte
abbrev pub closed : List ℕ → State → Bool → Bool → State
closed t s counts success =
    with_status (with_transfer s no_transfer)
    (status_after s.status counts success (open_protected t s.transfer.opened))

-- it failed
unfoldable pub failed : List ℕ → State → Bool → State
failed t s counts = with_message (closed t s counts false) (message_failed s.transfer.opened s.message)

-- "only a successful transfer begun after that write ends it": a frame written since its opening stays pending
unfoldable pub cleared_bit : ℕ → Bool → List Bool → List Bool
cleared_bit f written bits = cond written bits (set bits f false)

-- the pending bits after a success
unfoldable pub pending_sent : Opened → Bool → List Bool → List Bool
pending_sent Nothing written bits = bits
pending_sent (Frame f) written bits = cleared_bit f written bits
pending_sent Request written bits = bits
pending_sent Response written bits = bits

-- the master sent it with success: its frame is no longer pending, or the message moves on
unfoldable pub sent : List ℕ → State → State
sent t s =
    with_pending
    (with_message (closed t s true true) (message_sent s.transfer.opened s.message))
    (pending_sent s.transfer.opened s.transfer.written s.pending)

-- the master received it with success
unfoldable pub received : List ℕ → State → State
received t s = with_received (closed t s true true) (received_by t s.transfer.opened s.received)
