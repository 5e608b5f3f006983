-- Document 01, refusal 3: "the state doesn't fit the table", clause by clause in the paper's order, and that of document 02, Req 03, behind them.
use Rattle.std.specs.Prelude.{ℕ, suc, Bool, true, false, cond, not, ◌&&◌, ◌||◌, List, [], ◌∷◌, leb, ltb, eqb}
use Rattle.cluster.specs.Table.{frame_count, published, entry_count, schedule_count, entry_kind, entry_target, entry_delay}
use Rattle.cluster.specs.Lists.{is_one_of, members}
use Rattle.transport.specs.Cutting.{is_length, message_frames}
use Rattle.master.specs.declared.state.Plan.{Plan}
use Rattle.master.specs.declared.state.Opened.{Opened}
use Rattle.master.specs.declared.state.Opened.TheVariants.{Nothing, Frame, Request, Response}
use Rattle.master.specs.declared.state.Transfer.{Transfer}
use Rattle.master.specs.declared.state.Message.{Message}
use Rattle.master.specs.declared.state.Message.TheVariants as message
use Rattle.master.specs.declared.state.State.{State}
use Rattle.master.specs.Transfers.{is_open, open_length}
use Rattle.master.specs.Received.{received_fits}
use Rattle.std.specs.Prelude.{Some, None, Option}

-- ---- "it names a schedule, entry or frame not there"

abbrev pub entry_there : List ℕ → Option ℕ → Bool
entry_there t None = true
entry_there t (Some e) = ltb e (entry_count t)

abbrev pub schedule_there : List ℕ → Option ℕ → Bool
schedule_there t None = true
schedule_there t (Some n) = ltb n (schedule_count t)

abbrev pub frame_there : List ℕ → Opened → Bool
frame_there t Nothing = true
frame_there t (Frame f) = ltb f (frame_count t)
frame_there t Request = true
frame_there t Response = true

-- ---- "wait above the current delay (0 with no schedule)"

abbrev pub current_delay : List ℕ → Option ℕ → ℕ
current_delay t None = 0
current_delay t (Some e) = entry_delay t e

unfoldable pub wait_fits : List ℕ → Plan → Bool
wait_fits t p = leb p.wait (current_delay t p.current)

-- ---- "a pending bit of a frame not published"

-- at frame f
unfoldable pub bit_fits : List ℕ → ℕ → Bool → Bool
bit_fits t f bit = not bit || (ltb f (frame_count t) && published t f)

-- of the bits from frame f on
unfoldable pub pending_fits : List ℕ → ℕ → List Bool → Bool
pending_fits t f [] = true
pending_fits t f (bit ∷ bits) = bit_fits t f bit && pending_fits t (suc f) bits

-- ---- "an open transfer the current entry cannot open"

-- a message is being sent
abbrev pub is_sending : Message → Bool
is_sending message.None = false
is_sending (message.Sending x) = true
is_sending message.Completed = false
is_sending message.Failed = false

-- what an entry can open: "a list entry can open each member of its list, whatever is pending now; for kind 2 also: no message being sent"
unfoldable pub entry_opens : List ℕ → Message → ℕ → Opened → Bool
entry_opens t x e Nothing = true
entry_opens t x e (Frame f) =
    cond (eqb (entry_kind t e) 0) (eqb (entry_target t e) f)
    (eqb (entry_kind t e) 1 && is_one_of f (members t (entry_target t e)))
entry_opens t x e Request = eqb (entry_kind t e) 2 && is_sending x
entry_opens t x e Response = eqb (entry_kind t e) 3

-- without a schedule nothing can be open
unfoldable pub can_open : List ℕ → Message → Option ℕ → Opened → Bool
can_open t x None o = not (is_open o)
can_open t x (Some e) o = entry_opens t x e o

-- "or with as many bytes as close it": length + 1
unfoldable pub count_fits : List ℕ → Transfer → Bool
count_fits t x = cond (is_open x.opened) (leb x.count (open_length t x.opened)) true

-- "a message being sent with a length not 1..4095 or no frame left to send"
unfoldable pub message_fits : Message → Bool
message_fits message.None = true
message_fits (message.Sending x) = is_length x.length && ltb x.next (message_frames x.length)
message_fits message.Completed = true
message_fits message.Failed = true

-- the clauses of document 01
abbrev pub base_fits : List ℕ → State → Bool
base_fits t s =
    entry_there t s.plan.current
    && schedule_there t s.plan.requested
    && frame_there t s.transfer.opened
    && wait_fits t s.plan
    && pending_fits t 0 s.pending
    && can_open t s.message s.plan.current s.transfer.opened
    && count_fits t s.transfer
    && message_fits s.message

-- the state fits the table
unfoldable pub state_fits : List ℕ → State → Bool
state_fits t s = base_fits t s && received_fits t 0 s.received

-- "on tick, a lent message of another length than the one being sent"
abbrev pub lent_fits : Message → ℕ → Bool
lent_fits message.None n = true
lent_fits (message.Sending x) n = eqb n x.length
lent_fits message.Completed n = true
lent_fits message.Failed n = true
