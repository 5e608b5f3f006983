-- The desk with a state put on it. Places are those of src/lib.rt.
use Rattle.std.specs.Prelude.{ℕ, zero, suc, ◌+◌, Bool, false, cond, List, get_or, set, Option, Some, None}
use Rattle.master.specs.declared.state.State.{State}
use Rattle.master.specs.declared.state.Plan.{Plan}
use Rattle.master.specs.declared.state.Transfer.{Transfer}
use Rattle.master.specs.declared.state.Opened.{Opened}
use Rattle.master.specs.declared.state.Opened.TheVariants as opened
use Rattle.master.specs.declared.state.Message.{Message}
use Rattle.master.specs.declared.state.Message.TheVariants as message
use Rattle.master.specs.declared.state.Sending.{Sending}
use Rattle.master.specs.declared.state.Status.{Status}
use Rattle.master.specs.declared.state.Reception.{Reception}
use Rattle.master.specs.Fresh.{never_received}
use Rattle.transport.specs.declared.reassembly.Assembly.{Assembly}
use Rattle.transport.specs.declared.reassembly.Reassembly.{Reassembly}

-- ---- the parts as numbers

abbrev pub bit : Bool → ℕ
bit b = cond b 1 0

abbrev pub number : Option ℕ → ℕ
number None = 65536
number (Some n) = n

abbrev pub open_number : Opened → ℕ
open_number opened.Nothing = 65536
open_number (opened.Frame f) = f
open_number opened.Request = 65537
open_number opened.Response = 65538

-- ---- the master's state, part by part

-- f 0, f 1, .. and so on, n of them, from a place on
unfoldable pub with_each : (ℕ → ℕ) → ℕ → ℕ → List ℕ → List ℕ
with_each f place zero d = d
with_each f place (suc n) d = set (with_each f place n d) (place + n) (f n)

unfoldable pub with_pending : List Bool → List ℕ → List ℕ
with_pending pending d = with_each (λ i. bit (get_or pending i false)) 0 60 d

abbrev pub with_plan : Plan → List ℕ → List ℕ
with_plan p d = set (set (set d 60 p.wait) 61 (number p.current)) 62 (number p.requested)

unfoldable pub with_nine : List ℕ → List ℕ → List ℕ
with_nine bytes d = with_each (λ i. get_or bytes i 0) 65 9 d

abbrev pub with_transfer : Transfer → List ℕ → List ℕ
with_transfer t d = with_nine t.bytes (set (set (set d 63 (open_number t.opened)) 64 t.count) 74 (bit t.written))

abbrev pub with_sending : Sending → List ℕ → List ℕ
with_sending s d = set (set (set (set d 75 1) 76 s.nad) 77 s.length) 78 s.next

-- of a message that is not being sent its kind is put, and the rest stays
abbrev pub with_message : Message → List ℕ → List ℕ
with_message message.None d = set d 75 0
with_message (message.Sending s) d = with_sending s d
with_message message.Completed d = set d 75 2
with_message message.Failed d = set d 75 3

abbrev pub with_status : Status → List ℕ → List ℕ
with_status s d = set (set (set (set d 79 (bit s.error)) 80 (bit s.success)) 81 (bit s.overrun)) 82 s.last

unfoldable pub with_received : List Reception → List ℕ → List ℕ
with_received rs d = with_each (λ i. number (get_or rs i never_received).last) 128 256 d

unfoldable pub with_state : State → List ℕ → List ℕ
with_state s d =
    with_received s.received
    (with_status s.status (with_message s.message (with_transfer s.transfer (with_plan s.plan (with_pending s.pending d)))))

-- ---- the reassembler's

abbrev pub with_assembly : Assembly → List ℕ → List ℕ
with_assembly a d = set (set (set (set (set d 83 1) 84 a.nad) 85 a.length) 86 a.count) 87 a.counter

abbrev pub with_open : Option Assembly → List ℕ → List ℕ
with_open None d = set d 83 0
with_open (Some a) d = with_assembly a d

abbrev pub with_reassembly : Reassembly → List ℕ → List ℕ
with_reassembly r d = with_open r.message d
