-- The states that stand on the desk. Places are those of src/lib.rt.
use Rattle.std.specs.Prelude.{ℕ, zero, suc, ◌+◌, ◌%◌, Bool, cond, List, [], ◌∷◌, ◌++◌, eqb, get_or, Option, Some, None}
use Rattle.master.specs.declared.state.State.{State}
use Rattle.master.specs.declared.state.Plan.{Plan}
use Rattle.master.specs.declared.state.Transfer.{Transfer}
use Rattle.master.specs.declared.state.Opened.{Opened}
use Rattle.master.specs.declared.state.Opened.TheVariants as opened
use Rattle.master.specs.declared.state.Message.{Message}
use Rattle.master.specs.declared.state.Message.TheVariants as message
use Rattle.master.specs.declared.state.Status.{Status}
use Rattle.master.specs.declared.state.Reception.{Reception}
use Rattle.transport.specs.declared.reassembly.Reassembly.{Reassembly}

-- the number at a place, its low 16 bits, its low 8 bits, and whether it is 1
abbrev pub at : List ℕ → ℕ → ℕ
at d k = get_or d k 0

abbrev pub word_at : List ℕ → ℕ → ℕ
word_at d k = at d k % 65536

abbrev pub byte_at : List ℕ → ℕ → ℕ
byte_at d k = at d k % 256

abbrev pub is_set : List ℕ → ℕ → Bool
is_set d k = eqb (at d k) 1

-- f 0, f 1, .. and so on, n of them
unfoldable pub each : {A : Type 0} → (ℕ → A) → ℕ → List A
each f zero = []
each f (suc n) = each f n ++ (f n ∷ [])

-- ---- the master's

unfoldable pub pending_on : List ℕ → List Bool
pending_on d = each (is_set d) 60

-- an entry, a schedule, a placement: 65,536 stands for none
unfoldable pub chosen_of : ℕ → Option ℕ
chosen_of n = cond (eqb n 65536) None (Some (n % 65536))

abbrev pub plan_on : List ℕ → Plan
plan_on d = record { wait = word_at d 60; current = chosen_of (at d 61); requested = chosen_of (at d 62) }

-- what is open: a frame by its number, 65,536 for nothing, 65,537 for the request, 65,538 for the response
unfoldable pub opened_of : ℕ → Opened
opened_of n =
    cond (eqb n 65536) opened.Nothing (cond (eqb n 65537) opened.Request (cond (eqb n 65538) opened.Response (opened.Frame (n % 65536))))

unfoldable pub nine_on : List ℕ → List ℕ
nine_on d = each (λ i. byte_at d (65 + i)) 9

abbrev pub transfer_on : List ℕ → Transfer
transfer_on d = record { opened = opened_of (at d 63); count = byte_at d 64; bytes = nine_on d; written = is_set d 74 }

-- the message by its kind: 1 is being sent, 2 completed, 3 failed, any other none
unfoldable pub message_on : List ℕ → Message
message_on d =
    cond (eqb (at d 75) 1) (message.Sending (record { nad = byte_at d 76; length = word_at d 77; next = word_at d 78 }))
    (cond (eqb (at d 75) 2) message.Completed (cond (eqb (at d 75) 3) message.Failed message.None))

abbrev pub status_on : List ℕ → Status
status_on d = record { error = is_set d 79; success = is_set d 80; overrun = is_set d 81; last = byte_at d 82 }

-- a placement received last
abbrev pub reception_of : ℕ → Reception
reception_of n = record { last = chosen_of n }

unfoldable pub received_on : List ℕ → List Reception
received_on d = each (λ i. reception_of (at d (128 + i))) 256

abbrev pub state_on : List ℕ → State
state_on d =
    record {
      pending = pending_on d;
      plan = plan_on d;
      transfer = transfer_on d;
      message = message_on d;
      status = status_on d;
      received = received_on d;
    }

-- ---- the reassembler's

unfoldable pub reassembly_on : List ℕ → Reassembly
reassembly_on d =
    record {
      message = cond (eqb (at d 83) 0) None
          (Some (record { nad = byte_at d 84; length = word_at d 85; count = word_at d 86; counter = byte_at d 87 }));
    }
