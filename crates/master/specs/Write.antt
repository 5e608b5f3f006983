-- Document 01, "Write": a scalar or an array goes into a master-published signal, and its frame is marked as written.
use Rattle.std.specs.Prelude.{ℕ, suc, Bool, true, false, ◌||◌, List, [], ◌∷◌, ltb, length}
use Rattle.std.specs.Bool.{beq}
use Rattle.refusal.specs.declared.Refusal.{Refusal}
use Rattle.refusal.specs.Numbers as number
use Rattle.cluster.specs.Check.{then}
use Rattle.cluster.specs.Table.{signal_count, is_array}
use Rattle.cluster.specs.Values.{touches, signal_published, value_fits, array_fits}
use Rattle.master.specs.declared.state.Opened.{Opened}
use Rattle.master.specs.declared.state.Opened.TheVariants as opened
use Rattle.master.specs.declared.state.Transfer.{Transfer}
use Rattle.master.specs.declared.state.State.{State}
use Rattle.master.specs.Answers.{Wrote}
use Rattle.master.specs.State.{with_pending, with_transfer}
use Rattle.master.specs.Admit.{unless, admitted, answered, Step}
use Rattle.master.specs.Put.{Value, scalar, array, Put, with_value}
use Rattle.std.specs.Prelude.{Ok}
use Rattle.cluster.specs.Check.{Verdict}
use Rattle.std.specs.Prelude.{Err}

-- it is a write of an array
abbrev pub is_bytes : Value → Bool
is_bytes (scalar v) = false
is_bytes (array vs) = true

-- refusal 7: "value of 2^width or more; array of another length"
abbrev pub fits_signal : List ℕ → ℕ → Value → Bool
fits_signal t s (scalar v) = value_fits t s v
fits_signal t s (array vs) = array_fits t s vs

-- refusals of a write: 4 "no such signal", 5 "write to a signal the master doesn't publish", 6 "scalar call on an array or the reverse",
-- 7 where the value does not fit
unfoldable pub writable : List ℕ → ℕ → Bool → Bool → Verdict
writable t s bytes fits =
    unless (ltb s (signal_count t)) number.unknown
    (unless (signal_published t s) number.not_published
    (unless (beq (is_array t s) bytes) number.kind
    (unless fits number.value
    (Ok tt))))

-- the pending bits from frame f on, with those of the frames that a signal touches set
unfoldable pub marked_from : List ℕ → ℕ → ℕ → List Bool → List Bool
marked_from t s f [] = []
marked_from t s f (bit ∷ bits) = (bit || touches t s f) ∷ marked_from t s (suc f) bits

-- the open transfer is of a frame that a signal touches
abbrev pub touches_open : List ℕ → ℕ → Opened → Bool
touches_open t s opened.Nothing = false
touches_open t s (opened.Frame f) = touches t s f
touches_open t s opened.Request = false
touches_open t s opened.Response = false

-- the transfer, its frame written since its opening where the signal touches it; "later writes do not touch that copy"
unfoldable pub rewritten : List ℕ → ℕ → Transfer → Transfer
rewritten t s x =
    record {
      opened = x.opened;
      count = x.count;
      bytes = x.bytes;
      written = x.written || touches_open t s x.opened;
    }

-- "marks its frame as written, also when the value is equal"
unfoldable pub marked : List ℕ → ℕ → State → State
marked t s x = with_transfer (with_pending x (marked_from t s 0 x.pending)) (rewritten t s x.transfer)

-- a refused write
abbrev pub refused_write : State → Refusal → Wrote
refused_write x r = record { state = x; answer = Err r }

-- refusals of a write: 1 to 7
abbrev pub write_verdict : List ℕ → ℕ → State → Put → Verdict
write_verdict t size x w = then (admitted t size x) (writable t w.signal (is_bytes w.value) (fits_signal t w.signal w.value))

-- what a write hands back and leaves: nothing changes where it is refused
unfoldable pub write_of : List ℕ → State → List ℕ → Put → Step Wrote
write_of t x bs w =
    answered (write_verdict t (length bs) x w)
    (λ r. record { given = refused_write x r; left = bs })
    (record { given = record { state = marked t w.signal x; answer = Ok tt }; left = with_value t bs w.signal w.value })
