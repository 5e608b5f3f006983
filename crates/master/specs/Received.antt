-- Document 02, Req 03: "A read of a received signal gives the placement received last; before any reception, the start value; of a published one, its
-- first placement." What the state keeps of it, what a reception sets, and where a read takes its value.
use Rattle.std.specs.Prelude.{ℕ, zero, suc, Bool, true, cond, not, ◌&&◌, List, [], ◌∷◌, ltb, eqb, get_or, set}
use Rattle.cluster.specs.Table.{signal_count, signal_start, published, placement_count, placement_signal, placement_frame}
use Rattle.cluster.specs.Values.{first_placement, signal_published, scalar_at, array_read, start_read}
use Rattle.cluster.specs.declared.values.Array.{Array}
use Rattle.master.specs.declared.state.Opened.{Opened}
use Rattle.master.specs.declared.state.Opened.TheVariants.{Nothing, Frame, Request, Response}
use Rattle.master.specs.declared.state.Reception.{Reception}
use Rattle.master.specs.Fresh.{never_received}
use Rattle.std.specs.Prelude.{Some, None, Option}

-- the reception of a placement
abbrev pub reception_of : ℕ → Reception
reception_of k = record { last = Some k }

-- what is kept of a signal
unfoldable pub last_of : List Reception → ℕ → Option ℕ
last_of rs s = (get_or rs s never_received).last

-- a success of frame f: the first n placements of the table, where they are in the frame, are those received last of their signals
unfoldable pub received_up_to : List ℕ → ℕ → ℕ → List Reception → List Reception
received_up_to t f zero rs = rs
received_up_to t f (suc k) rs =
    cond (eqb (placement_frame t k) f) (set (received_up_to t f k rs) (placement_signal t k) (reception_of k)) (received_up_to t f k rs)

-- "A success of a received frame sets it for every signal placed there"; no other transfer does
unfoldable pub received_by : List ℕ → Opened → List Reception → List Reception
received_by t Nothing rs = rs
received_by t (Frame f) rs = received_up_to t f (placement_count t) rs
received_by t Request rs = rs
received_by t Response rs = rs

-- ---- refusal 3: "also a last reception in a published frame or one without the signal"

-- of signal s: a placement that is there, of this signal, and in a frame that is not published; never from S on
unfoldable pub last_fits : List ℕ → ℕ → Option ℕ → Bool
last_fits t s None = true
last_fits t s (Some k) =
    ltb s (signal_count t) && ltb k (placement_count t) && eqb (placement_signal t k) s && not (published t (placement_frame t k))

-- of the signals from signal s on
unfoldable pub received_fits : List ℕ → ℕ → List Reception → Bool
received_fits t s [] = true
received_fits t s (r ∷ rs) = last_fits t s r.last && received_fits t (suc s) rs

-- ---- where a read takes its value

-- "the placement received last", "of a published one, its first placement"
unfoldable pub source_of : List ℕ → List Reception → ℕ → Option ℕ
source_of t rs s = cond (signal_published t s) (Some (first_placement t s)) (last_of rs s)

-- the value of a scalar; "before any reception, the start value"
unfoldable pub scalar_from : List ℕ → List ℕ → ℕ → Option ℕ → ℕ
scalar_from t bs s None = signal_start t s
scalar_from t bs s (Some k) = scalar_at t bs s k

-- and of an array
unfoldable pub array_from : List ℕ → List ℕ → ℕ → Option ℕ → Array
array_from t bs s None = start_read t s
array_from t bs s (Some k) = array_read t bs s k
