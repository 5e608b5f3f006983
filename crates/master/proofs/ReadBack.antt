-- What an accepted write leaves is read again, and no frame that its signal does not touch changes.
use Prim.Native.Nat.{ℕ, ◌+◌, ◌-◌, ◌*◌, ◌≤◌, ◌<◌}
use mathlib.Core.Path.{◌≡◌, refl, sym, ◌∙◌}
use mathlib.Core.Bool.{Bool, true, false}
use mathlib.Core.List.{List, [], ◌++◌}
use native.Mathlib.Omega.{arith}
use borrow.Author.Tests.{lt-ltb, eqb-true}
use lib.ListN.{length, get_or, take, drop, replicate, length-take, length-drop, drop_of_length-le}
use lib.Seq.{get_or-take, get_or-drop, ext_get_or}
use Rattle.wire.specs.Bits.{Bytes}
use Rattle.signal.specs.Signal.{bit_at}
use Rattle.cluster.specs.Check.{then, RightTable}
use Rattle.cluster.specs.Table.{frame_count, frame_length, signal_count, is_array}
use Rattle.cluster.specs.Places.{occupies}
use Rattle.cluster.specs.Fresh.{array_length}
use Rattle.cluster.specs.Values.{touches, first_placement, signal_published, value_fits, array_fits, handed_out, array_read}
use Rattle.cluster.proofs.Accepted.{then_first, then_second}
use Rattle.cluster.proofs.FrameLaws.{frame_length_high}
use Rattle.cluster.proofs.PlacementLaws.{first_there}
use Rattle.cluster.proofs.ValueLaws.{scalar_length, array_length_stays, read_scalar_at, read_array_at, scalar_untouched, array_untouched, scalar_outside, array_outside}
use Rattle.transport.proofs.Tests.{order}
use Rattle.master.specs.declared.state.Reception.{Reception}
use Rattle.master.specs.declared.state.State.{State}
use Rattle.master.specs.Received.{source_of, scalar_from, array_from}
use Rattle.master.specs.Answers.{Wrote}
use Rattle.master.specs.Admit.{admitted, buffer_size, Step}
use Rattle.master.specs.Transfers.{frame_data}
use Rattle.master.specs.Write.{marked, writable, write_verdict, write_of}
use Rattle.master.specs.Read.{read_verdict, read_scalar_of, read_array_of}
use Rattle.master.proofs.Admitted.{admitted_taken, admitted_table, admitted_size, admitted_fits, admits, fits_clauses, fits_all}
use Rattle.master.proofs.FitsKept.{marked_fits}
use Rattle.master.proofs.Answered.{by_verdict, Writable, writable_signal}
use Rattle.master.proofs.WriteLaws.{write_accepts, write_state, write_left}
use Rattle.master.specs.Put.{Value, scalar, array, Put, put, with_value}
use Rattle.master.specs.Write.{is_bytes, fits_signal}
use Rattle.std.specs.Prelude.{Ok}
use Rattle.std.specs.Prelude.{Some}

-- ---- reading

-- a read of a signal of the right kind accepts where the call is admitted
readable : (t : List ℕ) (n : ℕ) (x : State) (s : ℕ) (kind : Bool) → admitted t n x ≡ Ok tt → s < signal_count t → is_array t s ≡ kind
    → read_verdict t n x s kind ≡ Ok tt
unfolding read_verdict
readable t n x s true a h k = rw (a, lt-ltb s (signal_count t) h, k)
readable t n x s false a h k = rw (a, lt-ltb s (signal_count t) h, k)

-- a published signal is read from its first placement
pub source_published : (t : List ℕ) (rs : List Reception) (s : ℕ) → signal_published t s ≡ true → source_of t rs s ≡ Some (first_placement t s)
unfolding source_of
source_published t rs s p = rw p

-- what an accepted write knows, of a scalar and of an array alike
record Known (t : List ℕ) (x : State) (bs : List ℕ) (s : ℕ) (kind fits : Bool) : Type 0 where
  table_right : RightTable t
  size_right : length bs ≡ buffer_size t
  signal : Writable t s kind fits
  admits_after : admitted t (length bs) (marked t s x) ≡ Ok tt

known : (t : List ℕ) (x : State) (bs : List ℕ) (s : ℕ) (kind fits : Bool) → then (admitted t (length bs) x) (writable t s kind fits) ≡ Ok tt
    → Known t x bs s kind fits
known t x bs s kind fits a =
    let ad = then_first (admitted t (length bs) x) (writable t s kind fits) a in
    let w = writable_signal t s kind fits (then_second (admitted t (length bs) x) (writable t s kind fits) a) in
    let ok = admitted_table t (length bs) x ad in
    let size = admitted_size t (length bs) x ad in
    record {
      table_right = ok;
      size_right = size;
      signal = w;
      admits_after =
          admits t (length bs) (marked t s x) (admitted_taken t (length bs) x ad) size
          (fits_all t (marked t s x)
          (marked_fits t x (fits_clauses t x (admitted_fits t (length bs) x ad)) ok s w.below w.is_published));
    }

-- a scalar reads as the value that an accepted write put there
pub write_value : (t : List ℕ) (x : State) (bs : List ℕ) (s v : ℕ) → (write_of t x bs (put s (scalar v))).given.answer ≡ Ok tt
    → read_scalar_of t (write_of t x bs (put s (scalar v))).given.state (write_of t x bs (put s (scalar v))).left s ≡ Ok v
unfolding read_scalar_of scalar_from buffer_size
write_value t x bs s v k =
    let w = put s (scalar v) in
    let knows = known t x bs s false (value_fits t s v) (write_accepts t x bs w k) in
    rw (
      write_state t x bs w k,
      write_left t x bs w k,
      scalar_length t bs s v,
      readable t (length bs) (marked t s x) s false knows.admits_after knows.signal.below knows.signal.kind_is,
      source_published t (marked t s x).received s knows.signal.is_published,
      read_scalar_at t knows.table_right s knows.signal.below knows.signal.kind_is bs knows.size_right v knows.signal.value_fits_lem
          (first_placement t s) (first_there t knows.table_right s knows.signal.below),
    )

-- an array reads as the bytes that an accepted write put there, and as many
pub write_array_value : (t : List ℕ) (x : State) (bs : List ℕ) (s : ℕ) (vs : List ℕ) → Bytes vs
    → (write_of t x bs (put s (array vs))).given.answer ≡ Ok tt
    → read_array_of t (write_of t x bs (put s (array vs))).given.state (write_of t x bs (put s (array vs))).left s
    ≡ Ok (record { count = length vs; bytes = vs ++ replicate (8 - length vs) 255 })
unfolding read_array_of array_from array_read handed_out buffer_size array_fits
write_array_value t x bs s vs hv k =
    let w = put s (array vs) in
    let knows = known t x bs s true (array_fits t s vs) (write_accepts t x bs w k) in
    let e : length vs ≡ array_length t s = eqb-true (length vs) (array_length t s) knows.signal.value_fits_lem in
    rw (
      write_state t x bs w k,
      write_left t x bs w k,
      array_length_stays t bs s vs,
      readable t (length bs) (marked t s x) s true knows.admits_after knows.signal.below knows.signal.kind_is,
      source_published t (marked t s x).received s knows.signal.is_published,
      read_array_at t knows.table_right s knows.signal.below knows.signal.kind_is bs knows.size_right vs hv knows.signal.value_fits_lem
          (first_placement t s) (first_there t knows.table_right s knows.signal.below),
      e,
    )

-- ---- the other frames

-- data of which each byte is the same are the same
data_same : (t bs cs : List ℕ) (f : ℕ) → length cs ≡ length bs → frame_length t f ≤ 8
    → ((k : ℕ) → k < 8 → get_or cs (8 * f + k) 0 ≡ get_or bs (8 * f + k) 0) → frame_data t cs f ≡ frame_data t bs f
unfolding frame_data
data_same t bs cs f e b same =
    let n = frame_length t f in
    ext_get_or 0 (take n (drop (8 * f) cs)) (take n (drop (8 * f) bs))
    (simp (length-take, length-drop, e))
    (λ i h. let l : i < n = omega (arith, simp (length-take) at h) in
    get_or-take n (drop (8 * f) cs) i 0 l
    ∙ get_or-drop (8 * f) cs i 0
    ∙ same i (omega arith)
    ∙ sym (get_or-drop (8 * f) bs i 0)
    ∙ sym (get_or-take n (drop (8 * f) bs) i 0 l))

-- a frame that is not there has no data
data_none : (t bs : List ℕ) (f : ℕ) → length bs ≤ 8 * f → frame_data t bs f ≡ take (frame_length t f) []
unfolding frame_data
data_none t bs f h = rw (drop_of_length-le bs {i = 8 * f} h)

module _ (t : List ℕ) (bs cs : List ℕ) (f : ℕ) (ok : RightTable t) (size : length bs ≡ buffer_size t) where
  -- the data of a frame, there or not, of which each byte is the same
  pub untouched_data : length cs ≡ length bs → ((k : ℕ) → k < 8 → get_or cs (8 * f + k) 0 ≡ get_or bs (8 * f + k) 0) → frame_data t cs f ≡ frame_data t bs f
  unfolding buffer_size
  untouched_data e same =
      order (frame_count t) f
      (λ h. data_none t cs f (omega arith) ∙ sym (data_none t bs f (omega arith)))
      (λ h. data_same t bs cs f e (frame_length_high t ok f h) same)

-- a value leaves as many bytes
pub value_length : (t bs : List ℕ) (s : ℕ) (v : Value) → length (with_value t bs s v) ≡ length bs
value_length t bs s (scalar v) = scalar_length t bs s v
value_length t bs s (array vs) = array_length_stays t bs s vs

module _ (t : List ℕ) (ok : RightTable t) (bs : List ℕ) (s : ℕ) where
  -- a value leaves the bytes of a frame that its signal does not touch
  value_untouched : (v : Value) → Writable t s (is_bytes v) (fits_signal t s v) → Bytes bs → (f : ℕ) → touches t s f ≡ false
      → (k : ℕ) → k < 8 → get_or (with_value t bs s v) (8 * f + k) 0 ≡ get_or bs (8 * f + k) 0
  value_untouched (scalar v) w hb f n = scalar_untouched t ok s w.below bs hb v f w.kind_is n
  value_untouched (array vs) w hb f n = array_untouched t ok s w.below bs hb vs f w.kind_is w.value_fits_lem n

  -- and each bit outside the signal
  value_outside : (v : Value) → Writable t s (is_bytes v) (fits_signal t s v) → (j : ℕ) → occupies t s j ≡ false
      → bit_at (with_value t bs s v) j ≡ bit_at bs j
  value_outside (scalar v) w = scalar_outside t ok s w.below bs v w.kind_is
  value_outside (array vs) w = array_outside t ok s w.below bs vs w.kind_is w.value_fits_lem

module _ (t : List ℕ) (x : State) (bs : List ℕ) (w : Put) where
  -- a write, refused or not, changes the data of no frame that its signal does not touch
  pub write_other_frames : Bytes bs → (f : ℕ) → touches t w.signal f ≡ false → frame_data t (write_of t x bs w).left f ≡ frame_data t bs f
  unfolding write_of
  write_other_frames hb f n =
      by_verdict (λ (z : Step Wrote). frame_data t z.left f ≡ frame_data t bs f) (write_verdict t (length bs) x w) _ _
      (λ r e. refl)
      (λ a. let knows = known t x bs w.signal (is_bytes w.value) (fits_signal t w.signal w.value) a in
      untouched_data t bs (with_value t bs w.signal w.value) f knows.table_right knows.size_right (value_length t bs w.signal w.value)
      (value_untouched t knows.table_right bs w.signal w.value knows.signal hb f n))

  -- a write, refused or not, changes no bit outside the signal
  pub write_outside : (j : ℕ) → occupies t w.signal j ≡ false → bit_at (write_of t x bs w).left j ≡ bit_at bs j
  unfolding write_of
  write_outside j n =
      by_verdict (λ (z : Step Wrote). bit_at z.left j ≡ bit_at bs j) (write_verdict t (length bs) x w) _ _
      (λ r e. refl)
      (λ a. let knows = known t x bs w.signal (is_bytes w.value) (fits_signal t w.signal w.value) a in
      value_outside t knows.table_right bs w.signal w.value knows.signal j n)
