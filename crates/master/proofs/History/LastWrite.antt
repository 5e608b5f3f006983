-- In every history a published signal reads as its last accepted write left it, or as its start value.
use Prim.Native.Nat.{ℕ, ◌+◌, ◌-◌, ◌*◌, ◌/◌, ◌<◌}
use mathlib.Core.Path.{◌≡◌, refl, sym, ◌∙◌}
use mathlib.Core.Bool.{Bool, true, false}
use mathlib.Core.List.{List}
use native.Mathlib.Decide.{ℕ_discrete}
use native.Mathlib.Omega.{arith}
use borrow.Author.Tests.{lt-ltb, eq-eqb, ne_eqb, eqb-true}
use lib.ListN.{length, length-replicate}
use Rattle.wire.specs.Bits.{Bytes}
use Rattle.signal.specs.Signal.{bit_at}
use Rattle.cluster.specs.Check.{RightTable}
use Rattle.cluster.specs.Table.{frame_count, signal_count, is_array, signal_width, signal_start, placement_frame}
use Rattle.cluster.specs.Places.{place_of, covers}
use Rattle.cluster.specs.Fresh.{array_length, fresh_bytes}
use Rattle.cluster.specs.Values.{signal_published, first_placement, array_fits, scalar_at, array_at, handed_out, array_read}
use Rattle.cluster.proofs.Accepted.{then_second}
use Rattle.cluster.proofs.Occupied.{covered_from}
use Rattle.cluster.proofs.PlacementLaws.{placement_end_high, first_there, published_as}
use Rattle.cluster.proofs.SomePlacement.{Of}
use Rattle.cluster.proofs.FreshLaws.{array_length_lem, fresh_scalar, fresh_array}
use Rattle.cluster.proofs.ValueLaws.{scalar_at_own, array_at_own, read_scalar_at, read_array_at, other_scalar_scalar, other_array_scalar, other_scalar_array, other_array_array}
use Rattle.transport.proofs.Tests.{whether}
use Rattle.master.specs.Start.{fresh_of}
use Rattle.master.specs.declared.tick.TickAnswer.TheVariants as tick
use Rattle.master.specs.declared.byte.ByteAnswer.TheVariants as byte
use Rattle.master.specs.Answers.{Wrote}
use Rattle.master.specs.Admit.{buffer_size, admitted, Step}
use Rattle.master.specs.Put.{Value, scalar, array, Put, with_value}
use Rattle.master.specs.Write.{is_bytes, fits_signal, write_verdict, write_of}
use Rattle.master.specs.Seq.{Seq, ∅, ◌▹◌}
use Rattle.master.specs.Calls as call
use Rattle.master.specs.Calls.{Call, ◌⇒◌}
use Rattle.master.specs.Acts.{Act, nothing, wrote, selected, ticked, took, status_read, sending, write_act, select_act, tick_act, byte_act, status_act, send_act, act_of}
use Rattle.master.specs.Run.{Held, answer_of, held_after, history_of}
use Rattle.master.specs.Schedule.{Scheduled, act, schedule, scheduled}
use Rattle.master.specs.History.{written_bytes}
use Rattle.master.specs.Answering.{read_from, scalar_read, array_given}
use Rattle.master.specs.Replies.{read_number, read_reply, read_array_reply}
use Rattle.master.specs.Claim.{record_of}
use Rattle.master.specs.InWords.{start_value, last_value, ReadsAs}
use Rattle.master.proofs.Answered.{by_verdict, Writable, writable_signal}
use Rattle.master.proofs.History.SameBytes.{SameBytes}
use Rattle.master.proofs.History.Agrees.{Agrees}
use Rattle.master.proofs.History.Steps.{steps}
use Rattle.master.proofs.History.Runs.{table_taken, fresh_table, agrees}
use Rattle.std.specs.Prelude.{Ok}
use Rattle.std.specs.Prelude.{Err}
use Rattle.master.specs.Calls.{SelectAnswer}
use Rattle.master.specs.Calls.{SendAnswer}
use Rattle.master.specs.Calls.{StatusAnswer}
use Rattle.master.specs.Calls.{TickResult}
use Rattle.master.specs.Calls.{ByteResult}
use Rattle.std.specs.Prelude.{Some}

-- a buffer holds a value in a placement of a signal
abbrev pub Holds : List ℕ → List ℕ → ℕ → ℕ → Value → Type 0
Holds t bs s k (scalar v) = (is_array t s ≡ false) × (scalar_at t bs s k ≡ v)
Holds t bs s k (array vs) = (is_array t s ≡ true) × (array_fits t s vs ≡ true) × (Bytes vs → array_at t bs s k ≡ vs)

module _ (t : List ℕ) (ok : RightTable t) (s : ℕ) (hs : s < signal_count t) (k : ℕ) (o : Of t s k) where
  -- a fresh buffer holds the start values
  holds_start : Holds t (fresh_bytes t) s k (start_value t s)
  unfolding start_value array_fits scalar_at array_at
  holds_start =
      whether (is_array t s)
      (λ a.
      let n = array_length_lem t ok s hs a in
      rw a (a, eq-eqb _ _ (length-replicate (signal_width t s / 8) (signal_start t s) ∙ sym n), λ b. fresh_array t ok s k o a ∙ rw n))
      (λ a. rw a (a, fresh_scalar t ok s k o a))

  -- a write of the signal
  holds_own : (bs : List ℕ) → length bs ≡ 8 * frame_count t → (v : Value) → Writable t s (is_bytes v) (fits_signal t s v) → Holds t (with_value t bs s v) s k v
  holds_own bs l (scalar v) w = (w.kind_is, read_scalar_at t ok s hs w.kind_is bs l v w.value_fits_lem k o)
  holds_own bs l (array vs) w = (w.kind_is, w.value_fits_lem, λ b. read_array_at t ok s hs w.kind_is bs l vs b w.value_fits_lem k o)

  -- a write of another one
  pub holds_other : (bs : List ℕ) (r : ℕ) → ¬ (s ≡ r) → (w : Value) → Writable t r (is_bytes w) (fits_signal t r w) → (v : Value) → Holds t bs s k v
      → Holds t (with_value t bs r w) s k v
  holds_other bs r n (scalar w) a (scalar v) h = (h.0, other_scalar_scalar t ok s r n k o bs w ∙ h.1)
  holds_other bs r n (array w) a (scalar v) h = (h.0, other_scalar_array t ok s r n k o bs w a.value_fits_lem ∙ h.1)
  holds_other bs r n (scalar w) a (array vs) h = (h.0, h.1, λ b. other_array_scalar t ok s r n k o bs w ∙ h.2 b)
  holds_other bs r n (array w) a (array vs) h = (h.0, h.1, λ b. other_array_array t ok s r n k o bs w a.value_fits_lem ∙ h.2 b)

  -- what a buffer with the same bits in the placement holds there
  pub holds_bits : (bs cs : List ℕ) → ((j : ℕ) → covers t k j ≡ true → bit_at bs j ≡ bit_at cs j) → (v : Value) → Holds t cs s k v → Holds t bs s k v
  holds_bits bs cs same (scalar v) h = (h.0, scalar_at_own t bs cs s k o same ∙ h.1)
  holds_bits bs cs same (array vs) h = (h.0, h.1, λ b. array_at_own t bs cs s k o same ∙ h.2 b)

  -- in a published signal, buffers with the same published frames have them
  pub published_bits : signal_published t s ≡ true → (bs cs : List ℕ) → SameBytes t bs cs → (j : ℕ) → covers t k j ≡ true → bit_at bs j ≡ bit_at cs j
  unfolding bit_at place_of
  published_bits p bs cs e j q =
      let w = covered_from t k j q in
      let end = placement_end_high t ok k o.there in
      let i = (j - 64 * placement_frame t k) / 8 in
      let at : j / 8 ≡ 8 * placement_frame t k + i = omega arith in
      rw (at, e.same_bytes_lem (placement_frame t k) (sym (published_as t ok s k o) ∙ p) i (omega arith))

  -- one more event, of which a write is one that the table allows
  holds_event : (h : Seq Scheduled) (x : Scheduled) → length (written_bytes t h) ≡ 8 * frame_count t
      → ((r : ℕ) (v : Value) → act x ≡ wrote r v → Writable t r (is_bytes v) (fits_signal t r v))
      → Holds t (written_bytes t h) s k (last_value t s h) → Holds t (written_bytes t (h ▹ x)) s k (last_value t s (h ▹ x))
  unfolding written_bytes last_value
  holds_event h x l allowed is = by (act x) refl
    where
      by : (a : Act) → act x ≡ a → Holds t (written_bytes t (h ▹ x)) s k (last_value t s (h ▹ x))
      by nothing e = rw e is
      by (wrote r v) e = elim (ℕ_discrete r s) [
        | yes p ↦ rw (e, eq-eqb r s p, p) (holds_own (written_bytes t h) l v (rw p at (allowed r v e)))
        | no p ↦ rw (e, ne_eqb r s p) (holds_other (written_bytes t h) r (λ q. p (sym q)) v (allowed r v e) (last_value t s h) is)
      ]
      by (selected n) e = rw e is
      by (ticked m a) e = rw e is
      by (took b a) e = rw e is
      by status_read e = rw e is
      by (sending nad n) e = rw e is

-- ---- the events of a run

-- only a write that is answered with written counts as one
tick_wrote : (m : List ℕ) (a : TickResult) (r : ℕ) (v : Value) → ¬ (tick_act m a ≡ wrote r v)
tick_wrote m (Ok tick.Waiting) r v e = let z : ◌≡◌ {A = ℕ} 0 1 = cc in omega arith
tick_wrote m (Ok tick.Idle) r v e = let z : ◌≡◌ {A = ℕ} 0 1 = cc in omega arith
tick_wrote m (Ok tick.Silent) r v e = let z : ◌≡◌ {A = ℕ} 0 1 = cc in omega arith
tick_wrote m (Ok (tick.Opened p)) r v e = let z : ◌≡◌ {A = ℕ} 0 1 = cc in omega arith
tick_wrote m (Err q) r v e = let z : ◌≡◌ {A = ℕ} 0 1 = cc in omega arith

byte_wrote : (b : ℕ) (a : ByteResult) (r : ℕ) (v : Value) → ¬ (byte_act b a ≡ wrote r v)
byte_wrote b (Ok byte.More) r v e = let z : ◌≡◌ {A = ℕ} 0 1 = cc in omega arith
byte_wrote b (Ok byte.Success) r v e = let z : ◌≡◌ {A = ℕ} 0 1 = cc in omega arith
byte_wrote b (Ok byte.Failure) r v e = let z : ◌≡◌ {A = ℕ} 0 1 = cc in omega arith
byte_wrote b (Ok (byte.Response bs)) r v e = let z : ◌≡◌ {A = ℕ} 0 1 = cc in omega arith
byte_wrote b (Err q) r v e = let z : ◌≡◌ {A = ℕ} 0 1 = cc in omega arith

select_wrote : (n : ℕ) (a : SelectAnswer) (r : ℕ) (v : Value) → ¬ (select_act n a ≡ wrote r v)
select_wrote n (Ok tt) r v e = let z : ◌≡◌ {A = ℕ} 0 1 = cc in omega arith
select_wrote n (Err q) r v e = let z : ◌≡◌ {A = ℕ} 0 1 = cc in omega arith

status_wrote : (a : StatusAnswer) (r : ℕ) (v : Value) → ¬ (status_act a ≡ wrote r v)
status_wrote (Ok w) r v e = let z : ◌≡◌ {A = ℕ} 0 1 = cc in omega arith
status_wrote (Err q) r v e = let z : ◌≡◌ {A = ℕ} 0 1 = cc in omega arith

send_wrote : (nad n : ℕ) (a : SendAnswer) (r : ℕ) (v : Value) → ¬ (send_act nad n a ≡ wrote r v)
send_wrote nad n (Ok tt) r v e = let z : ◌≡◌ {A = ℕ} 0 1 = cc in omega arith
send_wrote nad n (Err q) r v e = let z : ◌≡◌ {A = ℕ} 0 1 = cc in omega arith

-- an accepted write is one that the table allows
write_allowed : (t : List ℕ) (x : Held) (w : Put) (r : ℕ) (v : Value) → act_of (call.write w ⇒ answer_of t x (call.write w)) ≡ wrote r v
    → Writable t r (is_bytes v) (fits_signal t r v)
unfolding answer_of write_of
write_allowed t x w r v =
    by_verdict (λ (z : Step Wrote). write_act w.signal w.value z.given.answer ≡ wrote r v → Writable t r (is_bytes v) (fits_signal t r v))
    (write_verdict t (length x.bytes) x.state w) _ _
    (λ q e k. let z : ◌≡◌ {A = ℕ} 0 1 = cc in absurd (omega arith))
    (λ a k.
    let i : w.signal ≡ r = cc in
    let j : w.value ≡ v = cc in
    let u = writable_signal t w.signal (is_bytes w.value) (fits_signal t w.signal w.value) (then_second (admitted t (length x.bytes) x.state) _ a) in
    rw (i, j) at u)

pub call_allowed : (t : List ℕ) (x : Held) (c : Call) (r : ℕ) (v : Value) → act_of (c ⇒ answer_of t x c) ≡ wrote r v → Writable t r (is_bytes v) (fits_signal t r v)
call_allowed t x (call.write w) r v e = write_allowed t x w r v e
call_allowed t x (call.read s) r v e = let z : ◌≡◌ {A = ℕ} 0 1 = cc in absurd (omega arith)
call_allowed t x (call.read_array s) r v e = let z : ◌≡◌ {A = ℕ} 0 1 = cc in absurd (omega arith)
call_allowed t x (call.select n) r v e = absurd (select_wrote n (answer_of t x (call.select n)) r v e)
call_allowed t x (call.tick m) r v e = absurd (tick_wrote m (answer_of t x (call.tick m)) r v e)
call_allowed t x (call.byte_in b) r v e = absurd (byte_wrote b (answer_of t x (call.byte_in b)) r v e)
call_allowed t x call.read_status r v e = absurd (status_wrote (answer_of t x call.read_status) r v e)
call_allowed t x (call.send nad n) r v e = absurd (send_wrote nad n (answer_of t x (call.send nad n)) r v e)
call_allowed t x call.message_state r v e = let z : ◌≡◌ {A = ℕ} 0 1 = cc in absurd (omega arith)
call_allowed t x (call.number_ahead f) r v e = let z : ◌≡◌ {A = ℕ} 0 1 = cc in absurd (omega arith)

-- ---- every history

module _ (t bs : List ℕ) (accepted : (fresh_of t bs).given.answer ≡ Ok tt) (s : ℕ) (hs : s < signal_count t) where
  ok : RightTable t
  ok = fresh_table t bs accepted

  pub written_length : (cs : Seq Call) → length (written_bytes t (record_of t bs cs)) ≡ 8 * frame_count t
  unfolding buffer_size
  written_length cs = let is = (agrees t bs accepted cs).frames in sym is.written_are.same_length ∙ is.size

  module _ (k : ℕ) (o : Of t s k) where
    written_holds : (cs : Seq Call) → Holds t (written_bytes t (record_of t bs cs)) s k (last_value t s (record_of t bs cs))
    unfolding history_of scheduled schedule written_bytes last_value
    written_holds ∅ = holds_start t ok s hs k o
    written_holds (cs ▹ c) =
        let x = held_after t bs cs in
        holds_event t ok s hs k o (record_of t bs cs) (schedule t (record_of t bs cs) (c ⇒ answer_of t x c)) (written_length cs) (call_allowed t x c) (written_holds cs)

    -- a published signal holds in each placement what its last accepted write left
    pub each_holds : signal_published t s ≡ true → (cs : Seq Call) → Holds t (held_after t bs cs).bytes s k (last_value t s (record_of t bs cs))
    each_holds p cs =
        let held = (held_after t bs cs).bytes in
        let written = written_bytes t (record_of t bs cs) in
        holds_bits t ok s hs k o held written (published_bits t ok s hs k o p held written (agrees t bs accepted cs).frames.written_are)
        (last_value t s (record_of t bs cs)) (written_holds cs)

  pub read_number_lem : (array : Bool) → is_array t s ≡ array → read_number t s array ≡ 0
  unfolding read_number
  read_number_lem true a = rw (lt-ltb s (signal_count t) hs, a)
  read_number_lem false a = rw (lt-ltb s (signal_count t) hs, a)

  -- a read that takes its value from a placement gives what is held there
  pub reads : (cs : Seq Call) (k : ℕ) → read_from t (record_of t bs cs) s ≡ Some k → (v : Value) → Holds t (held_after t bs cs).bytes s k v
      → ReadsAs t (held_after t bs cs) s v
  unfolding read_reply read_array_reply scalar_read array_given array_read handed_out array_fits
  reads cs k from v h = by v h
    where
      is : Agrees t (record_of t bs cs) (held_after t bs cs)
      is = agrees t bs accepted cs

      by : (v : Value) → Holds t (held_after t bs cs).bytes s k v → ReadsAs t (held_after t bs cs) s v
      by (scalar v) h =
          (steps t (table_taken t bs accepted) (record_of t bs cs) (held_after t bs cs) is (call.read s)).replies
          ∙ rw (read_number_lem false h.0, from, ← is.frames.bytes_are, h.1)
      by (array vs) h = λ b.
          (steps t (table_taken t bs accepted) (record_of t bs cs) (held_after t bs cs) is (call.read_array s)).replies
          ∙ rw (read_number_lem true h.0, from, ← is.frames.bytes_are, h.2 b, ← eqb-true (length vs) (array_length t s) h.1)

  -- a published signal reads as its last accepted write left it, or as its start value
  pub last_write : signal_published t s ≡ true → (cs : Seq Call) → ReadsAs t (held_after t bs cs) s (last_value t s (record_of t bs cs))
  unfolding read_from
  last_write p cs =
      let k = first_placement t s in
      reads cs k (rw p) (last_value t s (record_of t bs cs)) (each_holds k (first_there t ok s hs) p cs)
