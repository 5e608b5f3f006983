-- In every history a signal that the master does not publish reads as the last successful reception of a frame that has it brought it, or as its start
-- value.
use Prim.Native.Nat.{ℕ, ◌+◌, ◌*◌, ◌/◌, ◌%◌, ◌<◌, ◌≤◌}
use mathlib.Core.Path.{◌≡◌, refl, sym, ◌∙◌}
use mathlib.Core.Bool.{Bool, true, false}
use mathlib.Core.List.{List}
use native.Mathlib.Nat.{mod-eq_of_lt}
use native.Mathlib.Omega.{arith}
use borrow.Author.Tests.{eq-eqb, ltb-true, ltb-false}
use lib.Dec.{ltb, eqb}
use lib.ListN.{length, length-replicate}
use Rattle.signal.specs.Signal.{bit_at, get_scalar, get_array}
use Rattle.signal.proofs.Inside.{order}
use Rattle.signal.proofs.Numbers.{number_ext}
use Rattle.signal.proofs.BytesOf.{bytes_ext, bytes_length}
use Rattle.cluster.specs.Check.{RightTable}
use Rattle.cluster.specs.Table.{frame_count, frame_length, published, signal_count, is_array, signal_width, signal_start, placement_count, placement_frame, placement_offset, placement_width}
use Rattle.cluster.specs.Places.{place_of, covers}
use Rattle.cluster.specs.Fresh.{array_length}
use Rattle.cluster.specs.Values.{touches, placement_in, signal_published, array_fits, scalar_at, array_at, handed_out, start_read}
use Rattle.cluster.proofs.Occupied.{covered_from}
use Rattle.cluster.proofs.FrameLaws.{frame_length_high}
use Rattle.cluster.proofs.PlacementLaws.{placement_end, placement_end_high, in_touched}
use Rattle.cluster.proofs.SomePlacement.{Of, some_none}
use Rattle.cluster.proofs.FreshLaws.{array_length_lem}
use Rattle.cluster.proofs.SignalLaws.{array_start_high}
use Rattle.transport.specs.Reassembly.{written}
use Rattle.transport.proofs.WrittenLaws.{written_inside, written_before, written_behind}
use Rattle.transport.proofs.Tests.{whether}
use Rattle.master.specs.declared.state.Opened.{Opened}
use Rattle.master.specs.declared.state.Opened.TheVariants.{Nothing, Frame, Request, Response}
use Rattle.master.specs.declared.tick.TickAnswer.TheVariants as tick
use Rattle.master.specs.declared.byte.ByteAnswer.TheVariants as byte
use Rattle.master.specs.Put.{Value, with_value}
use Rattle.master.specs.Write.{is_bytes, fits_signal}
use Rattle.master.specs.Start.{fresh_of}
use Rattle.master.specs.Admit.{buffer_size}
use Rattle.master.specs.Fits.{frame_there}
use Rattle.master.specs.Transfers.{format_of}
use Rattle.master.specs.Seq.{Seq, ∅, ◌▹◌}
use Rattle.master.specs.Calls as call
use Rattle.master.specs.Calls.{Call, Event, ◌⇒◌}
use Rattle.master.specs.Acts.{Act, nothing, wrote, selected, ticked, took, status_read, sending, on_write, on_byte, act_of}
use Rattle.master.specs.Run.{answer_of, held_after, history_of}
use Rattle.master.specs.Schedule.{Scheduled, act, schedule, scheduled}
use Rattle.master.specs.History.{is_success, succeeds, open_after, got_after}
use Rattle.master.specs.Answering.{stored_by, bytes_after, received_in, received_after, read_from, scalar_read, array_given}
use Rattle.master.specs.Replies.{byte_reply, received_reply, read_reply, read_array_reply}
use Rattle.master.specs.Claim.{record_of}
use Rattle.master.specs.InWords.{start_value, ReadsAs, brought_by, received_with, received_value}
use Rattle.master.proofs.Answered.{Writable}
use Rattle.master.proofs.Admitted.{fits_clauses}
use Rattle.master.proofs.History.LastWrite.{Holds, holds_other, holds_bits, call_allowed, read_number_lem, reads}
use Rattle.master.proofs.History.Runs.{RepliesTo, good_step, table_taken, fresh_table, agrees}
use Rattle.master.proofs.History.Steps.{steps}
use Rattle.std.specs.Prelude.{Ok}
use Rattle.std.specs.Prelude.{Err}
use Rattle.std.specs.Prelude.{Some, None, Option}

-- what is known of a signal, and what the buffer then holds
abbrev Known : List ℕ → List ℕ → ℕ → Option ℕ → Value → Type 0
Known t bs s None v = v ≡ start_value t s
Known t bs s (Some k) v = Of t s k × Holds t bs s k v

module _ (t : List ℕ) (ok : RightTable t) (bs : List ℕ) (size : length bs ≡ 8 * frame_count t) (f : ℕ) (there : f < frame_count t)
    (ds : List ℕ) (long : length ds ≡ frame_length t f) where
  fits_buffer : 8 * f + length ds ≤ length bs
  fits_buffer = omega (arith, frame_length_high t ok f there)

  -- a bit of a placement in the frame is that of the data
  stored_bit : (k : ℕ) → placement_frame t k ≡ f → (i : ℕ) → placement_offset t k + i < 8 * frame_length t f
      → bit_at (written bs (8 * f) ds) (place_of t k + i) ≡ bit_at ds (placement_offset t k + i)
  unfolding bit_at place_of
  stored_bit k e i b =
      let m = (placement_offset t k + i) / 8 in
      let at : (64 * placement_frame t k + placement_offset t k + i) / 8 ≡ 8 * f + m = omega arith in
      let in-byte : (64 * placement_frame t k + placement_offset t k + i) % 8 ≡ (placement_offset t k + i) % 8 = omega arith in
      rw (at, in-byte, written_inside bs (8 * f) ds fits_buffer m (omega arith))

  -- and one of a placement in another frame stays
  other_bit : (k : ℕ) → k < placement_count t → ¬ (placement_frame t k ≡ f) → (j : ℕ) → covers t k j ≡ true → bit_at (written bs (8 * f) ds) j ≡ bit_at bs j
  unfolding bit_at place_of
  other_bit k h n j q =
      let w = covered_from t k j q in
      let end = placement_end_high t ok k h in
      let high = frame_length_high t ok f there in
      order (placement_frame t k) f
      (λ l. rw (written_before bs (8 * f) ds fits_buffer (j / 8) (omega arith)))
      (λ l. order f (placement_frame t k)
      (λ m. rw (written_behind bs (8 * f) ds fits_buffer (j / 8) (omega arith)))
      (λ m. absurd (n (omega arith))))

  module _ (s : ℕ) (hs : s < signal_count t) where
    -- a success of a frame that has the signal brings it
    brought_holds : touches t s f ≡ true → Known t (written bs (8 * f) ds) s (Some (placement_in t s f)) (brought_by t s f ds)
    unfolding brought_by array_fits scalar_at array_at get_scalar get_array placement_width
    brought_holds y =
        whether (is_array t s)
        (λ a. rw a (o, (a, eq-eqb _ _ (bytes_length n from ∙ sym (whole a)), λ b. rw (whole a) (bytes_ext n to from bits))))
        (λ a. rw a (o, (a, scalar_is)))
      where
        k : ℕ
        k = placement_in t s f

        n : ℕ
        n = signal_width t s / 8

        o : Of t s k
        o = (in_touched t ok s f y).0

        to : ℕ → Bool
        to i = bit_at (written bs (8 * f) ds) (place_of t k + i)

        from : ℕ → Bool
        from i = bit_at ds (placement_offset t k + i)

        inside_frame : placement_offset t k + signal_width t s ≤ 8 * frame_length t f
        inside_frame = rw (o.is, (in_touched t ok s f y).1) at (placement_end t ok k o.there)

        whole : is_array t s ≡ true → array_length t s ≡ n
        whole a = array_length_lem t ok s hs a

        at_bit : (i : ℕ) → i < signal_width t s → to i ≡ from i
        at_bit i b = stored_bit k (in_touched t ok s f y).1 i (omega (arith, inside_frame))

        bits : (i : ℕ) → i < 8 * n → to i ≡ from i
        bits i b = at_bit i (omega arith)

        scalar_is : scalar_at t (written bs (8 * f) ds) s k ≡ get_scalar ds (placement_offset t k) (signal_width t s)
        scalar_is = number_ext _ to from (λ i b. at_bit i (omega arith))

    -- one of another frame leaves it
    left_holds : touches t s f ≡ false → (l : Option ℕ) (v : Value) → Known t bs s l v → Known t (written bs (8 * f) ds) s l v
    unfolding touches
    left_holds n None v is = is
    left_holds n (Some k) v is =
        let o = is.0 in (
          o,
          holds_bits t ok s hs k o (written bs (8 * f) ds) bs (other_bit k o.there (λ e.
              let z = some_none t s (λ j. eqb (placement_frame t j) f) n k o in
              let q = eq-eqb (placement_frame t k) f e in
              let w : ◌≡◌ {A = ℕ} 0 1 = cc in omega arith)) v is.1,
        )

-- ---- one event

module _ (t : List ℕ) (h : Seq Scheduled) (f : ℕ) (op : open_after t h ≡ Frame f) (p : published t f ≡ false) where
  -- success is answered when all data bytes came
  came : (e : Event) → RepliesTo t h e → on_byte (λ b a. is_success a) false (act_of e) ≡ true → frame_length t f ≤ length (got_after h)
  unfolding byte_reply received_reply
  came (call.byte_in b ⇒ r) e y =
      whether (ltb (length (got_after h)) (frame_length t f))
      (λ l.
      let q : r ≡ Ok byte.More = e ∙ rw (op, p, l) in
      let n = rw q at y in
      let z : ◌≡◌ {A = ℕ} 0 1 = cc in absurd (omega arith))
      (λ l. omega (arith, ltb-false (length (got_after h)) (frame_length t f) l))
  came (call.write w ⇒ Ok tt) e y = let z : ◌≡◌ {A = ℕ} 0 1 = cc in absurd (omega arith)
  came (call.write w ⇒ Err r) e y = let z : ◌≡◌ {A = ℕ} 0 1 = cc in absurd (omega arith)
  came (call.read s ⇒ a) e y = let z : ◌≡◌ {A = ℕ} 0 1 = cc in absurd (omega arith)
  came (call.read_array s ⇒ a) e y = let z : ◌≡◌ {A = ℕ} 0 1 = cc in absurd (omega arith)
  came (call.select n ⇒ Ok tt) e y = let z : ◌≡◌ {A = ℕ} 0 1 = cc in absurd (omega arith)
  came (call.select n ⇒ Err r) e y = let z : ◌≡◌ {A = ℕ} 0 1 = cc in absurd (omega arith)
  came (call.tick m ⇒ Ok tick.Waiting) e y = let z : ◌≡◌ {A = ℕ} 0 1 = cc in absurd (omega arith)
  came (call.tick m ⇒ Ok tick.Idle) e y = let z : ◌≡◌ {A = ℕ} 0 1 = cc in absurd (omega arith)
  came (call.tick m ⇒ Ok tick.Silent) e y = let z : ◌≡◌ {A = ℕ} 0 1 = cc in absurd (omega arith)
  came (call.tick m ⇒ Ok (tick.Opened q)) e y = let z : ◌≡◌ {A = ℕ} 0 1 = cc in absurd (omega arith)
  came (call.tick m ⇒ Err r) e y = let z : ◌≡◌ {A = ℕ} 0 1 = cc in absurd (omega arith)
  came (call.read_status ⇒ Ok w) e y = let z : ◌≡◌ {A = ℕ} 0 1 = cc in absurd (omega arith)
  came (call.read_status ⇒ Err r) e y = let z : ◌≡◌ {A = ℕ} 0 1 = cc in absurd (omega arith)
  came (call.send nad n ⇒ Ok tt) e y = let z : ◌≡◌ {A = ℕ} 0 1 = cc in absurd (omega arith)
  came (call.send nad n ⇒ Err r) e y = let z : ◌≡◌ {A = ℕ} 0 1 = cc in absurd (omega arith)
  came (call.message_state ⇒ a) e y = let z : ◌≡◌ {A = ℕ} 0 1 = cc in absurd (omega arith)
  came (call.number_ahead g ⇒ a) e y = let z : ◌≡◌ {A = ℕ} 0 1 = cc in absurd (omega arith)

-- of a frame that is received with success: it is there, and all its bytes came
abbrev Complete : List ℕ → Seq Scheduled → Scheduled → Type 0
Complete t h x =
    (f : ℕ) → succeeds x ≡ true → open_after t h ≡ Frame f → published t f ≡ false → (f < frame_count t) × (length (got_after h) ≡ frame_length t f)

module _ (t : List ℕ) (ok : RightTable t) (s : ℕ) (hs : s < signal_count t) (theirs : signal_published t s ≡ false) where
  -- a write is one of another signal
  known_written : (bs : List ℕ) (r : ℕ) (w : Value) → Writable t r (is_bytes w) (fits_signal t r w) → (l : Option ℕ) (v : Value) → Known t bs s l v
      → Known t (with_value t bs r w) s l v
  known_written bs r w a None v is = is
  known_written bs r w a (Some k) v is =
      (is.0, holds_other t ok s hs k is.0 bs r (λ e. let q = a.is_published in let z : ◌≡◌ {A = ℕ} 0 1 = cc in omega arith) w a v is.1)

  known_event : (h : Seq Scheduled) (x : Scheduled) → length (bytes_after t h) ≡ 8 * frame_count t
      → ((r : ℕ) (v : Value) → act x ≡ wrote r v → Writable t r (is_bytes v) (fits_signal t r v)) → Complete t h x
      → Known t (bytes_after t h) s (received_after t h s) (received_value t s h)
      → Known t (bytes_after t (h ▹ x)) s (received_after t (h ▹ x) s) (received_value t s (h ▹ x))
  unfolding bytes_after received_after received_value stored_by received_in received_with
  known_event h x l allowed complete is = whether (succeeds x) (λ y. rw y (by_open y (open_after t h) refl)) (λ y. rw y (by_act (act x) refl))
    where
      by_open : succeeds x ≡ true → (o : Opened) → open_after t h ≡ o
          → Known t (stored_by t o (got_after h) (bytes_after t h)) s (received_in t o s (received_after t h s)) (received_with t s o (got_after h) (received_value t s h))
      by_open y Nothing e = is
      by_open y (Frame f) e =
          whether (published t f)
          (λ p. rw p is)
          (λ p.
          let c = complete f y e p in
          whether (touches t s f)
          (λ w. rw (p, w) (brought_holds t ok (bytes_after t h) l f c.0 (got_after h) c.1 s hs w))
          (λ w. rw (p, w) (left_holds t ok (bytes_after t h) l f c.0 (got_after h) c.1 s hs w (received_after t h s) (received_value t s h) is)))
      by_open y Request e = is
      by_open y Response e = is

      by_act : (a : Act) → act x ≡ a
          → Known t (on_write (λ r v. with_value t (bytes_after t h) r v) (bytes_after t h) (act x)) s (received_after t h s) (received_value t s h)
      by_act nothing e = rw e is
      by_act (wrote r v) e = rw e (known_written (bytes_after t h) r v (allowed r v e) (received_after t h s) (received_value t s h) is)
      by_act (selected n) e = rw e is
      by_act (ticked m a) e = rw e is
      by_act (took b a) e = rw e is
      by_act status_read e = rw e is
      by_act (sending nad n) e = rw e is

-- ---- every history

module _ (t bs : List ℕ) (accepted : (fresh_of t bs).given.answer ≡ Ok tt) (s : ℕ) (hs : s < signal_count t) (theirs : signal_published t s ≡ false) where
  ok : RightTable t
  ok = fresh_table t bs accepted

  all_length : (cs : Seq Call) → length (bytes_after t (record_of t bs cs)) ≡ 8 * frame_count t
  unfolding buffer_size
  all_length cs = let is = (agrees t bs accepted cs).frames in rw (← is.bytes_are) is.size

  complete : (cs : Seq Call) (c : Call)
      → Complete t (record_of t bs cs) (schedule t (record_of t bs cs) (c ⇒ answer_of t (held_after t bs cs) c))
  unfolding succeeds schedule format_of frame_there
  complete cs c f y e p =
      let h = record_of t bs cs in
      let x = held_after t bs cs in
      let is = agrees t bs accepted cs in
      let good = good_step t h x is c (steps t (table_taken t bs accepted) h x is c) in
      let there = rw (is.transfer.opened_is, e) at (fits_clauses t x.state is.fits).frame_there_lem in
      let most = rw e at (good.short (rw e)) in
      (ltb-true f (frame_count t) there, omega (arith, most, came t h f e p (c ⇒ answer_of t x c) good.replies y))

  known_after : (cs : Seq Call)
      → Known t (bytes_after t (record_of t bs cs)) s (received_after t (record_of t bs cs) s) (received_value t s (record_of t bs cs))
  unfolding history_of scheduled schedule bytes_after received_after received_value
  known_after ∅ = refl
  known_after (cs ▹ c) =
      let h = record_of t bs cs in
      let x = held_after t bs cs in
      known_event t ok s hs theirs h (schedule t h (c ⇒ answer_of t x c)) (all_length cs) (call_allowed t x c) (complete cs c) (known_after cs)

  -- before any reception it reads as its start value
  reads_start : (cs : Seq Call) → received_after t (record_of t bs cs) s ≡ None → ReadsAs t (held_after t bs cs) s (start_value t s)
  unfolding start_value read_from read_reply read_array_reply scalar_read array_given start_read handed_out
  reads_start cs e =
      let h = record_of t bs cs in
      let x = held_after t bs cs in
      let st = steps t (table_taken t bs accepted) h x (agrees t bs accepted cs) in
      whether (is_array t s)
      (λ a.
      let n = array_length_lem t ok s hs a in
      let m = signal_width t s / 8 in
      let start = signal_start t s in
      let low : start % 256 ≡ start = mod-eq_of_lt (omega (arith, array_start_high t ok s hs a)) in
      rw a (λ b. (st (call.read_array s)).replies ∙ rw (read_number_lem t bs accepted s hs true a, theirs, e, n, low, length-replicate m start)))
      (λ a. rw a ((st (call.read s)).replies ∙ rw (read_number_lem t bs accepted s hs false a, theirs, e)))

  -- a signal that the master does not publish reads as its last reception brought it, or as its start value
  pub last_reception : (cs : Seq Call) → ReadsAs t (held_after t bs cs) s (received_value t s (record_of t bs cs))
  unfolding read_from
  last_reception cs = by (received_after t (record_of t bs cs) s) refl (known_after cs)
    where
      v : Value
      v = received_value t s (record_of t bs cs)

      by : (l : Option ℕ) → received_after t (record_of t bs cs) s ≡ l → Known t (bytes_after t (record_of t bs cs)) s l v → ReadsAs t (held_after t bs cs) s v
      by None e is = rw is (reads_start cs e)
      by (Some k) e is =
          reads t bs accepted s hs cs k (rw (theirs, e)) v (rw (agrees t bs accepted cs).frames.bytes_are is.1)
