-- The check of the placements: the words read are the fields, and the marks tell which bits are occupied, which signal stands in a frame already, and
-- whether a signal's frames have one publisher.
use Prim.Native.Nat.{ℕ, ◌+◌, ◌*◌, ◌≤◌, ◌<◌}
use mathlib.Core.Path.{◌≡◌, refl, sym, ◌∙◌, ap}
use mathlib.Core.Bool.{Bool, true, false, ◌||◌, and-false}
use mathlib.Core.List.{List, ◌++◌}
use native.Mathlib.Decide.{ℕ_discrete}
use native.Mathlib.Omega.{arith}
use borrow.Author.Tests.{ltb-false}
use lib.Dec.{ltb, eqb}
use lib.ListN.{get_or, set, replicate, length-set, length-replicate}
use lib.Seq.{get_or-set_same, get_or-set_other}
use Rattle.wire.specs.Bits.{bit}
use Rattle.wire.proofs.Tests.{whether}
use Rattle.signal.specs.Signal.{inside}
use Rattle.cluster.specs.Check.{fault, faults}
use Rattle.cluster.specs.Columns.{follows, offset_right, placement_signal_right, placement_frame_right, placement_offset_right, placement_columns}
use Rattle.cluster.specs.Passed.{unmarked, last_of, occupied_of, mixes, CountsUp, PlacementsPassed, last_in, frame_before}
use Rattle.cluster.specs.Read.{InLimits, RecordsBefore, IsRecord, due, leading, hits}
use Rattle.cluster.specs.Right.{frame_bits, again, mixed, sticks_out, overlaps, placement_right, counts_up}
use Rattle.cluster.specs.Table.{most_frames, frame_count, frame_length, signal_count, signal_width, is_array, counted}
use Rattle.cluster.specs.Table.{placement_count, placement_words, placement_at, placement_signal, placement_frame, placement_offset, placement_width}
use Rattle.cluster.specs.declared.placements.Mark.{Mark}
use Rattle.cluster.specs.declared.placements.Passed.{Passed}
use Rattle.cluster.proofs.BitMarks.{none_marked, bits_marked, overlap_is}
use Rattle.cluster.proofs.Clauses.{signal_says, frame_says, offset_says}
use Rattle.cluster.proofs.Counting.{counted_none, counted_next}
use Rattle.cluster.proofs.PlacementMarks.{frame_next, last_marked, again_is, last_high, mixed_is}
use Rattle.cluster.proofs.Scan.{Agrees, leading_all, all_there, stops_at, goes_to}
use Rattle.cluster.proofs.StickingOut.{out_is}
use Rattle.cluster.proofs.UsedMarks.{get_d_same}
use Rattle.cluster.proofs.Widths.{offset_below, width_range}

pub none_passed : (t : List ℕ) (first : ℕ) → InLimits t → RecordsBefore t → first ≡ placement_at t 0
    → PlacementsPassed t 0 (record { first = first; marks = replicate most_frames unmarked; placed = 0; frame = 0 })
unfolding frame_before last_in
none_passed t first limits records at =
    let none = get_d_same most_frames unmarked in
    record {
      limits = limits;
      records = records;
      first = at;
      size = length-replicate most_frames unmarked;
      bits = none_marked t _ (λ f. ap Mark.occupied (none f));
      lasts = λ f. ap Mark.last (none f);
      counts = sym (counted_none (placement_signal t) 0 refl);
      before = refl;
      there = record {
        signals = omega arith;
        frame = λ h. absurd (omega arith);
        marks = λ f. omega (arith, ap Mark.last (none f));
      };
      up = λ j h. absurd (omega arith);
      one = λ j h. absurd (omega arith);
    }

module _ (t : List ℕ) (k : ℕ) (x : Passed) (p : PlacementsPassed t k x) (more : k < placement_count t) (w : List ℕ)
    (read_at : IsRecord t (x.first + placement_words * k) placement_words w) where
  here : x.first + placement_words * k ≡ placement_at t k
  here = omega (arith, p.first)

  read : IsRecord t (placement_at t k) placement_words w
  read = rw here at read_at

  -- the record's words as they are read, with the marks
  abbrev columns : ℕ → ℕ → ℕ → List Bool
  columns s f o =
      placement_columns (signal_count t) (frame_count t) (follows x.placed s) (eqb (last_of x f) (s + 1)) (mixes t x s f)
      (is_array t s) (8 * frame_length t f) (ltb (8 * frame_length t f) (o + signal_width t s)) (hits (occupied_of x f) o (signal_width t s)) s f o

  abbrev pub seen : List Bool
  seen = columns (get_or w 0 0) (get_or w 1 0) (get_or w 2 0)

  abbrev signal_read : ℕ
  signal_read = due t (placement_at t k)

  abbrev frame_read : ℕ
  frame_read = due t (placement_at t k + 1)

  abbrev offset_read : ℕ
  offset_read = due t (placement_at t k + 2)

  abbrev due_seen : List Bool
  due_seen = columns signal_read frame_read offset_read

  same : seen ≡ due_seen
  same = rw (read 0 (omega arith), read 1 (omega arith), read 2 (omega arith))

  abbrev bits_read : ℕ
  bits_read = 8 * frame_length t frame_read

  abbrev width_read : ℕ
  width_read = signal_width t signal_read

  abbrev up_read : Bool
  up_read = follows x.placed signal_read

  abbrev again_read : Bool
  again_read = eqb (last_of x frame_read) (signal_read + 1)

  abbrev mixed_read : Bool
  mixed_read = mixes t x signal_read frame_read

  abbrev out_read : Bool
  out_read = ltb bits_read (offset_read + width_read)

  abbrev hit_read : Bool
  hit_read = hits (occupied_of x frame_read) offset_read width_read

  -- the signals up to this one count up, where this one does
  up_here : counts_up (placement_signal t) k ≡ true → CountsUp (placement_signal t) (k + 1)
  up_here h j b =
      elim (ℕ_discrete j k) [
        | yes e ↦ rw e h
        | no d ↦ p.up j (omega arith)
      ]

  -- the marks tell what the definition asks
  frame_agrees : counts_up (placement_signal t) k ≡ true
      → (again t k ≡ eqb (last_of x (placement_frame t k)) (placement_signal t k + 1))
      × (mixed t k ≡ mixes t x (placement_signal t k) (placement_frame t k))
  frame_agrees h = (
    again_is t (k + 1) (up_here h) k (omega arith) ∙ rw (p.lasts (placement_frame t k)),
    mixed_is t (k + 1) (up_here h) k (omega arith) p.one ∙ rw (p.counts, p.before),
  )

  offset_agrees : placement_signal t k < signal_count t → placement_frame t k < frame_count t → (array : Bool)
      → placement_offset_right array (frame_bits t k) (sticks_out t k) (overlaps t k) (placement_offset t k)
      ≡ placement_offset_right array (frame_bits t k) (ltb (frame_bits t k) (placement_offset t k + placement_width t k))
      (hits (occupied_of x (placement_frame t k)) (placement_offset t k) (placement_width t k)) (placement_offset t k)
  unfolding placement_width
  offset_agrees s f array =
      let bits = frame_bits t k in
      let o = placement_offset t k in
      let w = placement_width t k in
      let short : bits ≤ 64 = omega (arith, p.records.short (placement_frame t k) f) in
      let wide = width_range (is_array t (placement_signal t k)) w (p.records.widths (placement_signal t k) s) in
      whether (offset_right array bits o)
      (λ y. rw (out_is t k (offset_below array bits o y) short wide.1)
      (whether (ltb bits (o + w))
      (λ z. simp (z, and-false))
      (λ z. let in_frame = ltb-false bits (o + w) z in
      rw (overlap_is t k (occupied_of x) p.bits (omega arith) f))))
      (λ y. simp y)

  agrees : Agrees t (placement_at t k) 0 due_seen (placement_right t k)
  unfolding placement_columns placement_right placement_signal placement_frame placement_offset placement_width
  agrees = (
    (λ e. omega (arith, signal_says (signal_count t) up_read signal_read e, p.records.signals)),
    (λ s. (
      rw (s, p.counts),
      λ e0. let says = signal_says (signal_count t) up_read signal_read e0 in
          let up : counts_up (placement_signal t) k ≡ true = rw (s, p.counts) at says.0 in
          let marks = frame_agrees up in (
            (λ e. omega (arith, frame_says (frame_count t) again_read mixed_read frame_read e, p.records.frames)),
            (λ f. (
              rw (s, f, marks.0, marks.1),
              λ e1. let frame = frame_says (frame_count t) again_read mixed_read frame_read e1 in (
                (λ e.
                    let right = offset_says (is_array t signal_read) bits_read out_read hit_read offset_read e in
                    omega (arith, offset_below (is_array t signal_read) bits_read offset_read right.0, p.records.short frame_read frame.0)),
                (λ o. (rw (s, f, o) (offset_agrees (omega arith) (omega arith) (is_array t (placement_signal t k))), λ _. refl)),
              ),
            )),
          ),
    )),
  )

  -- a word is not right
  pub stops : (j place : ℕ) → leading seen ≡ j → j < placement_words → x.first + placement_words * k + j ≡ place
      → (rest : List Bool) → faults t (placement_at t k) (placement_right t k ++ rest) ≡ fault place
  unfolding placement_columns
  stops j place l b e = stops_at t (placement_at t k) due_seen (placement_right t k) agrees j place (rw same at l) b (omega (arith, here, e))

  pub all_right : placement_signal_right (signal_count t) (follows x.placed (get_or w 0 0)) (get_or w 0 0) ≡ true
      → placement_frame_right (frame_count t) (eqb (last_of x (get_or w 1 0)) (get_or w 0 0 + 1)) (mixes t x (get_or w 0 0) (get_or w 1 0))
      (get_or w 1 0) ≡ true
      → placement_offset_right (is_array t (get_or w 0 0)) (8 * frame_length t (get_or w 1 0))
      (ltb (8 * frame_length t (get_or w 1 0)) (get_or w 2 0 + signal_width t (get_or w 0 0)))
      (hits (occupied_of x (get_or w 1 0)) (get_or w 2 0) (signal_width t (get_or w 0 0))) (get_or w 2 0)
      ≡ true
      → leading seen ≡ placement_words
  unfolding placement_columns leading
  all_right signal frame offset = simp (signal, frame, offset)

  -- all words are right
  module _ (right : leading seen ≡ placement_words) where
    pub goes_on : (rest : List Bool) → faults t (placement_at t k) (placement_right t k ++ rest) ≡ faults t (placement_at t (k + 1)) rest
    unfolding placement_columns
    goes_on = goes_to t (placement_at t k) due_seen (placement_right t k) agrees (placement_at t (k + 1)) (rw same at right) (omega arith)

    all : placement_words ≤ leading due_seen
    all = omega (arith, rw same at right)

    signal_right_lem : (up_read ≡ true) × (signal_read < signal_count t)
    unfolding placement_columns
    signal_right_lem = signal_says (signal_count t) up_read signal_read (leading_all due_seen all).0

    frame_right_lem : (frame_read < frame_count t) × (again_read ≡ false) × (mixed_read ≡ false)
    unfolding placement_columns
    frame_right_lem = frame_says (frame_count t) again_read mixed_read frame_read (leading_all due_seen all).1.0

    offset_right_lem : (offset_right (is_array t signal_read) bits_read offset_read ≡ true) × (out_read ≡ false) × (hit_read ≡ false)
    unfolding placement_columns
    offset_right_lem = offset_says (is_array t signal_read) bits_read out_read hit_read offset_read (leading_all due_seen all).1.1.0

    -- the placement's bits are free
    free_read : ((1 ≤ width_read) × (offset_read + width_read ≤ 64)) × (hit_read ≡ false)
    free_read =
        let width = width_range (is_array t signal_read) width_read (p.records.widths signal_read signal_right_lem.1) in
        let inside = ltb-false bits_read (offset_read + width_read) offset_right_lem.1 in
        ((width.0, omega (arith, p.records.short frame_read frame_right_lem.0)), offset_right_lem.2)

    pub is_free : (width : ℕ) → width ≡ signal_width t (get_or w 0 0)
        → ((1 ≤ width) × (get_or w 2 0 + width ≤ 64)) × (hits (occupied_of x (get_or w 1 0)) (get_or w 2 0) width ≡ false)
    is_free width e = rw (e, read 0 (omega arith), read 1 (omega arith), read 2 (omega arith)) free_read

    are : (get_or w 0 0 ≡ placement_signal t k) × (get_or w 1 0 ≡ placement_frame t k) × (get_or w 2 0 ≡ placement_offset t k)
    unfolding placement_columns placement_signal placement_frame placement_offset
    are =
        let there = all_there t (placement_at t k) 0 due_seen (placement_right t k) agrees (leading_all due_seen all) in
        (rw (read 0 (omega arith)) there.0, rw (read 1 (omega arith)) there.1.0, rw (read 2 (omega arith)) there.1.1.0)

    reads : (signal_read ≡ placement_signal t k) × (frame_read ≡ placement_frame t k) × (offset_read ≡ placement_offset t k)
    reads = (sym (read 0 (omega arith)) ∙ are.0, sym (read 1 (omega arith)) ∙ are.1, sym (read 2 (omega arith)) ∙ are.2)

    up_right : counts_up (placement_signal t) k ≡ true
    up_right = rw (reads.0, p.counts) at signal_right_lem.0

    one_right : mixed t k ≡ false
    one_right = (frame_agrees up_right).1 ∙ (rw (reads.0, reads.1) at frame_right_lem.2)

    one_more : (j : ℕ) → j < k + 1 → mixed t j ≡ false
    one_more j b =
        elim (ℕ_discrete j k) [
          | yes e ↦ rw e one_right
          | no d ↦ p.one j (omega arith)
        ]

    -- what is known with this placement
    module _ (r : ℕ) where
      abbrev pub next : Passed
      next = record {
        first = x.first;
        marks = set x.marks (get_or w 1 0) (record { occupied = r; last = get_or w 0 0 + 1 });
        placed = get_or w 0 0 + 1;
        frame = get_or w 1 0;
      }

      mark_here : get_or next.marks (placement_frame t k) unmarked ≡ record { occupied = r; last = get_or w 0 0 + 1 }
      mark_here =
          let below : placement_frame t k < most_frames = omega (arith, reads.1, frame_right_lem.0, p.records.frames) in
          rw are.1 (get_or-set_same x.marks (placement_frame t k) (record { occupied = r; last = get_or w 0 0 + 1 }) unmarked (omega (arith, p.size)))

      mark_other : (f : ℕ) → (f ≡ placement_frame t k → ⊥) → get_or next.marks f unmarked ≡ get_or x.marks f unmarked
      mark_other f d = rw are.1 (get_or-set_other x.marks (placement_frame t k) f (record { occupied = r; last = get_or w 0 0 + 1 }) unmarked d)

      lasts_more : (f : ℕ) → last_of next f ≡ last_in t (k + 1) f
      lasts_more =
          last_marked t k (last_of x) (last_of next) p.lasts (ap Mark.last mark_here ∙ rw are.0) (λ f d. ap Mark.last (mark_other f d))

      counts_more : next.placed ≡ counted (placement_signal t) (k + 1)
      counts_more = rw are.0 (sym (counted_next (placement_signal t) k))

      pub passes : ((j : ℕ) → bit r j ≡ (bit (occupied_of x (get_or w 1 0)) j || inside (get_or w 2 0) (signal_width t (get_or w 0 0)) j))
          → PlacementsPassed t (k + 1) next
      unfolding placement_width
      passes put = record {
        limits = p.limits;
        records = p.records;
        first = p.first;
        size = rw length-set p.size;
        bits =
            bits_marked t k (occupied_of x) p.bits (rw (reads.0, reads.2) at free_read.0.1) (occupied_of next)
            (λ f d. ap Mark.occupied (mark_other f d))
            (λ j. rw (ap Mark.occupied mark_here) (rw (are.0, are.1, are.2) at (put j)));
        lasts = lasts_more;
        counts = counts_more;
        before = are.1 ∙ sym (frame_next t k);
        there = record {
          signals = omega (arith, read 0 (omega arith), signal_right_lem.1);
          frame = λ _. rw (read 1 (omega arith)) frame_right_lem.0;
          marks = λ f. omega (arith, lasts_more f, last_high t (k + 1) (up_here up_right) (k + 1) f (omega arith), counts_more);
        };
        up = up_here up_right;
        one = one_more;
      }
