-- Laws of an accepted table's placements, each for every placement of the table.
use Prim.Native.Nat.{ℕ, ◌+◌, ◌*◌, ◌%◌, ◌≤◌, ◌<◌}
use mathlib.Core.Path.{◌≡◌, refl, sym, ◌∙◌}
use mathlib.Core.Bool.{Bool, true, false, not, cond, ◌&&◌, beq}
use mathlib.Core.List.{List}
use native.Mathlib.Omega.{arith}
use borrow.Author.Tests.{leb-true, eqb-true, eqb-false, eq-eqb}
use lib.Dec.{ltb, eqb}
use Rattle.wire.proofs.Tests.{and_left, and_right}
use Rattle.signal.proofs.Inside.{order}
use Rattle.cluster.specs.Check.{RightTable}
use Rattle.cluster.specs.Columns.{offset_right, placement_columns}
use Rattle.cluster.specs.Lists.{first_from}
use Rattle.cluster.specs.Places.{place_of, places}
use Rattle.cluster.specs.Right.{frame_bits, again, mixed, sticks_out, overlaps, placement_right, all_placed, counts_up}
use Rattle.cluster.specs.Table.{frame_count, frame_length, published, signal_count, is_array, placed_signals}
use Rattle.cluster.specs.Table.{placement_count, placement_signal, placement_frame, placement_offset, placement_width}
use Rattle.cluster.specs.Values.{touches, first_placement, placement_in, signal_published}
use Rattle.cluster.proofs.Accepted.{placement_right_lem, all_placed_lem}
use Rattle.cluster.proofs.Clauses.{signal_says, frame_says, offset_says}
use Rattle.cluster.proofs.CountingUp.{up_each}
use Rattle.cluster.specs.Passed.{CountsUp}
use Rattle.cluster.proofs.EarlierPlacement.{same_test, none_earlier}
use Rattle.cluster.proofs.FrameLaws.{frame_length_high}
use Rattle.cluster.proofs.Searching.{first_holds, first_least}
use Rattle.cluster.proofs.SignalLaws.{signal_width_lem}
use Rattle.cluster.proofs.SomePlacement.{Of, placed, some_found, first_of}
use Rattle.cluster.proofs.StickingOut.{not_out}
use Rattle.cluster.proofs.Widths.{offset_below}

module _ (t : List ℕ) (ok : RightTable t) where
  module _ (k : ℕ) (h : k < placement_count t) where
    signal_column : (counts_up (placement_signal t) k ≡ true) × (placement_signal t k < signal_count t)
    unfolding placement_right placement_columns
    signal_column = signal_says (signal_count t) (counts_up (placement_signal t) k) (placement_signal t k) (placement_right_lem t ok k h).0

    frame_column : (placement_frame t k < frame_count t) × (again t k ≡ false) × (mixed t k ≡ false)
    unfolding placement_right placement_columns
    frame_column = frame_says (frame_count t) (again t k) (mixed t k) (placement_frame t k) (placement_right_lem t ok k h).1.0

    offset_column : (offset_right (is_array t (placement_signal t k)) (frame_bits t k) (placement_offset t k) ≡ true)
        × (sticks_out t k ≡ false) × (overlaps t k ≡ false)
    unfolding placement_right placement_columns
    offset_column =
        offset_says (is_array t (placement_signal t k)) (frame_bits t k) (sticks_out t k) (overlaps t k) (placement_offset t k)
        (placement_right_lem t ok k h).1.1.0

    -- a placement is one of a signal of the table
    pub placement_signal_below : placement_signal t k < signal_count t
    placement_signal_below = signal_column.1

    -- and stands in a frame of the table
    pub placement_frame_below : placement_frame t k < frame_count t
    placement_frame_below = frame_column.0

    -- it has as many bits as its signal: 1 to 64
    pub placement_width_lem : (1 ≤ placement_width t k) × (placement_width t k ≤ 64)
    unfolding placement_width
    placement_width_lem = signal_width_lem t ok (placement_signal t k) placement_signal_below

    -- it ends inside its frame
    pub placement_end : placement_offset t k + placement_width t k ≤ 8 * frame_length t (placement_frame t k)
    placement_end =
        let offset = offset_below (is_array t (placement_signal t k)) (frame_bits t k) (placement_offset t k) offset_column.0 in
        not_out t k offset (omega (arith, frame_length_high t ok (placement_frame t k) placement_frame_below)) placement_width_lem.1 offset_column.1

    -- and inside its eight bytes
    pub placement_end_high : placement_offset t k + placement_width t k ≤ 64
    placement_end_high = omega (arith, placement_end, frame_length_high t ok (placement_frame t k) placement_frame_below)

    -- no bit of it belongs to an earlier one
    pub no_overlap : overlaps t k ≡ false
    no_overlap = offset_column.2

    -- one of an array begins at a byte
    pub array_offset : is_array t (placement_signal t k) ≡ true → placement_offset t k % 8 ≡ 0
    unfolding offset_right
    array_offset a =
        let w = and_right (ltb (placement_offset t k) (frame_bits t k))
        (cond (is_array t (placement_signal t k)) (eqb (placement_offset t k % 8) 0) true) offset_column.0 in
        eqb-true (placement_offset t k % 8) 0 (rw a at w)

    -- a placement ends inside the frame buffer
    pub place_end : place_of t k + placement_width t k ≤ 8 * (8 * frame_count t)
    unfolding place_of
    place_end = omega (arith, placement_end_high, placement_frame_below)

  -- the signals of the placements count up
  pub signals_up : CountsUp (placement_signal t) (placement_count t)
  signals_up k h = (signal_column k h).0

  -- each signal has a placement
  pub has_placement : (s : ℕ) → s < signal_count t → (k : ℕ) × Of t s k
  unfolding all_placed placed_signals
  has_placement s h =
      let all = leb-true (signal_count t) (placed_signals t) (all_placed_lem t ok) in
      let w = up_each (placement_signal t) (placement_count t) signals_up s (omega arith) in
      (w.0, record { there = w.1; is = w.2 })

  -- a later placement of a signal is in a frame of the same publisher as an earlier one, and in another frame
  module _ (s j k : ℕ) (a : Of t s j) (b : Of t s k) (l : j < k) where
    later_publisher : published t (placement_frame t j) ≡ published t (placement_frame t k)
    unfolding mixed
    later_publisher =
        same_test (published t (placement_frame t j)) (published t (placement_frame t k))
        (none_earlier t k (λ i. not (beq (published t (placement_frame t i)) (published t (placement_frame t k))))
        (frame_column k b.there).2 j l (a.is ∙ sym b.is))

    later_frame : placement_frame t j ≡ placement_frame t k → ⊥
    unfolding again
    later_frame =
        eqb-false (placement_frame t j) (placement_frame t k)
        (none_earlier t k (λ i. eqb (placement_frame t i) (placement_frame t k)) (frame_column k b.there).1 j l (a.is ∙ sym b.is))

  -- two placements of one signal are in frames of one publisher
  pub same_publisher : (s j k : ℕ) → Of t s j → Of t s k → published t (placement_frame t j) ≡ published t (placement_frame t k)
  same_publisher s j k a b =
      order j k
      (λ l. later_publisher s j k a b l)
      (λ l. order k j
      (λ m. sym (later_publisher s k j b a m))
      (λ m. let e : j ≡ k = omega arith in rw e))

  -- and in two frames
  pub one_a_frame : (s j k : ℕ) → Of t s j → Of t s k → placement_frame t j ≡ placement_frame t k → j ≡ k
  one_a_frame s j k a b e =
      order j k
      (λ l. absurd (later_frame s j k a b l e))
      (λ l. order k j (λ m. absurd (later_frame s k j b a m (sym e))) (λ m. omega arith))

  -- the first placement of a signal is one of its placements
  pub first_there : (s : ℕ) → s < signal_count t → Of t s (first_placement t s)
  first_there s h = let w = has_placement s h in first_of t s w.0 w.1

  -- a signal is published exactly where the frames of its placements are
  pub published_as : (s k : ℕ) → Of t s k → signal_published t s ≡ published t (placement_frame t k)
  unfolding signal_published
  published_as s k o = same_publisher s (first_placement t s) k (first_of t s k o) o

  -- the placement of a signal in a frame is the one that stands there
  pub in_frame : (s k : ℕ) → Of t s k → placement_in t s (placement_frame t k) ≡ k
  unfolding placement_in
  in_frame s k o =
      let f = placement_frame t k in
      let test : ℕ → Bool = (λ j. places t s j && eqb (placement_frame t j) f) in
      let first = first_from test 0 (placement_count t) in
      let here : test k ≡ true = rw (placed t s k o, eq-eqb f f refl) in
      let low = first_least test 0 (placement_count t) k (omega arith) here in
      let holds = first_holds test 0 (placement_count t) (omega (arith, o.there)) in
      let is : Of t s first = record {
        there = omega (arith, o.there);
        is = eqb-true (placement_signal t first) s (and_left (places t s first) (eqb (placement_frame t first) f) holds);
      } in
      one_a_frame s first k is o (eqb-true (placement_frame t first) f (and_right (places t s first) (eqb (placement_frame t first) f) holds))

  -- and where the signal touches the frame there is one
  pub in_touched : (s f : ℕ) → touches t s f ≡ true → Of t s (placement_in t s f) × (placement_frame t (placement_in t s f) ≡ f)
  unfolding touches
  in_touched s f h =
      let w = some_found t s (λ k. eqb (placement_frame t k) f) h in
      let k = w.0 in
      let e : placement_frame t k ≡ f = eqb-true (placement_frame t k) f w.2 in
      let p : placement_in t s f ≡ k = rw e at (in_frame s k w.1) in
      rw p (w.1, e)
