-- Where a signal's value lies in the frame buffer of an accepted table, in numbers: in each of its placements bit i of a scalar is
-- data bit offset + i
-- of the frame, and byte i of an array is data byte offset / 8 + i; what a write leaves there, and what a fresh call leaves.
use Prim.Native.Nat.{ℕ, ◌+◌, ◌-◌, ◌*◌, ◌/◌, ◌%◌, ◌^◌, ◌≤◌, ◌<◌}
use mathlib.Core.Path.{◌≡◌, refl, sym, ◌∙◌, ap}
use mathlib.Core.Bool.{Bool, true, false}
use mathlib.Core.List.{List, ◌++◌}
use mathlib.Core.Logic.{◌≢◌}
use native.Mathlib.Omega.{arith}
use lib.ListN.{length, get_or, replicate, get_or-replicate, get_or-append}
use lib.Seq.{get_or-append-add}
use Rattle.wire.specs.Bits.{bit, Bytes}
use Rattle.wire.proofs.Tests.{whether}
use Rattle.signal.specs.Signal.{bit_at, scalar_width, get_scalar, get_array}
use Rattle.signal.proofs.BytesOf.{bytes_length, bytes_at_lem, byte_is}
use Rattle.signal.proofs.Laws.{get_below}
use Rattle.signal.proofs.Numbers.{bit_number, number_ext}
use Rattle.cluster.specs.Check.{RightTable}
use Rattle.cluster.specs.Fresh.{array_length, fresh_bytes}
use Rattle.cluster.specs.Places.{place_of, covers, occupies}
use Rattle.cluster.specs.Table.{word, frame_count, signal_count, signal_width, signal_start, is_array}
use Rattle.cluster.specs.Table.{placement_count, placement_signal, placement_frame, placement_offset, placement_width}
use Rattle.cluster.specs.Values.{first_placement, scalar_at, array_at, with_scalar, with_array, handed_out, array_read, placement_in}
use Rattle.cluster.proofs.FieldLaws.{array_exactly, scalar_exactly, array_fits_exactly}
use Rattle.cluster.proofs.FreshLaws.{array_length_lem, fresh_free, fresh_scalar, fresh_array}
use Rattle.cluster.proofs.InWords.{F, S, P, signal_word, frame_word, kind_word, offset_word, width_word, start_word}
use Rattle.cluster.proofs.Occupied.{covered_from}
use Rattle.cluster.proofs.PlacementLaws.{placement_signal_below, placement_end_high, array_offset, in_frame}
use Rattle.cluster.proofs.SignalLaws.{scalar_width_high, array_width_whole}
use Rattle.cluster.proofs.SomePlacement.{Of, some_found, first_only}
use Rattle.cluster.proofs.Starts.{fresh_bytes_lem}
use Rattle.cluster.proofs.ValueLaws.{scalar_write, array_write, outside, written_bytes_lem, scalar_put_bit, array_put_bit}

-- "Data bits are numbered from the least significant bit of byte 0": data bit j of frame f, "eight [bytes] a frame"
abbrev pub data_bit : List ℕ → ℕ → ℕ → Bool
data_bit bs f j = bit (get_or bs (8 * f + j / 8) 0) (j % 8)

-- the same bit counted from the buffer's start
data_bit_lem : (bs : List ℕ) (f j : ℕ) → data_bit bs f j ≡ bit_at bs (64 * f + j)
unfolding bit_at
data_bit_lem bs f j =
    let q : (64 * f + j) / 8 ≡ 8 * f + j / 8 = omega arith in
    let r : (64 * f + j) % 8 ≡ j % 8 = omega arith in
    rw (q, r)

-- data bit j of frame f is no bit of placement k
abbrev pub Beside : List ℕ → ℕ → ℕ → ℕ → Type 0
Beside t k f j = frame_word t k ≡ f → offset_word t k ≤ j → j < offset_word t k + width_word t (signal_word t k) → ⊥

-- data bit j of frame f is no bit of signal s: of none of its placements
abbrev pub Outside : List ℕ → ℕ → ℕ → ℕ → Type 0
Outside t s f j = (k : ℕ) → k < P t → signal_word t k ≡ s → Beside t k f j

module _ (t : List ℕ) (ok : RightTable t) where
  -- a bit that is no placement's is not covered by it
  beside : (k f j : ℕ) → k < P t → j < 64 → Beside t k f j → covers t k (64 * f + j) ≡ false
  unfolding place_of placement_count placement_signal placement_frame placement_offset placement_width signal_width signal_count frame_count word
  beside k f j h b out =
      whether (covers t k (64 * f + j))
      (λ y. let w = covered_from t k (64 * f + j) y in
      let e = placement_end_high t ok k h in
      absurd (out (omega arith) (omega arith) (omega arith)))
      (λ n. n)

  -- a bit that is not the signal's is not occupied by it
  not_its : (s f j : ℕ) → j < 64 → Outside t s f j → occupies t s (64 * f + j) ≡ false
  unfolding occupies placement_count placement_signal signal_count frame_count word
  not_its s f j b out =
      whether (occupies t s (64 * f + j))
      (λ y. let w = some_found t s (λ k. covers t k (64 * f + j)) y in
      let k = w.0 in
      let z : ◌≡◌ {A = Bool} true false = sym w.2 ∙ beside k f j w.1.there b (out k w.1.there w.1.is) in
      let n : ◌≡◌ {A = ℕ} 0 1 = cc in absurd (omega arith))
      (λ n. n)

  module _ (s : ℕ) where
    -- every bit but the signal's is as it was
    pub scalar_bit_kept : (bs : List ℕ) (v f j : ℕ) → j < 64 → Outside t s f j → data_bit (with_scalar t bs s v) f j ≡ data_bit bs f j
    scalar_bit_kept bs v f j b out =
        data_bit_lem (with_scalar t bs s v) f j
        ∙ outside t bs s (with_scalar t bs s v) (scalar_write t bs s v) (64 * f + j) (not_its s f j b out)
        ∙ sym (data_bit_lem bs f j)

    pub array_bit_kept : s < S t → kind_word t s ≡ 1 → (bs vs : List ℕ) → length vs ≡ width_word t s / 8 → (f j : ℕ) → j < 64 → Outside t s f j
        → data_bit (with_array t bs s vs) f j ≡ data_bit bs f j
    array_bit_kept h k1 bs vs lv f j b out =
        let fits = (array_fits_exactly t ok s h k1 vs).1 lv in
        data_bit_lem (with_array t bs s vs) f j
        ∙ outside t bs s (with_array t bs s vs) (array_write t bs s vs fits) (64 * f + j) (not_its s f j b out)
        ∙ sym (data_bit_lem bs f j)

-- placement k, of signal s
module _ (t : List ℕ) (ok : RightTable t) (s k : ℕ) (there : k < P t) (its : signal_word t k ≡ s) where
  of : Of t s k
  unfolding placement_count placement_signal signal_count frame_count word
  of = record { there = there; is = its }

  signal_below : s < S t
  unfolding signal_count word
  signal_below = rw of.is at (placement_signal_below t ok k of.there)

  place_is : place_of t k ≡ 64 * frame_word t k + offset_word t k
  unfolding place_of placement_frame placement_offset frame_count signal_count word
  place_is = refl

  wide : placement_width t k ≡ width_word t s
  unfolding placement_width signal_width frame_count word
  wide = ap (signal_width t) of.is

  -- bit i of the signal in this placement, counted from its frame's start and from the buffer's
  own_bit : (bs : List ℕ) (i : ℕ) → data_bit bs (frame_word t k) (offset_word t k + i) ≡ bit_at bs (place_of t k + i)
  own_bit bs i = data_bit_lem bs (frame_word t k) (offset_word t k + i) ∙ ap (bit_at bs) (omega (arith, place_is))

  -- the first placement of a signal, of which a published one is read
  module _ (first : (j : ℕ) → j < k → signal_word t j ≢ s) where
    pub first_exactly : first_placement t s ≡ k
    unfolding placement_count placement_signal signal_count frame_count word
    first_exactly = first_only t s k of first

  -- and a placement of a signal in a frame is the one that stands there
  pub placement_in_exactly : placement_in t s (frame_word t k) ≡ k
  unfolding placement_frame signal_count frame_count word
  placement_in_exactly = in_frame t ok s k of

  -- ---- a scalar

  module _ (k0 : kind_word t s ≡ 0) where
    is_scalar : is_array t s ≡ false
    is_scalar = (scalar_exactly t ok s signal_below).1 k0

    scalar_wide : scalar_width (signal_width t s) ≡ width_word t s
    unfolding signal_width signal_count frame_count word
    scalar_wide = omega (arith, scalar_width_high t ok s signal_below is_scalar)

    -- bit i of a scalar is data bit offset + i of the frame
    pub scalar_bit : (bs : List ℕ) (i : ℕ) → i < width_word t s
        → bit (scalar_at t bs s k) i ≡ bit (get_or bs (8 * frame_word t k + (offset_word t k + i) / 8) 0) ((offset_word t k + i) % 8)
    unfolding scalar_at get_scalar
    scalar_bit bs i b =
        bit_number (scalar_width (signal_width t s)) (λ m. bit_at bs (place_of t k + m)) i (omega (arith, scalar_wide))
        ∙ sym (own_bit bs i)

    -- and it has no further bits
    pub scalar_below : (bs : List ℕ) → scalar_at t bs s k < 2 ^ width_word t s
    unfolding scalar_at
    scalar_below bs = rw scalar_wide at (get_below bs (place_of t k) (signal_width t s))

    -- after a write data bit offset + i is bit i of the value
    pub scalar_bit_written : (bs : List ℕ) → length bs ≡ 8 * F t → (v i : ℕ) → i < width_word t s
        → bit (get_or (with_scalar t bs s v) (8 * frame_word t k + (offset_word t k + i) / 8) 0) ((offset_word t k + i) % 8) ≡ bit v i
    unfolding frame_count word
    scalar_bit_written bs l v i b =
        own_bit (with_scalar t bs s v) i
        ∙ scalar_put_bit t bs s v ok l k of i (omega (arith, scalar_wide))

    -- a fresh call leaves the start value there
    pub fresh_scalar_bit : (i : ℕ) → i < width_word t s
        → bit (get_or (fresh_bytes t) (8 * frame_word t k + (offset_word t k + i) / 8) 0) ((offset_word t k + i) % 8) ≡ bit (start_word t s) i
    unfolding scalar_at signal_start frame_count word
    fresh_scalar_bit i b = sym (scalar_bit (fresh_bytes t) i b) ∙ ap (λ (v : ℕ). bit v i) start_value_lem
      where
        start_value_lem : scalar_at t (fresh_bytes t) s k ≡ start_word t s
        start_value_lem = fresh_scalar t ok s k of is_scalar

  -- ---- an array

  module _ (k1 : kind_word t s ≡ 1) where
    is_array_lem : is_array t s ≡ true
    is_array_lem = (array_exactly t s).1 k1

    array_place : place_of t k ≡ 8 * (8 * frame_word t k + offset_word t k / 8)
    unfolding placement_offset frame_count signal_count word
    array_place = omega (arith, place_is, array_offset t ok k of.there (rw of.is is_array_lem))

    array_bytes : (array_length t s ≡ width_word t s / 8) × (width_word t s % 8 ≡ 0)
    unfolding signal_width signal_count frame_count word
    array_bytes = (array_length_lem t ok s signal_below is_array_lem, array_width_whole t ok s signal_below is_array_lem)

    -- an array has the bytes of its width
    pub array_count : (bs : List ℕ) → length (array_at t bs s k) ≡ width_word t s / 8
    unfolding array_at get_array
    array_count bs = bytes_length (array_length t s) (λ i. bit_at bs (place_of t k + i)) ∙ array_bytes.0

    -- byte i of an array is data byte offset / 8 + i of the frame
    pub array_byte : (bs : List ℕ) → Bytes bs → (i : ℕ) → i < width_word t s / 8
        → get_or (array_at t bs s k) i 0 ≡ get_or bs (8 * frame_word t k + offset_word t k / 8 + i) 0
    unfolding array_at get_array
    array_byte bs hb i b =
        let m = 8 * frame_word t k + offset_word t k / 8 + i in
        bytes_at_lem (array_length t s) (λ j. bit_at bs (place_of t k + j)) i (omega (arith, array_bytes))
        ∙ number_ext 8 (λ j. bit_at bs (place_of t k + (8 * i + j))) (λ j. bit_at bs (8 * m + j))
        (λ j _. ap (bit_at bs) (omega (arith, array_place)))
        ∙ byte_is bs m hb

    -- handed out in eight bytes: first those, and behind them 255
    pub array_read_exactly : (bs : List ℕ) → Bytes bs
        → ((array_read t bs s k).count ≡ width_word t s / 8)
        × ((i : ℕ) → i < width_word t s / 8
        → get_or (array_read t bs s k).bytes i 0 ≡ get_or bs (8 * frame_word t k + offset_word t k / 8 + i) 0)
        × ((i : ℕ) → width_word t s / 8 ≤ i → i < 8 → get_or (array_read t bs s k).bytes i 0 ≡ 255)
    unfolding array_read handed_out
    array_read_exactly bs hb =
        let own = array_at t bs s k in
        let unused : List ℕ = replicate (8 - array_length t s) 255 in (
          array_bytes.0,
          (λ i b. get_or-append own unused 0 i (omega (arith, array_count bs)) ∙ array_byte bs hb i b),
          (λ i a b.
              let e : i ≡ length own + (i - length own) = omega (arith, array_count bs) in
              ap (λ (n : ℕ). get_or (own ++ unused) n 0) e
              ∙ get_or-append-add own unused (i - length own) 0
              ∙ get_or-replicate (8 - array_length t s) (i - length own) 255 0 (omega (arith, array_count bs, array_bytes))),
        )

    -- after a write data byte offset / 8 + i is byte i of what was handed over
    pub array_byte_written : (vs : List ℕ) → length vs ≡ width_word t s / 8 → (bs : List ℕ) → length bs ≡ 8 * F t → Bytes bs → Bytes vs
        → (i : ℕ) → i < width_word t s / 8
        → get_or (with_array t bs s vs) (8 * frame_word t k + offset_word t k / 8 + i) 0 ≡ get_or vs i 0
    unfolding frame_count word
    array_byte_written vs lv bs l hb hv i b =
        let m = 8 * frame_word t k + offset_word t k / 8 + i in
        let fits = (array_fits_exactly t ok s signal_below k1 vs).1 lv in
        let after = with_array t bs s vs in
        sym (byte_is after m (written_bytes_lem t bs s after (array_write t bs s vs fits) hb))
        ∙ number_ext 8 (λ j. bit_at after (8 * m + j)) (λ j. bit_at vs (8 * i + j))
        (λ j c. ap (bit_at after) (omega (arith, array_place)) ∙ array_put_bit t bs s vs fits ok l k of (8 * i + j) (omega arith))
        ∙ byte_is vs i hv

    -- a fresh call leaves the start value in each byte
    pub fresh_array_byte : (i : ℕ) → i < width_word t s / 8
        → get_or (fresh_bytes t) (8 * frame_word t k + offset_word t k / 8 + i) 0 ≡ start_word t s
    unfolding array_at signal_start frame_count word
    fresh_array_byte i b =
        sym (array_byte (fresh_bytes t) (fresh_bytes_lem t) i b)
        ∙ ap (λ (vs : List ℕ). get_or vs i 0) start_bytes_lem
        ∙ get_or-replicate (array_length t s) i (start_word t s) 0 (omega (arith, array_bytes))
      where
        start_bytes_lem : array_at t (fresh_bytes t) s k ≡ replicate (array_length t s) (start_word t s)
        start_bytes_lem = fresh_array t ok s k of is_array_lem

-- "255 everywhere": each bit of no placement is 1
pub fresh_other_bit : (t : List ℕ) → RightTable t → (f j : ℕ) → f < F t → j < 64 → ((k : ℕ) → k < P t → Beside t k f j)
    → data_bit (fresh_bytes t) f j ≡ true
unfolding placement_count signal_count frame_count word
fresh_other_bit t ok f j h b out =
    data_bit_lem (fresh_bytes t) f j ∙ fresh_free t (64 * f + j) (omega arith) (λ k hk. beside t ok k f j hk b (out k hk))
