-- Laws of the values in the frame buffer of an accepted table: what is written is read, in every placement, and nothing else changes.
use Prim.Native.Nat.{ℕ, ◌+◌, ◌*◌, ◌^◌, ◌<◌, ◌≤◌}
use mathlib.Core.Path.{◌≡◌, refl, sym, ◌∙◌, ap}
use mathlib.Core.Bool.{Bool, true, false}
use mathlib.Core.List.{List}
use mathlib.Core.Logic.{inl, inr, ⊎_elim}
use native.Mathlib.Nat.{mod-eq_of_lt}
use native.Mathlib.Omega.{arith}
use borrow.Author.Tests.{ltb-true, eqb-true, eqb-false}
use lib.Dec.{eqb}
use lib.ListN.{length, get_or}
use Rattle.wire.specs.Bits.{bit, Bytes}
use Rattle.signal.specs.Signal.{bit_at, scalar_width, get_scalar, put_scalar, get_array, put_array}
use Rattle.signal.proofs.BytesOf.{bytes_ext, bytes_are, byte_is}
use Rattle.signal.proofs.Numbers.{number_ext, number_mod}
use Rattle.cluster.specs.Check.{RightTable}
use Rattle.cluster.specs.Fresh.{array_length}
use Rattle.cluster.specs.Places.{place_of, covers, occupies, at_each}
use Rattle.cluster.specs.Table.{frame_count, published, signal_count, signal_width, is_array}
use Rattle.cluster.specs.Table.{placement_count, placement_frame, placement_width}
use Rattle.cluster.specs.Values.{touches, signal_published, value_fits, array_fits}
use Rattle.cluster.specs.Values.{scalar_at, array_at, with_scalar, with_array}
use Rattle.cluster.proofs.DisjointPlacements.{other_placement, other_bits}
use Rattle.cluster.proofs.EachPlacement.{put_at, each_length, each_bytes, each_alike, each_outside, each_inside}
use Rattle.cluster.proofs.Occupied.{covers_from, not_covered, covers_other}
use Rattle.cluster.proofs.PlacementLaws.{placement_frame_below, placement_end_high, place_end, published_as}
use Rattle.cluster.proofs.SignalLaws.{scalar_width_high}
use Rattle.cluster.proofs.SomePlacement.{Of, some_found, some_at, some_none}
use Rattle.cluster.proofs.Widths.{scalar_limit}

-- ---- a write leaves as many bytes, for every table

-- a write of a scalar leaves as many bytes
pub scalar_length : (t bs : List ℕ) (s v : ℕ) → length (with_scalar t bs s v) ≡ length bs
unfolding with_scalar put_scalar
scalar_length t bs s v = each_length t s (scalar_width (signal_width t s)) (bit v) 0 (placement_count t) bs

-- a write of an array leaves as many bytes
pub array_length_stays : (t bs : List ℕ) (s : ℕ) (vs : List ℕ) → length (with_array t bs s vs) ≡ length bs
unfolding with_array put_array
array_length_stays t bs s vs = each_length t s (8 * length vs) (bit_at vs) 0 (placement_count t) bs

-- ---- a byte after a write goes by what that byte was before

-- a write of a scalar
pub scalar_alike : (t bs cs : List ℕ) (s v i : ℕ) → length bs ≡ length cs → get_or bs i 0 ≡ get_or cs i 0
    → get_or (with_scalar t bs s v) i 0 ≡ get_or (with_scalar t cs s v) i 0
unfolding with_scalar put_scalar
scalar_alike t bs cs s v = each_alike t s (scalar_width (signal_width t s)) (bit v) 0 (placement_count t) bs cs

-- a write of an array
pub array_alike : (t bs cs : List ℕ) (s : ℕ) (vs : List ℕ) (i : ℕ) → length bs ≡ length cs → get_or bs i 0 ≡ get_or cs i 0
    → get_or (with_array t bs s vs) i 0 ≡ get_or (with_array t cs s vs) i 0
unfolding with_array put_array
array_alike t bs cs s vs = each_alike t s (8 * length vs) (bit_at vs) 0 (placement_count t) bs cs

-- ---- a write of a scalar and of an array in one form

-- a write of a signal is a put of bits at each of its placements, no more than it has
pub record Write (t bs : List ℕ) (s : ℕ) (after : List ℕ) : Type 0 where
  pub width : ℕ
  pub bits : ℕ → Bool
  pub within : width ≤ signal_width t s
  pub put : after ≡ at_each t s (put_at t s width bits) 0 (placement_count t) bs

-- the bytes of an array have no more bits than the signal
array_within : (t : List ℕ) (s : ℕ) → 8 * array_length t s ≤ signal_width t s
unfolding array_length
array_within t s = omega arith

pub scalar_write : (t bs : List ℕ) (s v : ℕ) → Write t bs s (with_scalar t bs s v)
unfolding with_scalar put_scalar
scalar_write t bs s v = record {
  width = scalar_width (signal_width t s);
  bits = bit v;
  within = omega arith;
  put = refl;
}

fits_length : (t : List ℕ) (s : ℕ) (vs : List ℕ) → array_fits t s vs ≡ true → length vs ≡ array_length t s
unfolding array_fits
fits_length t s vs = eqb-true (length vs) (array_length t s)

pub array_write : (t bs : List ℕ) (s : ℕ) (vs : List ℕ) → array_fits t s vs ≡ true → Write t bs s (with_array t bs s vs)
unfolding with_array put_array
array_write t bs s vs h = record {
  width = 8 * length vs;
  bits = bit_at vs;
  within = omega (arith, fits_length t s vs h, array_within t s);
  put = refl;
}

-- ---- a value goes by the signal's own bits alone

module _ (t bs cs : List ℕ) (s k : ℕ) (o : Of t s k) where
  own_width : placement_width t k ≡ signal_width t s
  unfolding placement_width
  own_width = ap (signal_width t) o.is

  module _ (same : (j : ℕ) → covers t k j ≡ true → bit_at bs j ≡ bit_at cs j) where
    same_at : (i : ℕ) → i < signal_width t s → bit_at bs (place_of t k + i) ≡ bit_at cs (place_of t k + i)
    same_at i b = same (place_of t k + i) (covers_from t k (place_of t k + i) (omega arith) (omega (arith, own_width)))

    -- that of a scalar in a placement
    pub scalar_at_own : scalar_at t bs s k ≡ scalar_at t cs s k
    unfolding scalar_at get_scalar
    scalar_at_own =
        let place = place_of t k in
        number_ext (scalar_width (signal_width t s)) (λ i. bit_at bs (place + i)) (λ i. bit_at cs (place + i)) (λ i b. same_at i (omega arith))

    -- and that of an array
    pub array_at_own : array_at t bs s k ≡ array_at t cs s k
    unfolding array_at get_array
    array_at_own =
        let place = place_of t k in
        bytes_ext (array_length t s) (λ i. bit_at bs (place + i)) (λ i. bit_at cs (place + i)) (λ i b. same_at i (omega (arith, array_within t s)))

-- a placement's bit is the signal's
placement_bit : (t : List ℕ) (s k : ℕ) → Of t s k → (j : ℕ) → covers t k j ≡ true → occupies t s j ≡ true
unfolding occupies
placement_bit t s k o j = some_at t s (λ i. covers t i j) k o

-- ---- what a write leaves as it was

-- a signal has no bit of a frame that it does not touch
untouched_bit : (t : List ℕ) → RightTable t → (s f : ℕ) → touches t s f ≡ false → (i : ℕ) → i < 64 → (k : ℕ) → Of t s k
    → covers t k (64 * f + i) ≡ false
unfolding touches
untouched_bit t ok s f h i b k o =
    covers_other t k (placement_end_high t ok k o.there) f i b
    (λ e. eqb-false (placement_frame t k) f (some_none t s (λ m. eqb (placement_frame t m) f) h k o) (sym e))

module _ (t bs : List ℕ) (s : ℕ) (after : List ℕ) (w : Write t bs s after) where
  -- a bit that no placement of the signal has stays
  free : (j : ℕ) → ((k : ℕ) → Of t s k → covers t k j ≡ false) → bit_at after j ≡ bit_at bs j
  unfolding placement_width
  free j none =
      rw w.put
      (each_outside t s w.width w.bits 0 (placement_count t) bs j
      (λ k a b e. let o : Of t s k = record { there = omega arith; is = e } in
      let within : w.width ≤ placement_width t k = rw e w.within in
      ⊎_elim (λ x. inl x) (λ x. inr (omega arith)) (not_covered t k j (none k o))))

  pub outside : (j : ℕ) → occupies t s j ≡ false → bit_at after j ≡ bit_at bs j
  unfolding occupies
  outside j h = free j (some_none t s (λ k. covers t k j) h)

  pub written_bytes_lem : Bytes bs → Bytes after
  written_bytes_lem hb = rw w.put (each_bytes t s w.width w.bits 0 (placement_count t) bs hb)

  module _ (ok : RightTable t) where
    untouched : Bytes bs → (f : ℕ) → touches t s f ≡ false → (k : ℕ) → k < 8 → get_or after (8 * f + k) 0 ≡ get_or bs (8 * f + k) 0
    untouched hb f h k b =
        let m = 8 * f + k in
        sym (byte_is after m (written_bytes_lem hb))
        ∙ number_ext 8 (λ i. bit_at after (8 * m + i)) (λ i. bit_at bs (8 * m + i)) (same f h k b)
        ∙ byte_is bs m hb
      where
        same : (f : ℕ) → touches t s f ≡ false → (k : ℕ) → k < 8 → (i : ℕ) → i < 8
            → bit_at after (8 * (8 * f + k) + i) ≡ bit_at bs (8 * (8 * f + k) + i)
        same f h k b i l =
            let at : 64 * f + (8 * k + i) ≡ 8 * (8 * f + k) + i = omega arith in
            free (8 * (8 * f + k) + i) (λ m o. rw at at (untouched_bit t ok s f h (8 * k + i) (omega arith) m o))

    -- the bits of a placement of another signal stay
    other_bit : (r k : ℕ) → (r ≡ s → ⊥) → Of t r k → (j : ℕ) → covers t k j ≡ true → bit_at after j ≡ bit_at bs j
    other_bit r k n o j q = outside j (other_bits t ok r s j n (placement_bit t r k o j q))

    -- ---- what a write leaves in each placement: its bits

    written_bit : length bs ≡ 8 * frame_count t → (k : ℕ) → Of t s k → (i : ℕ) → i < w.width → bit_at after (place_of t k + i) ≡ w.bits i
    unfolding placement_width
    written_bit l k o i b =
        let within : w.width ≤ placement_width t k = rw o.is w.within in
        rw w.put
        (each_inside t s w.width w.bits 0 (placement_count t) bs k i (omega arith) (omega (arith, o.there)) o.is b
        (omega (arith, place_end t ok k o.there))
        (λ m x y d e.
        let own = covers_from t k (place_of t k + i) (omega arith) (omega arith) in
        let within : w.width ≤ placement_width t m = rw e w.within in
        ⊎_elim (λ z. inl z) (λ z. inr (omega arith))
        (not_covered t m (place_of t k + i) (other_placement t ok k m (place_of t k + i) o.there (omega arith) (λ z. d (sym z)) own))))

-- the bits of a scalar and of an array
pub scalar_put_bit : (t bs : List ℕ) (s v : ℕ) → RightTable t → length bs ≡ 8 * frame_count t → (k : ℕ) → Of t s k
    → (i : ℕ) → i < scalar_width (signal_width t s) → bit_at (with_scalar t bs s v) (place_of t k + i) ≡ bit v i
unfolding scalar_write
scalar_put_bit t bs s v = written_bit t bs s (with_scalar t bs s v) (scalar_write t bs s v)

pub array_put_bit : (t bs : List ℕ) (s : ℕ) (vs : List ℕ) → array_fits t s vs ≡ true → RightTable t → length bs ≡ 8 * frame_count t → (k : ℕ)
    → Of t s k
    → (i : ℕ) → i < 8 * length vs → bit_at (with_array t bs s vs) (place_of t k + i) ≡ bit_at vs i
unfolding array_write
array_put_bit t bs s vs h = written_bit t bs s (with_array t bs s vs) (array_write t bs s vs h)

-- ---- the laws of an accepted table

module _ (t : List ℕ) (ok : RightTable t) where
  -- a published signal touches published frames only
  pub touched_published : (s f : ℕ) → signal_published t s ≡ true → touches t s f ≡ true → published t f ≡ true
  unfolding touches
  touched_published s f p h =
      let found = some_found t s (λ k. eqb (placement_frame t k) f) h in
      let k = found.0 in
      rw (eqb-true (placement_frame t k) f found.2) at (sym (published_as t ok s k found.1) ∙ p)

  -- a signal touches frames of the table only
  pub touched_below : (s f : ℕ) → touches t s f ≡ true → f < frame_count t
  unfolding touches
  touched_below s f h =
      let found = some_found t s (λ k. eqb (placement_frame t k) f) h in
      let k = found.0 in
      rw (eqb-true (placement_frame t k) f found.2) at (placement_frame_below t ok k found.1.there)

  module _ (s : ℕ) (h : s < signal_count t) where
    -- a value that fits a scalar has at most 16 bits
    pub value_limit : is_array t s ≡ false → (v : ℕ) → value_fits t s v ≡ true → v < 65536
    unfolding value_fits
    value_limit a v b =
        omega (arith, ltb-true v (2 ^ signal_width t s) b, (scalar_limit (signal_width t s) (scalar_width_high t ok s h a)).1)

    -- an array that is handed over with the right length has at most 8 bytes
    pub array_fits_length : (vs : List ℕ) → array_fits t s vs ≡ true → length vs ≤ 8
    unfolding array_length
    array_fits_length vs b = omega (arith, fits_length t s vs b)

    -- a scalar reads as the value written in every placement
    pub read_scalar_at : is_array t s ≡ false → (bs : List ℕ) → length bs ≡ 8 * frame_count t → (v : ℕ) → value_fits t s v ≡ true
        → (k : ℕ) → Of t s k → scalar_at t (with_scalar t bs s v) s k ≡ v
    unfolding value_fits scalar_at get_scalar
    read_scalar_at a bs l v b k o =
        let w : scalar_width (signal_width t s) ≡ signal_width t s = omega (arith, scalar_width_high t ok s h a) in
        number_ext (scalar_width (signal_width t s)) (λ i. bit_at (with_scalar t bs s v) (place_of t k + i)) (bit v)
        (scalar_put_bit t bs s v ok l k o)
        ∙ number_mod (scalar_width (signal_width t s)) v
        ∙ mod-eq_of_lt (rw w (ltb-true v (2 ^ signal_width t s) b))

    -- and an array as the bytes written
    pub read_array_at : is_array t s ≡ true → (bs : List ℕ) → length bs ≡ 8 * frame_count t → (vs : List ℕ) → Bytes vs → array_fits t s vs ≡ true
        → (k : ℕ) → Of t s k → array_at t (with_array t bs s vs) s k ≡ vs
    unfolding array_at get_array
    read_array_at a bs l vs hv b k o =
        rw (← fits_length t s vs b)
        (bytes_ext (length vs) (λ i. bit_at (with_array t bs s vs) (place_of t k + i)) (bit_at vs) (array_put_bit t bs s vs b ok l k o)
        ∙ bytes_are vs hv)

    -- a write of a scalar changes no byte of a frame that it does not touch
    pub scalar_untouched : (bs : List ℕ) → Bytes bs → (v f : ℕ) → is_array t s ≡ false → touches t s f ≡ false → (k : ℕ) → k < 8
        → get_or (with_scalar t bs s v) (8 * f + k) 0 ≡ get_or bs (8 * f + k) 0
    scalar_untouched bs hb v f a = untouched t bs s (with_scalar t bs s v) (scalar_write t bs s v) ok hb f

    -- a write of an array changes no byte of a frame that it does not touch
    pub array_untouched : (bs : List ℕ) → Bytes bs → (vs : List ℕ) (f : ℕ) → is_array t s ≡ true → array_fits t s vs ≡ true → touches t s f ≡ false
        → (k : ℕ) → k < 8 → get_or (with_array t bs s vs) (8 * f + k) 0 ≡ get_or bs (8 * f + k) 0
    array_untouched bs hb vs f a b = untouched t bs s (with_array t bs s vs) (array_write t bs s vs b) ok hb f

    -- a write of a scalar changes no bit outside the signal
    pub scalar_outside : (bs : List ℕ) (v : ℕ) → is_array t s ≡ false → (j : ℕ) → occupies t s j ≡ false
        → bit_at (with_scalar t bs s v) j ≡ bit_at bs j
    scalar_outside bs v a = outside t bs s (with_scalar t bs s v) (scalar_write t bs s v)

    -- a write of an array changes no bit outside the signal
    pub array_outside : (bs vs : List ℕ) → is_array t s ≡ true → array_fits t s vs ≡ true → (j : ℕ)
        → occupies t s j ≡ false → bit_at (with_array t bs s vs) j ≡ bit_at bs j
    array_outside bs vs a b = outside t bs s (with_array t bs s vs) (array_write t bs s vs b)

  -- in each placement of another signal
  module _ (r s : ℕ) (n : r ≡ s → ⊥) (k : ℕ) (o : Of t r k) where
    -- a write of a scalar changes no other scalar
    pub other_scalar_scalar : (bs : List ℕ) (v : ℕ) → scalar_at t (with_scalar t bs s v) r k ≡ scalar_at t bs r k
    other_scalar_scalar bs v =
        let after = with_scalar t bs s v in scalar_at_own t after bs r k o (other_bit t bs s after (scalar_write t bs s v) ok r k n o)

    -- and no array
    pub other_array_scalar : (bs : List ℕ) (v : ℕ) → array_at t (with_scalar t bs s v) r k ≡ array_at t bs r k
    other_array_scalar bs v =
        let after = with_scalar t bs s v in array_at_own t after bs r k o (other_bit t bs s after (scalar_write t bs s v) ok r k n o)

    -- a write of an array changes no scalar
    pub other_scalar_array : (bs vs : List ℕ) → array_fits t s vs ≡ true → scalar_at t (with_array t bs s vs) r k ≡ scalar_at t bs r k
    other_scalar_array bs vs h =
        let after = with_array t bs s vs in scalar_at_own t after bs r k o (other_bit t bs s after (array_write t bs s vs h) ok r k n o)

    -- and no other array
    pub other_array_array : (bs vs : List ℕ) → array_fits t s vs ≡ true → array_at t (with_array t bs s vs) r k ≡ array_at t bs r k
    other_array_array bs vs h =
        let after = with_array t bs s vs in array_at_own t after bs r k o (other_bit t bs s after (array_write t bs s vs h) ok r k n o)
