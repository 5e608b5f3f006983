-- Signals in the paper's own words: data bit j is bit j % 8 of byte j / 8, and byte i of an array is a byte of the frame.
use Prim.Native.Nat.{ℕ, ◌+◌, ◌-◌, ◌*◌, ◌/◌, ◌%◌, ◌^◌, ◌<◌, ◌≤◌}
use mathlib.Core.Path.{◌≡◌, sym, ◌∙◌, ap}
use mathlib.Core.Bool.{Bool}
use mathlib.Core.List.{List}
use mathlib.Core.Logic.{◌↔◌, ◌⊎◌, inl, inr, ⊎_elim}
use native.Mathlib.Omega.{arith}
use lib.ListN.{length, get_or}
use lib.Seq.{ext_get_or}
use Rattle.wire.specs.Bits.{bit, Bytes}
use Rattle.signal.specs.Signal.{bit_at, put_bits, scalar_width, get_scalar, put_scalar, get_array, put_array}
use Rattle.signal.proofs.BytesOf.{bytes_length, bytes_at_lem, bytes_ext, bytes_are, bytes_bytes, bit_bytes, byte_is}
use Rattle.signal.proofs.Inside.{order}
use Rattle.signal.proofs.Laws.{bit_stays, byte_stays}
use Rattle.signal.proofs.Numbers.{number_ext, number_bits, number_below, bit_number}
use Rattle.signal.proofs.PutBits.{put_length, put_bytes, bit_put, after_inside}

-- ---- what is put

-- bytes `cs` that have the w bits f 0, f 1, .. from bit o on, as far as there are bytes, and every other bit of `bs`
pub record Has (bs cs : List ℕ) (o w : ℕ) (f : ℕ → Bool) : Type 0 where
  pub as_long : length cs ≡ length bs
  pub bytes : Bytes cs
  pub own : (k : ℕ) → k < w → o + k < 8 * length bs → bit (get_or cs ((o + k) / 8) 0) ((o + k) % 8) ≡ f k
  pub others : (j : ℕ) → (j < o) ⊎ (o + w ≤ j) → bit (get_or cs (j / 8) 0) (j % 8) ≡ bit (get_or bs (j / 8) 0) (j % 8)

module _ (bs : List ℕ) (o w : ℕ) (f : ℕ → Bool) where
  own_bit : (k : ℕ) → k < w → o + k < 8 * length bs → bit_at (put_bits bs o w f) (o + k) ≡ f k
  own_bit k hk h =
      bit_put bs o w f (o + k) h ∙ after_inside (bit_at bs) o w f (o + k) (omega arith) (omega arith) ∙ ap f (omega arith)

  other_bit : (j : ℕ) → (j < o) ⊎ (o + w ≤ j) → bit_at (put_bits bs o w f) j ≡ bit_at bs j
  other_bit j h = bit_stays bs o w f j (⊎_elim (λ l. inl (omega arith)) inr h)

  put_has : Has bs (put_bits bs o w f) o w f
  unfolding bit_at
  put_has = record { as_long = put_length bs o w f; bytes = put_bytes bs o w f; own = own_bit; others = other_bit }

  module _ (cs : List ℕ) (h : Has bs cs o w f) where
    same_bit : (j : ℕ) → j < 8 * length bs → bit_at cs j ≡ bit_at (put_bits bs o w f) j
    unfolding bit_at
    same_bit j b =
        order j o
        (λ l. h.others j (inl l) ∙ sym (other_bit j (inl l)))
        (λ l. order j (o + w)
        (λ m. let e : o + (j - o) ≡ j = omega arith in
        rw e at (h.own (j - o) (omega arith) (omega arith) ∙ sym (own_bit (j - o) (omega arith) (omega arith))))
        (λ m. h.others j (inr m) ∙ sym (other_bit j (inr m))))

    has_put : cs ≡ put_bits bs o w f
    has_put =
        sym (bytes_are cs h.bytes)
        ∙ rw h.as_long (bytes_ext (length bs) (bit_at cs) (bit_at (put_bits bs o w f)) same_bit)
        ∙ rw (put_length bs o w f) at (bytes_are (put_bits bs o w f) (put_bytes bs o w f))

  put_bits_exactly : (cs : List ℕ) → (cs ≡ put_bits bs o w f) ↔ Has bs cs o w f
  put_bits_exactly cs = ((λ e. rw e put_has), has_put cs)

-- a scalar that was put: its bit k is data bit o + k, and every other bit is as before
pub put_exactly : (bs cs : List ℕ) (o w v : ℕ) → w ≤ 16 → (cs ≡ put_scalar bs o w v) ↔ Has bs cs o w (bit v)
unfolding put_scalar
put_exactly bs cs o w v h =
    let e : scalar_width w ≡ w = omega arith in
    rw e (put_bits_exactly bs o w (bit v) cs)

-- an array that was put at any offset: bit k of its byte i is data bit o + 8 * i + k, and every other bit is as before
pub put_array_bits : (bs cs : List ℕ) (o : ℕ) (vs : List ℕ)
    → (cs ≡ put_array bs o vs) ↔ Has bs cs o (8 * length vs) (λ k. bit (get_or vs (k / 8) 0) (k % 8))
unfolding put_array bit_at
put_array_bits bs cs o vs = put_bits_exactly bs o (8 * length vs) (bit_at vs) cs

-- ---- what is got

-- a scalar: its bit k is data bit o + k, and there are no others
pub get_exactly : (bs : List ℕ) (o w v : ℕ) → w ≤ 16
    → (v ≡ get_scalar bs o w) ↔ ((v < 2 ^ w) × ((k : ℕ) → k < w → bit v k ≡ bit (get_or bs ((o + k) / 8) 0) ((o + k) % 8)))
unfolding get_scalar bit_at
get_exactly bs o w v h =
    let e : scalar_width w ≡ w = omega arith in
    rw e (
      (λ q. rw q (number_below w (λ k. bit_at bs (o + k)), bit_number w (λ k. bit_at bs (o + k)))),
      (λ g. sym (number_bits w v g.0) ∙ number_ext w (bit v) (λ k. bit_at bs (o + k)) g.1),
    )

-- a width above 16, which no table has, counts as 16
pub wide : (bs : List ℕ) (o w v : ℕ) → 16 ≤ w → (get_scalar bs o w ≡ get_scalar bs o 16) × (put_scalar bs o w v ≡ put_scalar bs o 16 v)
unfolding get_scalar put_scalar
wide bs o w v h = let e : scalar_width w ≡ 16 = omega arith in (rw e, rw e)

-- an array got at any offset: bit k of its byte i is data bit o + 8 * i + k
pub get_array_bits : (bs : List ℕ) (o n : ℕ) (vs : List ℕ)
    → (vs ≡ get_array bs o n)
    ↔ ((length vs ≡ n) × Bytes vs
    × ((j : ℕ) → j < 8 * n → bit (get_or vs (j / 8) 0) (j % 8) ≡ bit (get_or bs ((o + j) / 8) 0) ((o + j) % 8)))
unfolding get_array bit_at
get_array_bits bs o n vs =
    let f : ℕ → Bool = λ k. bit_at bs (o + k) in (
      (λ q. rw q (bytes_length n f, bytes_bytes n f, bit_bytes n f)),
      (λ g. sym (bytes_are vs g.1) ∙ rw g.0 (bytes_ext n (bit_at vs) f g.2)),
    )

-- ---- arrays that begin with a byte

-- byte i of an array that begins at byte a
byte_of : (bs : List ℕ) (o n i : ℕ) → Bytes bs → o % 8 ≡ 0 → i < n → get_or (get_array bs o n) i 0 ≡ get_or bs (o / 8 + i) 0
unfolding get_array
byte_of bs o n i hb a h =
    bytes_at_lem n (λ k. bit_at bs (o + k)) i h
    ∙ number_ext 8 (λ k. bit_at bs (o + (8 * i + k))) (λ k. bit_at bs (8 * (o / 8 + i) + k)) (λ k hk. ap (bit_at bs) (omega arith))
    ∙ byte_is bs (o / 8 + i) hb

got_length : (bs : List ℕ) (o n : ℕ) → length (get_array bs o n) ≡ n
unfolding get_array
got_length bs o n = bytes_length n (λ k. bit_at bs (o + k))

-- "lowest numbered first": byte i of an array got is data byte o / 8 + i
pub get_array_exactly : (bs : List ℕ) (o n : ℕ) (vs : List ℕ) → Bytes bs → o % 8 ≡ 0
    → (vs ≡ get_array bs o n) ↔ ((length vs ≡ n) × ((i : ℕ) → i < n → get_or vs i 0 ≡ get_or bs (o / 8 + i) 0))
get_array_exactly bs o n vs hb a = (
  (λ q. rw q (got_length bs o n, (λ i h. byte_of bs o n i hb a h))),
  (λ g. ext_get_or 0 vs (get_array bs o n) (g.0 ∙ sym (got_length bs o n))
      (λ i h. let l : i < n = omega (arith, g.0) in g.1 i l ∙ sym (byte_of bs o n i hb a l))),
)

module _ (bs : List ℕ) (o : ℕ) (vs : List ℕ) (hb : Bytes bs) (hv : Bytes vs) (a : o % 8 ≡ 0) where
  abbrev put : List ℕ
  put = put_bits bs o (8 * length vs) (bit_at vs)

  own_byte : (i : ℕ) → i < length vs → o / 8 + i < length bs → get_or put (o / 8 + i) 0 ≡ get_or vs i 0
  own_byte i h b =
      sym (byte_is put (o / 8 + i) (put_bytes bs o (8 * length vs) (bit_at vs)))
      ∙ number_ext 8 (λ k. bit_at put (8 * (o / 8 + i) + k)) (λ k. bit_at vs (8 * i + k))
      (λ k hk. ap (bit_at put) (omega arith) ∙ own_bit bs o (8 * length vs) (bit_at vs) (8 * i + k) (omega arith) (omega arith))
      ∙ byte_is vs i hv

  other_byte : (j : ℕ) → (j < o / 8) ⊎ (o / 8 + length vs ≤ j) → get_or put j 0 ≡ get_or bs j 0
  other_byte j h =
      byte_stays bs o (8 * length vs) (bit_at vs) j hb (⊎_elim (λ l. inl (omega arith)) (λ l. inr (omega arith)) h)

  -- byte i of an array put is data byte o / 8 + i, as far as there are bytes, and every other byte is as before
  pub put_array_exactly : (cs : List ℕ)
      → (cs ≡ put_array bs o vs)
      ↔ ((length cs ≡ length bs)
      × ((i : ℕ) → i < length vs → o / 8 + i < length bs → get_or cs (o / 8 + i) 0 ≡ get_or vs i 0)
      × ((j : ℕ) → (j < o / 8) ⊎ (o / 8 + length vs ≤ j) → get_or cs j 0 ≡ get_or bs j 0))
  unfolding put_array
  put_array_exactly cs =
      let l = put_length bs o (8 * length vs) (bit_at vs) in (
        (λ q. rw q (l, own_byte, other_byte)),
        (λ g. ext_get_or 0 cs put (g.0 ∙ sym l)
            (λ j h. order j (o / 8)
            (λ m. g.2 j (inl m) ∙ sym (other_byte j (inl m)))
            (λ m. order j (o / 8 + length vs)
            (λ n. let e : o / 8 + (j - o / 8) ≡ j = omega arith in
            rw e at (g.1 (j - o / 8) (omega arith) (omega (arith, g.0)) ∙ sym (own_byte (j - o / 8) (omega arith) (omega (arith, g.0)))))
            (λ n. g.2 j (inr n) ∙ sym (other_byte j (inr n)))))),
      )
