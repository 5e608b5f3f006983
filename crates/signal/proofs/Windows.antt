-- A window of three bytes: the number that it is, a field read out of it, and what storing it again puts.
use Prim.Native.Nat.{ℕ, ◌+◌, ◌-◌, ◌*◌, ◌/◌, ◌%◌, ◌^◌, ◌≤◌}
use mathlib.Core.Path.{◌≡◌, refl, sym, ◌∙◌, ap}
use mathlib.Core.Bool.{Bool, cond}
use mathlib.Core.List.{List}
use native.Mathlib.Nat.{add-zero, div-one}
use native.Mathlib.Omega.{arith}
use lib.ListN.{get_or, set}
use Rattle.wire.specs.Bits.{bit, Bytes}
use Rattle.signal.specs.Signal.{number, bit_at, inside, replaced, put_bits}
use Rattle.signal.proofs.BytesOf.{byte_is}
use Rattle.signal.proofs.Inside.{order}
use Rattle.signal.proofs.Numbers.{number_join, number_part, number_ext, number_below, bit_number}
use Rattle.signal.proofs.PutBits.{put_ext, put_same, put_none, put_append, put_bytes, set_put, after_inside, after_low, after_high}

-- 24 bits as three bytes
three : (f : ℕ → Bool) → number 24 f ≡ number 8 f + 256 * number 8 (λ k. f (8 + k)) + 65536 * number 8 (λ k. f (8 + (8 + k)))
three f = omega (arith, number_join 8 16 f, number_join 8 8 (λ k. f (8 + k)))

module _ (bs : List ℕ) (at : ℕ) (h : Bytes bs) where
  -- the window's bits from bit p on are a byte, where p is a byte border
  byte_at : (i : ℕ) (p : ℕ → ℕ) → ((k : ℕ) → 8 * at + p k ≡ 8 * i + k) → number 8 (λ k. bit_at bs (8 * at + p k)) ≡ get_or bs i 0
  byte_at i p e =
      number_ext 8 (λ k. bit_at bs (8 * at + p k)) (λ k. bit_at bs (8 * i + k)) (λ k b. ap (bit_at bs) (e k))
      ∙ byte_is bs i h

  pub window_is : get_or bs at 0 + 256 * get_or bs (at + 1) 0 + 65536 * get_or bs (at + 2) 0 ≡ number 24 (λ k. bit_at bs (8 * at + k))
  window_is =
      omega (
        arith,
        three (λ k. bit_at bs (8 * at + k)),
        byte_at at (λ k. k) (λ k. refl),
        byte_at (at + 1) (λ k. 8 + k) (λ k. omega arith),
        byte_at (at + 2) (λ k. 8 + (8 + k)) (λ k. omega arith),
      )

-- ---- storing a window

-- byte d of a window, stored behind those before it
store_byte : (bs : List ℕ) (at d : ℕ) (g : ℕ → Bool)
    → set (put_bits bs (8 * at) (8 * d) g) (at + d) (number 8 (λ k. g (8 * d + k))) ≡ put_bits bs (8 * at) (8 * d + 8) g
store_byte bs at d g =
    let ps = put_bits bs (8 * at) (8 * d) g in
    let v = number 8 (λ k. g (8 * d + k)) in
    let e : 8 * (at + d) ≡ 8 * at + 8 * d = omega arith in
    set_put ps (at + d) v (put_bytes bs (8 * at) (8 * d) g) (number_below 8 (λ k. g (8 * d + k)))
    ∙ ap (λ (o : ℕ). put_bits ps o 8 (bit v)) e
    ∙ put_same ps (8 * at + 8 * d) 8 (bit v) (λ k. g (8 * d + k)) (λ k h. bit_number 8 (λ i. g (8 * d + i)) k h)
    ∙ put_append bs (8 * at) (8 * d) 8 g

-- the three bytes of a number of 24 bits, stored from `at` on
module _ (bs : List ℕ) (at : ℕ) (g : ℕ → Bool) (h : Bytes bs) where
  first_stored : set bs at (number 24 g % 256) ≡ put_bits bs (8 * at) 8 g
  first_stored =
      let e : number 24 g % 256 ≡ number 8 (λ k. g (8 * 0 + k)) = rw (div-one (number 24 g)) at (number_part 24 0 8 g (omega arith)) in
      let p : set (put_bits bs (8 * at) 0 g) (at + 0) (number 8 (λ k. g (8 * 0 + k))) ≡ put_bits bs (8 * at) 8 g = store_byte bs at 0 g in
      rw e (rw (put_none bs (8 * at) g h, add-zero at) at p)

  second_stored : set (set bs at (number 24 g % 256)) (at + 1) (number 24 g / 256 % 256) ≡ put_bits bs (8 * at) 16 g
  second_stored = rw (first_stored, number_part 24 8 8 g (omega arith)) (store_byte bs at 1 g)

  pub store_window :
      set (set (set bs at (number 24 g % 256)) (at + 1) (number 24 g / 256 % 256)) (at + 2) (number 24 g / 65536 % 256)
      ≡ put_bits bs (8 * at) 24 g
  store_window = rw (second_stored, number_part 24 16 8 g (omega arith)) (store_byte bs at 2 g)

-- a window with a field replaced, stored, puts the field
module _ (bs : List ℕ) (at s w : ℕ) (f : ℕ → Bool) (fits : s + w ≤ 24) where
  abbrev here : ℕ → Bool
  here k = bit_at bs (8 * at + k)

  in_window : (j : ℕ) → 8 * at ≤ j → replaced here s w f (j - 8 * at) ≡ replaced (bit_at bs) (8 * at + s) w f j
  in_window j l =
      let k = j - 8 * at in
      order j (8 * at + s)
      (λ m. after_low here s w f k (omega arith) ∙ ap (bit_at bs) (omega arith) ∙ sym (after_low (bit_at bs) (8 * at + s) w f j m))
      (λ m. order j (8 * at + s + w)
      (λ n. after_inside here s w f k (omega arith) (omega arith) ∙ ap f (omega arith)
      ∙ sym (after_inside (bit_at bs) (8 * at + s) w f j m n))
      (λ n. after_high here s w f k (omega arith) ∙ ap (bit_at bs) (omega arith)
      ∙ sym (after_high (bit_at bs) (8 * at + s) w f j n)))

  pub put_field : put_bits bs (8 * at) 24 (replaced here s w f) ≡ put_bits bs (8 * at + s) w f
  put_field =
      put_ext bs (8 * at) 24 (8 * at + s) w (replaced here s w f) f (λ j b.
      order j (8 * at)
      (λ l. after_low (bit_at bs) (8 * at) 24 (replaced here s w f) j l ∙ sym (after_low (bit_at bs) (8 * at + s) w f j (omega arith)))
      (λ l. order j (8 * at + 24)
      (λ m. after_inside (bit_at bs) (8 * at) 24 (replaced here s w f) j l m ∙ in_window j l)
      (λ m. after_high (bit_at bs) (8 * at) 24 (replaced here s w f) j m
      ∙ sym (after_high (bit_at bs) (8 * at + s) w f j (omega arith)))))

-- the bits of a window's number are the bytes' bits
window_bits : (h : ℕ → Bool) (s w : ℕ) (f : ℕ → Bool) → number 24 (replaced (bit (number 24 h)) s w f) ≡ number 24 (replaced h s w f)
unfolding replaced
window_bits h s w f =
    number_ext 24 (replaced (bit (number 24 h)) s w f) (replaced h s w f)
    (λ k b. ap (λ (t : Bool). cond (inside s w k) (f (k - s)) t) (bit_number 24 h k b))

-- all of a put: the window read, its field replaced, and its three bytes stored
pub put_window : (bs : List ℕ) (at s w v old new : ℕ) → Bytes bs → s + w ≤ 24
    → old ≡ number 24 (λ k. bit_at bs (8 * at + k)) → new ≡ number 24 (replaced (bit old) s w (bit v))
    → set (set (set bs at (new % 256)) (at + 1) (new / 256 % 256)) (at + 2) (new / 65536 % 256) ≡ put_bits bs (8 * at + s) w (bit v)
put_window bs at s w v old new h fits eo en =
    let e : new ≡ number 24 (replaced (λ k. bit_at bs (8 * at + k)) s w (bit v)) =
    (rw eo at en) ∙ window_bits (λ k. bit_at bs (8 * at + k)) s w (bit v) in
    rw e (store_window bs at (replaced (λ k. bit_at bs (8 * at + k)) s w (bit v)) h ∙ put_field bs at s w (bit v) fits)

-- a field read out of a window
pub get_window : (bs : List ℕ) (at s w old : ℕ) → s + w ≤ 24 → old ≡ number 24 (λ k. bit_at bs (8 * at + k))
    → old / 2 ^ s % 2 ^ w ≡ number w (λ k. bit_at bs (8 * at + s + k))
get_window bs at s w old fits e =
    rw e (number_part 24 s w (λ k. bit_at bs (8 * at + k)) fits
    ∙ number_ext w (λ k. bit_at bs (8 * at + (s + k))) (λ k. bit_at bs (8 * at + s + k)) (λ k b. ap (bit_at bs) (omega arith)))
