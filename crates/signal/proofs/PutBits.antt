-- What a put leaves, bit by bit, and how puts combine.
use Prim.Native.Nat.{ℕ, ◌+◌, ◌-◌, ◌*◌, ◌<◌, ◌≤◌}
use mathlib.Core.Path.{◌≡◌, sym, ◌∙◌, ap}
use mathlib.Core.Bool.{Bool}
use mathlib.Core.List.{List}
use native.Mathlib.Decide.{ℕ_discrete}
use native.Mathlib.Omega.{arith}
use lib.ListN.{length, get_or, set, length-set}
use lib.Seq.{ext_get_or, get_or-set_same, get_or-set_other}
use Rattle.wire.specs.Bits.{bit, Bytes}
use Rattle.signal.specs.Signal.{number, bit_at, bytes_of, replaced, put_bits}
use Rattle.signal.proofs.BytesOf.{bytes_length, bytes_at_lem, bytes_ext, bytes_bytes, bit_bytes, byte_is, bytes_are}
use Rattle.signal.proofs.Inside.{order, inside_true, inside_low, inside_high}
use Rattle.signal.proofs.Numbers.{number_ext, number_bits}

pub put_length : (bs : List ℕ) (o w : ℕ) (f : ℕ → Bool) → length (put_bits bs o w f) ≡ length bs
unfolding put_bits
put_length bs o w f = bytes_length (length bs) (replaced (bit_at bs) o w f)

pub put_bytes : (bs : List ℕ) (o w : ℕ) (f : ℕ → Bool) → Bytes (put_bits bs o w f)
unfolding put_bits
put_bytes bs o w f = bytes_bytes (length bs) (replaced (bit_at bs) o w f)

-- a bit inside becomes the signal's, and a bit outside stays
pub after_inside : (old : ℕ → Bool) (o w : ℕ) (f : ℕ → Bool) (j : ℕ) → o ≤ j → j < o + w → replaced old o w f j ≡ f (j - o)
unfolding replaced
after_inside old o w f j h k = rw (inside_true o w j h k)

pub after_low : (old : ℕ → Bool) (o w : ℕ) (f : ℕ → Bool) (j : ℕ) → j < o → replaced old o w f j ≡ old j
unfolding replaced
after_low old o w f j h = rw (inside_low o w j h)

pub after_high : (old : ℕ → Bool) (o w : ℕ) (f : ℕ → Bool) (j : ℕ) → o + w ≤ j → replaced old o w f j ≡ old j
unfolding replaced
after_high old o w f j h = rw (inside_high o w j h)

-- of the bits that there are
pub bit_put : (bs : List ℕ) (o w : ℕ) (f : ℕ → Bool) (j : ℕ) → j < 8 * length bs → bit_at (put_bits bs o w f) j ≡ replaced (bit_at bs) o w f j
unfolding put_bits
bit_put bs o w f j h = bit_bytes (length bs) (replaced (bit_at bs) o w f) j h

-- two puts that leave the same bits leave the same bytes
pub put_ext : (bs : List ℕ) (o w o' w' : ℕ) (f g : ℕ → Bool)
    → ((j : ℕ) → j < 8 * length bs → replaced (bit_at bs) o w f j ≡ replaced (bit_at bs) o' w' g j) → put_bits bs o w f ≡ put_bits bs o' w' g
unfolding put_bits
put_ext bs o w o' w' f g h = bytes_ext (length bs) (replaced (bit_at bs) o w f) (replaced (bit_at bs) o' w' g) h

-- only the bits inside count of what is put
pub put_same : (bs : List ℕ) (o w : ℕ) (f g : ℕ → Bool) → ((k : ℕ) → k < w → f k ≡ g k) → put_bits bs o w f ≡ put_bits bs o w g
put_same bs o w f g h =
    put_ext bs o w o w f g (λ j b.
    order j o
    (λ l. after_low (bit_at bs) o w f j l ∙ sym (after_low (bit_at bs) o w g j l))
    (λ l. order j (o + w)
    (λ m. after_inside (bit_at bs) o w f j l m ∙ h (j - o) (omega arith) ∙ sym (after_inside (bit_at bs) o w g j l m))
    (λ m. after_high (bit_at bs) o w f j m ∙ sym (after_high (bit_at bs) o w g j m))))

-- no bits put leave the bytes as they were
pub put_none : (bs : List ℕ) (o : ℕ) (f : ℕ → Bool) → Bytes bs → put_bits bs o 0 f ≡ bs
unfolding put_bits
put_none bs o f h =
    bytes_ext (length bs) (replaced (bit_at bs) o 0 f) (bit_at bs)
    (λ j b. order j o (after_low (bit_at bs) o 0 f j) (λ k. after_high (bit_at bs) o 0 f j (omega arith)))
    ∙ bytes_are bs h

-- bits put directly behind one another are put at once
module _ (bs : List ℕ) (o a b : ℕ) (f : ℕ → Bool) where
  abbrev first : List ℕ
  first = put_bits bs o a f

  append_bit : (j : ℕ) → j < 8 * length bs → replaced (bit_at first) (o + a) b (λ k. f (a + k)) j ≡ replaced (bit_at bs) o (a + b) f j
  append_bit j h =
      order j (o + a)
      (λ k. after_low (bit_at first) (o + a) b (λ i. f (a + i)) j k ∙ bit_put bs o a f j h
      ∙ order j o
      (λ l. after_low (bit_at bs) o a f j l ∙ sym (after_low (bit_at bs) o (a + b) f j l))
      (λ l. after_inside (bit_at bs) o a f j l k ∙ sym (after_inside (bit_at bs) o (a + b) f j l (omega arith))))
      (λ k. order j (o + a + b)
      (λ l. after_inside (bit_at first) (o + a) b (λ i. f (a + i)) j k l ∙ ap f (omega arith)
      ∙ sym (after_inside (bit_at bs) o (a + b) f j (omega arith) (omega arith)))
      (λ l. after_high (bit_at first) (o + a) b (λ i. f (a + i)) j l ∙ bit_put bs o a f j h
      ∙ after_high (bit_at bs) o a f j k ∙ sym (after_high (bit_at bs) o (a + b) f j (omega arith))))

  pub put_append : put_bits (put_bits bs o a f) (o + a) b (λ k. f (a + k)) ≡ put_bits bs o (a + b) f
  unfolding put_bits
  put_append =
      ap (λ (n : ℕ). bytes_of n (replaced (bit_at first) (o + a) b (λ k. f (a + k)))) (put_length bs o a f)
      ∙ bytes_ext (length bs) (replaced (bit_at first) (o + a) b (λ k. f (a + k))) (replaced (bit_at bs) o (a + b) f) append_bit

-- a byte stored is its eight bits put
module _ (bs : List ℕ) (i v : ℕ) (h : Bytes bs) (hv : v < 256) where
  stored_same : (m : ℕ) → m ≡ i → m < length bs → get_or (set bs i v) m 0 ≡ number 8 (λ k. replaced (bit_at bs) (8 * i) 8 (bit v) (8 * m + k))
  stored_same m e b =
      rw (e, get_or-set_same bs i v 0 (omega arith))
      (sym
      (number_ext 8 (λ k. replaced (bit_at bs) (8 * i) 8 (bit v) (8 * i + k)) (bit v)
      (λ k hk. after_inside (bit_at bs) (8 * i) 8 (bit v) (8 * i + k) (omega arith) (omega arith) ∙ ap (bit v) (omega arith))
      ∙ number_bits 8 v hv))

  stored_other : (m : ℕ) → (m ≡ i → ⊥) → get_or (set bs i v) m 0 ≡ number 8 (λ k. replaced (bit_at bs) (8 * i) 8 (bit v) (8 * m + k))
  stored_other m n =
      rw (get_or-set_other bs i m v 0 n)
      (sym
      (number_ext 8 (λ k. replaced (bit_at bs) (8 * i) 8 (bit v) (8 * m + k)) (λ k. bit_at bs (8 * m + k))
      (λ k hk. order m i
      (λ l. after_low (bit_at bs) (8 * i) 8 (bit v) (8 * m + k) (omega arith))
      (λ l. after_high (bit_at bs) (8 * i) 8 (bit v) (8 * m + k) (omega arith)))
      ∙ byte_is bs m h))

  stored_at : (m : ℕ) → m < length bs → get_or (set bs i v) m 0 ≡ number 8 (λ k. replaced (bit_at bs) (8 * i) 8 (bit v) (8 * m + k))
  stored_at m b = elim (ℕ_discrete m i) [ yes e ↦ stored_same m e b | no n ↦ stored_other m n ]

  pub set_put : set bs i v ≡ put_bits bs (8 * i) 8 (bit v)
  unfolding put_bits
  set_put =
      ext_get_or 0 (set bs i v) (bytes_of (length bs) (replaced (bit_at bs) (8 * i) 8 (bit v)))
      (length-set bs i v ∙ sym (bytes_length (length bs) (replaced (bit_at bs) (8 * i) 8 (bit v))))
      (λ m b. let c : m < length bs = omega (arith, length-set bs i v) in
      stored_at m c ∙ sym (bytes_at_lem (length bs) (replaced (bit_at bs) (8 * i) 8 (bit v)) m c))
