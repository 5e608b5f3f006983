-- Byte arrays, one byte a turn.
use Prim.Native.Nat.{ℕ, zero, suc, ◌+◌, ◌*◌, ◌%◌, ◌<◌}
use mathlib.Core.Path.{◌≡◌, refl, sym, ◌∙◌, ap}
use mathlib.Core.Bool.{Bool}
use mathlib.Core.List.{List, [], ◌∷◌, ◌++◌, append-nil}
use native.Mathlib.Nat.{mod-eq_of_lt}
use native.Mathlib.Numerals.{add-one}
use native.Mathlib.Omega.{arith}
use lib.ListN.{length, get_or, set, drop, drop_of_length-le}
use lib.Seq.{drop-cons, set_at, append_snoc}
use Rattle.wire.specs.Bits.{bit}
use Rattle.signal.specs.Signal.{number, bit_at, bytes_of, put_bits}
use Rattle.signal.proofs.BytesOf.{bytes_length, bit_of_byte}
use Rattle.signal.proofs.Numbers.{number_ext, number_below}
use Rattle.signal.proofs.PutBits.{put_same, put_append}

-- one more byte put behind the i bytes before it
pub put_next : (bs : List ℕ) (o : ℕ) (vs : List ℕ) (i at s : ℕ) → 8 * at + s ≡ o + 8 * i
    → put_bits (put_bits bs o (8 * i) (bit_at vs)) (8 * at + s) 8 (bit (get_or vs i 0)) ≡ put_bits bs o (8 * (i + 1)) (bit_at vs)
put_next bs o vs i at s e =
    let ps = put_bits bs o (8 * i) (bit_at vs) in
    let d : 8 * i + 8 ≡ 8 * (i + 1) = omega arith in
    ap (λ (p : ℕ). put_bits ps p 8 (bit (get_or vs i 0))) e
    ∙ put_same ps (o + 8 * i) 8 (bit (get_or vs i 0)) (λ k. bit_at vs (8 * i + k)) (λ k h. sym (bit_of_byte vs i k h))
    ∙ put_append bs o (8 * i) 8 (bit_at vs)
    ∙ ap (λ (w : ℕ). put_bits bs o w (bit_at vs)) d

pub put_turn : (bs : List ℕ) (o : ℕ) (vs : List ℕ) (i at s : ℕ) (now next : List ℕ) → 8 * at + s ≡ o + 8 * i
    → now ≡ put_bits bs o (8 * i) (bit_at vs) → next ≡ put_bits now (8 * at + s) 8 (bit (get_or vs i 0))
    → next ≡ put_bits bs o (8 * (i + 1)) (bit_at vs)
put_turn bs o vs i at s now next e en ex = ex ∙ rw en (put_next bs o vs i at s e)

-- one more byte made of bits
bytes_snoc : (n : ℕ) (f : ℕ → Bool) → bytes_of (suc n) f ≡ bytes_of n f ++ (number 8 (λ k. f (8 * n + k)) ∷ [])
unfolding bytes_of
bytes_snoc zero f = ap (λ (x : ℕ). x ∷ []) (number_ext 8 f (λ k. f (8 * 0 + k)) (λ k h. ap f (omega arith)))
bytes_snoc (suc n) f =
    ap (λ (l : List ℕ). number 8 f ∷ l)
    (bytes_snoc n (λ j. f (8 + j))
    ∙ ap (λ (x : ℕ). bytes_of n (λ j. f (8 + j)) ++ (x ∷ []))
    (number_ext 8 (λ k. f (8 + (8 * n + k))) (λ k. f (8 * suc n + k)) (λ k h. ap f (omega arith))))

-- the first i bytes of an array that is being read, then what was there
abbrev pub gotten : (ℕ → Bool) → ℕ → List ℕ → List ℕ
gotten f i vs = bytes_of i f ++ drop i vs

pub gotten_next : (f : ℕ → Bool) (i : ℕ) (vs : List ℕ) → i < length vs
    → set (gotten f i vs) i (number 8 (λ k. f (8 * i + k))) ≡ gotten f (i + 1) vs
gotten_next f i vs h =
    let v = number 8 (λ k. f (8 * i + k)) in
    rw (add-one i, drop-cons vs i 0 h, bytes_snoc i f)
    (set_at (bytes_of i f) (get_or vs i 0) (drop (suc i) vs) v i (bytes_length i f)
    ∙ sym (append_snoc (bytes_of i f) v (drop (suc i) vs)))

pub gotten_all : (f : ℕ → Bool) (i : ℕ) (vs : List ℕ) → i ≡ length vs → gotten f i vs ≡ bytes_of (length vs) f
gotten_all f i vs e = rw (e, drop_of_length-le vs {i = length vs} (omega arith)) (append-nil (bytes_of (length vs) f))

pub gotten_none : (f : ℕ → Bool) (vs : List ℕ) → vs ≡ gotten f 0 vs
unfolding bytes_of
gotten_none f vs = refl

pub get_turn : (bs : List ℕ) (o : ℕ) (vs : List ℕ) (i at s x : ℕ) (now : List ℕ) → 8 * at + s ≡ o + 8 * i → i < length vs
    → now ≡ gotten (λ k. bit_at bs (o + k)) i vs → x ≡ number 8 (λ k. bit_at bs (8 * at + s + k))
    → set now i (x % 256) ≡ gotten (λ k. bit_at bs (o + k)) (i + 1) vs
get_turn bs o vs i at s x now e h en ex =
    let b : x < 256 = rw ex (number_below 8 (λ k. bit_at bs (8 * at + s + k))) in
    let d : x ≡ number 8 (λ k. bit_at bs (o + (8 * i + k))) =
    ex ∙ number_ext 8 (λ k. bit_at bs (8 * at + s + k)) (λ k. bit_at bs (o + (8 * i + k))) (λ k l. ap (bit_at bs) (omega arith)) in
    rw (en, mod-eq_of_lt b, d) (gotten_next (λ k. bit_at bs (o + k)) i vs h)
