-- Bytes from bits, and bits of bytes.
use Prim.Native.Nat.{ℕ, zero, suc, ◌+◌, ◌*◌, ◌/◌, ◌%◌, ◌<◌, ◌≤◌}
use mathlib.Core.Path.{◌≡◌, refl, ◌∙◌, ap}
use mathlib.Core.Bool.{Bool, false}
use mathlib.Core.List.{List}
use native.Mathlib.Omega.{arith}
use lib.ListN.{length, get_or, get_or-eq_default}
use lib.Seq.{ext_get_or}
use Rattle.wire.specs.Bits.{bit, Bytes}
use Rattle.signal.specs.Signal.{number, bit_at, bytes_of}
use Rattle.signal.proofs.Inside.{order}
use Rattle.signal.proofs.Numbers.{number_below, number_bits, number_ext, bit_number, bit_none}

pub bytes_length : (n : ℕ) (f : ℕ → Bool) → length (bytes_of n f) ≡ n
unfolding bytes_of
bytes_length zero f = refl
bytes_length (suc n) f = ap suc (bytes_length n (λ j. f (8 + j)))

-- byte m has the eight bits from 8m on
pub bytes_at_lem : (n : ℕ) (f : ℕ → Bool) (m : ℕ) → m < n → get_or (bytes_of n f) m 0 ≡ number 8 (λ k. f (8 * m + k))
unfolding bytes_of
bytes_at_lem zero f m h = absurd (omega arith)
bytes_at_lem (suc n) f zero h = number_ext 8 f (λ k. f (8 * 0 + k)) (λ k b. ap f (omega arith))
bytes_at_lem (suc n) f (suc m) h =
    bytes_at_lem n (λ j. f (8 + j)) m (omega arith)
    ∙ number_ext 8 (λ k. f (8 + (8 * m + k))) (λ k. f (8 * suc m + k)) (λ k b. ap f (omega arith))

pub bytes_ext : (n : ℕ) (f g : ℕ → Bool) → ((j : ℕ) → j < 8 * n → f j ≡ g j) → bytes_of n f ≡ bytes_of n g
unfolding bytes_of
bytes_ext zero f g h = refl
bytes_ext (suc n) f g h =
    rw (number_ext 8 f g (λ k b. h k (omega arith)), bytes_ext n (λ j. f (8 + j)) (λ j. g (8 + j)) (λ j b. h (8 + j) (omega arith)))

-- what is made of bits are bytes
pub bytes_bytes : (n : ℕ) (f : ℕ → Bool) → Bytes (bytes_of n f)
bytes_bytes n f m =
    order m n
    (λ h. rw (bytes_at_lem n f m h) (number_below 8 (λ k. f (8 * m + k))))
    (λ h. let e : length (bytes_of n f) ≤ m = omega (arith, bytes_length n f) in rw (get_or-eq_default (bytes_of n f) 0 e) (omega arith))

-- behind the last byte all bits are 0
pub bit_behind : (bs : List ℕ) (j : ℕ) → 8 * length bs ≤ j → bit_at bs j ≡ false
unfolding bit_at
bit_behind bs j h =
    let e : length bs ≤ j / 8 = omega arith in
    rw (get_or-eq_default bs 0 e) (bit_none (j % 8))

-- bit j of the bytes is the bit that they were made of
pub bit_bytes : (n : ℕ) (f : ℕ → Bool) (j : ℕ) → j < 8 * n → bit_at (bytes_of n f) j ≡ f j
unfolding bit_at
bit_bytes n f j h =
    rw (bytes_at_lem n f (j / 8) (omega arith), bit_number 8 (λ k. f (8 * (j / 8) + k)) (j % 8) (omega arith)) (ap f (omega arith))

-- bit k of byte m
pub bit_of_byte : (bs : List ℕ) (m k : ℕ) → k < 8 → bit_at bs (8 * m + k) ≡ bit (get_or bs m 0) k
unfolding bit_at
bit_of_byte bs m k h =
    let d : (8 * m + k) / 8 ≡ m = omega arith in
    let r : (8 * m + k) % 8 ≡ k = omega arith in
    rw (d, r)

-- a byte is made of its bits
pub byte_is : (bs : List ℕ) (m : ℕ) → Bytes bs → number 8 (λ k. bit_at bs (8 * m + k)) ≡ get_or bs m 0
byte_is bs m h =
    number_ext 8 (λ k. bit_at bs (8 * m + k)) (bit (get_or bs m 0)) (bit_of_byte bs m)
    ∙ number_bits 8 (get_or bs m 0) (h m)

-- bytes are made of their bits
pub bytes_are : (bs : List ℕ) → Bytes bs → bytes_of (length bs) (bit_at bs) ≡ bs
bytes_are bs h =
    ext_get_or 0 (bytes_of (length bs) (bit_at bs)) bs (bytes_length (length bs) (bit_at bs))
    (λ m b. bytes_at_lem (length bs) (bit_at bs) m (omega (arith, bytes_length (length bs) (bit_at bs))) ∙ byte_is bs m h)
