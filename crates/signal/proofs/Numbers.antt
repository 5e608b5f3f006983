-- A number and its bits.
use Prim.Native.Nat.{ℕ, zero, suc, ◌+◌, ◌*◌, ◌/◌, ◌%◌, ◌^◌, ◌<◌, ◌≤◌}
use mathlib.Core.Path.{◌≡◌, refl, sym, ◌∙◌, ap, fun_ext}
use mathlib.Core.Bool.{Bool, true, false}
use native.Mathlib.Nat.{pow-suc, pow-zero, div-one, mod-one, mod-eq_of_lt, zero-div, suc-add, zero-add, mul_assoc, mul-one}
use native.Mathlib.Numerals.{one-add}
use native.Mathlib.Omega.{arith}
use lib.Arith.{mod-mul}
use lib.Dec.{eqb}
use lib.Pow.{pow_pos, shr-shr}
use Rattle.wire.specs.Bits.{bit, digit}
use Rattle.wire.proofs.Tests.{digit_below}
use Rattle.signal.specs.Signal.{number}

-- ---- bits

pub bit_zero : (n : ℕ) → bit n 0 ≡ eqb (n % 2) 1
unfolding bit
bit_zero n = rw (pow-zero, div-one n)

-- the bits of n / 2 ^ a are those of n from a on
pub bit_shift : (n a k : ℕ) → bit (n / 2 ^ a) k ≡ bit n (a + k)
unfolding bit
bit_shift n a k = rw (shr-shr n a k)

pub bit_suc : (n k : ℕ) → bit n (suc k) ≡ bit (n / 2) k
bit_suc n k = rw (one-add k) at (sym (bit_shift n 1 k))

pub bit_none : (k : ℕ) → bit 0 k ≡ false
unfolding bit
bit_none k = rw (zero-div (2 ^ k))

digit_eqb : (x : ℕ) → x < 2 → digit (eqb x 1) ≡ x
digit_eqb zero h = refl
digit_eqb (suc zero) h = refl
digit_eqb (suc (suc x)) h = absurd (omega arith)

pub digit_bit : (n : ℕ) → digit (bit n 0) ≡ n % 2
digit_bit n = ap digit (bit_zero n) ∙ digit_eqb (n % 2) (omega arith)

eqb_digit : (b : Bool) → eqb (digit b) 1 ≡ b
eqb_digit true = refl
eqb_digit false = refl

-- ---- numbers from bits

-- the low w bits of n make n modulo 2 ^ w
pub number_mod : (w n : ℕ) → number w (bit n) ≡ n % 2 ^ w
unfolding number
number_mod zero n = rw (pow-zero, mod-one n)
number_mod (suc w) n =
    let ih : number w (λ k. bit n (suc k)) ≡ n / 2 % 2 ^ w = ap (number w) (fun_ext (bit_suc n)) ∙ number_mod w (n / 2) in
    rw (pow-suc 2 w, mod-mul n {m = 2 ^ w} {c = 2} (pow_pos w) (omega arith), ih, digit_bit n) (omega arith)

-- a number is made of its bits
pub number_bits : (w n : ℕ) → n < 2 ^ w → number w (bit n) ≡ n
number_bits w n h = number_mod w n ∙ mod-eq_of_lt h

pub number_below : (w : ℕ) (f : ℕ → Bool) → number w f < 2 ^ w
unfolding number
number_below zero f = rw pow-zero (omega arith)
number_below (suc w) f = rw (pow-suc 2 w) (omega (arith, digit_below (f 0), number_below w (λ k. f (suc k))))

-- the bits of what is made are those that it was made of
pub bit_number : (w : ℕ) (f : ℕ → Bool) (k : ℕ) → k < w → bit (number w f) k ≡ f k
unfolding number
bit_number zero f k h = absurd (omega arith)
bit_number (suc w) f zero h =
    let m = number w (λ k. f (suc k)) in
    let e : (digit (f 0) + 2 * m) % 2 ≡ digit (f 0) = omega (arith, digit_below (f 0)) in
    rw (bit_zero (digit (f 0) + 2 * m), e) (eqb_digit (f 0))
bit_number (suc w) f (suc k) h =
    let m = number w (λ j. f (suc j)) in
    let e : (digit (f 0) + 2 * m) / 2 ≡ m = omega (arith, digit_below (f 0)) in
    rw (bit_suc (digit (f 0) + 2 * m) k, e) (bit_number w (λ j. f (suc j)) k (omega arith))

pub number_ext : (w : ℕ) (f g : ℕ → Bool) → ((k : ℕ) → k < w → f k ≡ g k) → number w f ≡ number w g
unfolding number
number_ext zero f g h = refl
number_ext (suc w) f g h =
    rw (h 0 (omega arith), number_ext w (λ k. f (suc k)) (λ k. g (suc k)) (λ k b. h (suc k) (omega arith)))

-- b bits from bit a on
pub number_part : (n a b : ℕ) (f : ℕ → Bool) → a + b ≤ n → number n f / 2 ^ a % 2 ^ b ≡ number b (λ k. f (a + k))
number_part n a b f h =
    sym (number_mod b (number n f / 2 ^ a))
    ∙ number_ext b (bit (number n f / 2 ^ a)) (λ k. f (a + k))
    (λ k hk. bit_shift (number n f) a k ∙ bit_number n f (a + k) (omega arith))

-- a bits, then b more above them
pub number_join : (a b : ℕ) (f : ℕ → Bool) → number (a + b) f ≡ number a f + number b (λ k. f (a + k)) * 2 ^ a
unfolding number
number_join zero b f = simp (zero-add, mul-one)
number_join (suc a) b f =
    let y = number b (λ k. f (suc (a + k))) in
    let ih : number (a + b) (λ k. f (suc k)) ≡ number a (λ k. f (suc k)) + y * 2 ^ a = number_join a b (λ k. f (suc k)) in
    let e : y * 2 ^ suc a ≡ y * 2 ^ a * 2 = rw (pow-suc 2 a, mul_assoc y (2 ^ a) 2) in
    simp suc-add (omega (arith, ih, e))
