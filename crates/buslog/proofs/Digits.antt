-- The value of a digit, case by case.
use Rattle.std.proofs.Common.{◌≡◌, ℕ, ◌+◌, ◌-◌, ◌<◌, ◌≤◌, eqb, refl, arith, le-ltb, lt-ltb, eqb-true, le-leb}
use borrow.Author.Tests.{lt-leb}
use Rattle.wire.proofs.Below.{below}
use Rattle.signal.proofs.Inside.{order}
use Rattle.buslog.specs.Pairs.{digit_of, digit_character}

module _ (c : ℕ) where
  pub below_digits : c < 48 → digit_of c ≡ 16
  unfolding digit_of
  below_digits h = simp (lt-leb 48 c h, lt-leb 65 c (omega arith))

  pub decimal_digit : 48 ≤ c → c ≤ 57 → digit_of c ≡ c - 48
  unfolding digit_of
  decimal_digit h k = simp (le-leb 48 c h, le-leb c 57 k)

  pub between_digits : 57 < c → c < 65 → digit_of c ≡ 16
  unfolding digit_of
  between_digits h k = simp (le-leb 48 c (omega arith), lt-leb c 57 h, lt-leb 65 c k)

  pub letter_digit : 65 ≤ c → c ≤ 70 → digit_of c ≡ c - 55
  unfolding digit_of
  letter_digit h k = simp (le-leb 48 c (omega arith), lt-leb c 57 (omega arith), le-leb 65 c h, le-leb c 70 k)

  pub above_digits : 70 < c → digit_of c ≡ 16
  unfolding digit_of
  above_digits h = simp (le-leb 48 c (omega arith), lt-leb c 57 (omega arith), le-leb 65 c (omega arith), lt-leb c 70 h)

-- the character of a digit has its value, each of the sixteen tried
pub digit_back : (d : ℕ) → d < 16 → digit_of (digit_character d) ≡ d
unfolding digit_of digit_character
digit_back d h = eqb-true (digit_of (digit_character d)) d (below 16 (λ k. eqb (digit_of (digit_character k)) k) refl d h)

-- the character of a value
pub low_character : (d : ℕ) → d < 10 → digit_character d ≡ 48 + d
unfolding digit_character
low_character d h = rw (lt-ltb d 10 h)

pub high_character : (d : ℕ) → 10 ≤ d → digit_character d ≡ 55 + d
unfolding digit_character
high_character d h = rw (le-ltb d 10 h)

-- a digit is the character of its value
pub character_back : (c : ℕ) → digit_of c < 16 → digit_character (digit_of c) ≡ c
character_back c h =
    order c 48 (λ a. absurd (omega (arith, below_digits c a)))
    (λ a. order c 58 (λ b. omega (arith, decimal_digit c a (omega arith), low_character (digit_of c) (omega (arith, decimal_digit c a (omega arith)))))
    (λ b. order c 65 (λ d. absurd (omega (arith, between_digits c (omega arith) d)))
    (λ d. order c 71 (λ e. omega (arith, letter_digit c d (omega arith), high_character (digit_of c) (omega (arith, letter_digit c d (omega arith)))))
    (λ e. absurd (omega (arith, above_digits c (omega arith)))))))
