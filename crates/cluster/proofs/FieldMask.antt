-- Occupied bits held as one number: a field is free where its mask meets none of them, and is added to them.
use Prim.Native.Nat.{ℕ, zero, suc, ◌+◌, ◌-◌, ◌*◌, ◌/◌, ◌%◌, ◌^◌, ◌≤◌, ◌<◌}
use mathlib.Core.Path.{◌≡◌, refl, sym, ◌∙◌, ap}
use mathlib.Core.Bool.{Bool, true, false, not, ◌&&◌, ◌||◌, and-false}
use native.Mathlib.Nat.{pow-suc, zero-mul, zero-add, add-zero, div-eq_of_lt, lt_of_lt_of_le, mul-pos}
use native.Mathlib.Omega.{arith}
use borrow.Author.Tests.{eq-eqb, ne_eqb, not-true}
use lib.Bits.{bit_and, bit_or, and_high, or_disjoint}
use lib.Dec.{eqb}
use lib.Pow.{pow_pos, pow_mono, ones_split, ones_lt, high, high_ones, shl_exact}
use Rattle.wire.specs.Bits.{bit, digit}
use Rattle.wire.proofs.Tests.{whether}
use Rattle.signal.specs.Signal.{number, inside}
use Rattle.signal.proofs.Inside.{order, inside_true, inside_low, inside_high}
use Rattle.signal.proofs.Numbers.{bit_none, bit_shift, number_mod, number_bits, number_below, bit_number, number_ext, number_join}
use Rattle.cluster.specs.Places.{any_below}
use Rattle.cluster.specs.Read.{hits}
use Rattle.cluster.proofs.Any.{none_below, any_found, any_ext}

-- ---- numbers from bits

number_none : (n : ℕ) → number n (λ k. false) ≡ 0
unfolding number
number_none zero = refl
number_none (suc n) = rw (number_none n)

number_ones : (n : ℕ) → number n (λ k. true) ≡ 2 ^ n - 1
unfolding number
number_ones zero = refl
number_ones (suc n) = rw (number_ones n, pow-suc 2 n) (omega (arith, pow_pos n))

-- a number is 0 exactly where none of its bits is set
pub none_set : (n : ℕ) (f : ℕ → Bool) → eqb (number n f) 0 ≡ not (any_below n f)
none_set n f =
    whether (any_below n f)
    (λ e. rw e (ne_eqb (number n f) 0 (not_zero (any_found n f e))))
    (λ e. rw e (eq-eqb (number n f) 0 (number_ext n f (λ k. false) (none_below n f e) ∙ number_none n)))
  where
    not_zero : (k : ℕ) × (k < n) × (f k ≡ true) → number n f ≡ 0 → ⊥
    not_zero found z =
        let b : bit 0 found.0 ≡ true = rw z at (bit_number n f found.0 found.1 ∙ found.2) in
        let d : ◌≡◌ {A = ℕ} 0 1 = cc (bit_none found.0) in
        omega arith

digit_or : (a b : Bool) → (a && b) ≡ false → digit a + digit b ≡ digit (a || b)
digit_or true true h = cc
digit_or true false h = refl
digit_or false true h = refl
digit_or false false h = refl

-- numbers with no bit in common add up to the one that has the bits of both
number_add : (n : ℕ) (f g : ℕ → Bool) → ((k : ℕ) → k < n → (f k && g k) ≡ false) → number n f + number n g ≡ number n (λ k. f k || g k)
unfolding number
number_add zero f g h = refl
number_add (suc n) f g h =
    omega (arith, digit_or (f 0) (g 0) (h 0 (omega arith)), number_add n (λ k. f (suc k)) (λ k. g (suc k)) (λ k b. h (suc k) (omega arith)))

-- a number below 2 ^ k has no bit from k on
bit_above : (k n j : ℕ) → n < 2 ^ k → k ≤ j → bit n j ≡ false
unfolding bit
bit_above k n j h b = let e : n / 2 ^ j ≡ 0 = div-eq_of_lt (lt_of_lt_of_le h (pow_mono b)) in rw e

-- ---- the ones of a field

-- w ones
pub ones_shifted : (w : ℕ) → w ≤ 64 → 18446744073709551615 / 2 ^ (64 - w) ≡ 2 ^ w - 1
ones_shifted w h =
    let e : w + (64 - w) ≡ 64 = omega arith in
    ap (λ n. (2 ^ n - 1) / 2 ^ (64 - w)) (sym e)
    ∙ ap (λ n. n / 2 ^ (64 - w)) (ones_split w (64 - w))
    ∙ high (2 ^ w - 1) (64 - w) (ones_lt (64 - w))

-- w ones at an offset are the bits inside
number_inside : (o w r : ℕ) → number (o + (w + r)) (inside o w) ≡ (2 ^ w - 1) * 2 ^ o
number_inside o w r =
    let low : number o (inside o w) ≡ 0 =
    number_ext o (inside o w) (λ k. false) (λ k h. inside_low o w k h) ∙ number_none o in
    let ones : number w (λ k. inside o w (o + k)) ≡ 2 ^ w - 1 =
    number_ext w (λ k. inside o w (o + k)) (λ k. true) (λ k h. inside_true o w (o + k) (omega arith) (omega arith)) ∙ number_ones w in
    let above : number r (λ k. inside o w (o + (w + k))) ≡ 0 =
    number_ext r (λ k. inside o w (o + (w + k))) (λ k. false) (λ k h. inside_high o w (o + (w + k)) (omega arith)) ∙ number_none r in
    number_join o (w + r) (inside o w) ∙ rw (low, number_join w r (λ k. inside o w (o + k)), ones, above) (simp (zero-mul, zero-add, add-zero))

-- ---- what the code does

-- no bit of the field is bits
pub field_free : (bits o w : ℕ) → o + w ≤ 64 → eqb (bit_and bits (((2 ^ w - 1) * 2 ^ o) % 2 ^ 64)) 0 ≡ not (hits bits o w)
unfolding hits
field_free bits o w fits =
    let field : bit_and bits ((2 ^ w - 1) * 2 ^ o) ≡ (bits / 2 ^ o % 2 ^ w) * 2 ^ o = rw (high_ones w o) at (and_high bits w o) in
    rw (
      shl_exact w o 64 (ones_lt w) (omega arith),
      field,
      shifted_none (bits / 2 ^ o % 2 ^ w),
      ← (number_mod w (bits / 2 ^ o)),
      none_set w (bit (bits / 2 ^ o)),
    )
    (ap not (any_ext w (bit (bits / 2 ^ o)) (λ k. bit bits (o + k)) (λ k h. bit_shift bits o k)))
  where
    -- a number shifted up is 0 exactly where it is
    shifted_none : (n : ℕ) → eqb (n * 2 ^ o) 0 ≡ eqb n 0
    shifted_none zero = rw (zero-mul (2 ^ o))
    shifted_none (suc n) =
        ne_eqb (suc n * 2 ^ o) 0 (λ e. omega (arith, mul-pos {m = suc n} {n = 2 ^ o} (omega arith) (pow_pos o)))
        ∙ sym (ne_eqb (suc n) 0 (λ e. omega arith))

module _ (bits o w : ℕ) (small : bits < 2 ^ 64) (fits : o + w ≤ 64) (free : hits bits o w ≡ false) where
  -- the field's bits are not bits
  apart : (j : ℕ) → (bit bits j && inside o w j) ≡ false
  unfolding hits
  apart j =
      order j o
      (λ h. rw (inside_low o w j h) (and-false (bit bits j)))
      (λ h. order j (o + w)
      (λ k. let e : o + (j - o) ≡ j = omega arith in
      let f : bit bits j ≡ false = rw e at (none_below w (λ k. bit bits (o + k)) free (j - o) (omega arith)) in
      rw f)
      (λ k. rw (inside_high o w j k) (and-false (bit bits j))))

  sum_is : bits + (2 ^ w - 1) * 2 ^ o ≡ number 64 (λ j. bit bits j || inside o w j)
  sum_is =
      let e : o + (w + (64 - (o + w))) ≡ 64 = omega arith in
      let field : number 64 (inside o w) ≡ (2 ^ w - 1) * 2 ^ o = rw e at (number_inside o w (64 - (o + w))) in
      omega (arith, field, number_bits 64 bits small, number_add 64 (bit bits) (inside o w) (λ k h. apart k))

  pub field_put : (bits + ((2 ^ w - 1) * 2 ^ o) % 2 ^ 64 < 2 ^ 64)
      × ((j : ℕ) → bit (bits + ((2 ^ w - 1) * 2 ^ o) % 2 ^ 64) j ≡ (bit bits j || inside o w j))
  field_put =
      rw (shl_exact w o 64 (ones_lt w) (omega arith), sum_is) (
        number_below 64 (λ j. bit bits j || inside o w j),
        λ j. order j 64
            (bit_number 64 (λ k. bit bits k || inside o w k) j)
            (λ h. rw (
              bit_above 64 (number 64 (λ k. bit bits k || inside o w k)) j (number_below 64 (λ k. bit bits k || inside o w k)) h,
              bit_above 64 bits j small h,
              inside_high o w j (omega arith),
            )),
      )

-- and joined to bits that it does not meet
pub field_joined : (bits o w : ℕ) → bits < 2 ^ 64 → o + w ≤ 64 → bit_and bits (((2 ^ w - 1) * 2 ^ o) % 2 ^ 64) ≡ 0
    → (j : ℕ) → bit (bit_or bits (((2 ^ w - 1) * 2 ^ o) % 2 ^ 64)) j ≡ (bit bits j || inside o w j)
field_joined bits o w small fits none =
    let free : hits bits o w ≡ false = not-true (hits bits o w) (sym (field_free bits o w fits) ∙ eq-eqb _ 0 none) in
    rw (or_disjoint bits (((2 ^ w - 1) * 2 ^ o) % 2 ^ 64) none) (field_put bits o w small fits free).1
