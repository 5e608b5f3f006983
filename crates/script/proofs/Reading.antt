-- What reading a field comes to, character by character.
use Prim.Native.Nat.{ℕ, ◌+◌, ◌-◌, ◌*◌, ◌<◌, ◌≤◌}
use mathlib.Core.Path.{◌≡◌, refl, sym, ap}
use mathlib.Core.Bool.{true, false, ◌&&◌, and-false}
use mathlib.Core.List.{List, [], ◌∷◌}
use native.Mathlib.Numerals.{add-one}
use native.Mathlib.Omega.{arith}
use borrow.Author.Tests.{lt-ltb, le-ltb, eq-eqb, ne_eqb, le-leb, lt-leb, leb-true, eqb-true, eqb-false}
use lib.Dec.{ltb, leb, eqb}
use lib.ListN.{length, get_or, drop, drop_of_length-le}
use lib.Seq.{drop-cons}
use Rattle.buslog.proofs.Digits.{below_digits, decimal_digit, between_digits, letter_digit, above_digits}
use Rattle.signal.proofs.Inside.{order}
use Rattle.wire.proofs.Tests.{and_right, whether}
use Rattle.buslog.specs.Pairs.{digit_of, byte_of}
use Rattle.std.proofs.Common.{Some, None, ◌⊎◌, ⊎_elim, ◌∙◌, nat_eq}
use lib.Pointwise.{pointwise}
use Rattle.std.specs.Option.{option_map}
use Rattle.script.specs.declared.fields.Field.TheVariants.{Word, Number}
use Rattle.script.specs.Fields.{digits_from, decimal_field, pair_field, same_text, word_field, number_field, field_of}

-- what stands from a place on: the character there, and what stands behind it
pub from_place : (text : List ℕ) (i : ℕ) → i < length text → drop i text ≡ get_or text i 0 ∷ drop (i + 1) text
from_place text i h = rw (add-one, drop-cons text i 0 h)

-- ---- a number

-- a character of value below 10 is a decimal digit
pub is_digit : (c : ℕ) → digit_of c < 10 → (48 ≤ c) × (c ≤ 57)
is_digit c h =
    order c 48 (λ a. absurd (omega (arith, below_digits c a))) (λ a.
    order 57 c
    (λ b.
    order c 65 (λ d. absurd (omega (arith, between_digits c b d))) (λ d.
    order 70 c (λ e. absurd (omega (arith, above_digits c e))) (λ e. absurd (omega (arith, letter_digit c d e)))))
    (λ b. (a, b)))

module _ (limit : ℕ) where
  pub no_decimal : (field : List ℕ) → length field ≡ 0 → None ≡ decimal_field limit field
  unfolding decimal_field
  no_decimal field e = simp (eq-eqb (length field) 0 e)

  pub some_decimal : (field : List ℕ) → (length field ≡ 0 → ⊥) → decimal_field limit field ≡ digits_from limit 0 field
  unfolding decimal_field
  some_decimal field e = simp (ne_eqb (length field) 0 e)

  module _ (field : List ℕ) (value i : ℕ) (h : i < length field) where
    pub no_digit : (48 ≤ get_or field i 0 → get_or field i 0 ≤ 57 → ⊥) → digits_from limit value (drop i field) ≡ None
    unfolding digits_from
    no_digit n =
        let d : digit_of (get_or field i 0) < 10 → ⊥ = λ l. let p = is_digit (get_or field i 0) l in n p.0 p.1 in
        rw (from_place field i h) (simp (le-ltb (digit_of (get_or field i 0)) 10 (omega arith)))

    module _ (low : 48 ≤ get_or field i 0) (high : get_or field i 0 ≤ 57) where
      value_of : digit_of (get_or field i 0) ≡ get_or field i 0 - 48
      value_of = decimal_digit (get_or field i 0) low high

      pub too_large : limit < 10 * value + (get_or field i 0 - 48) → digits_from limit value (drop i field) ≡ None
      unfolding digits_from
      too_large d = rw (from_place field i h, value_of) (simp (lt-leb (10 * value + (get_or field i 0 - 48)) limit d, and-false))

      pub next_digit : 10 * value + (get_or field i 0 - 48) ≤ limit
          → digits_from limit value (drop i field) ≡ digits_from limit (10 * value + (get_or field i 0 - 48)) (drop (i + 1) field)
      unfolding digits_from
      next_digit e =
          rw (from_place field i h, value_of)
          (simp (lt-ltb (get_or field i 0 - 48) 10 (omega arith), le-leb (10 * value + (get_or field i 0 - 48)) limit e))

  pub all_digits : (field : List ℕ) (value i : ℕ) → length field ≤ i → digits_from limit value (drop i field) ≡ Some value
  unfolding digits_from
  all_digits field value i h = rw (drop_of_length-le field {i = i} h)

  -- a number is within its limit
  pub digits_within : (field : List ℕ) (value v : ℕ) → value ≤ limit → digits_from limit value field ≡ Some v → v ≤ limit
  unfolding digits_from
  digits_within [] value v h e = let q : value ≡ v = cc in omega arith
  digits_within (c ∷ cs) value v h e =
      whether (ltb (digit_of c) 10 && leb (10 * value + digit_of c) limit)
      (λ t. digits_within cs (10 * value + digit_of c) v
      (leb-true (10 * value + digit_of c) limit (and_right (ltb (digit_of c) 10) (leb (10 * value + digit_of c) limit) t)) (simp t at e))
      (λ t. let bad : None ≡ Some v = simp t at e in let z : ◌≡◌ {A = ℕ} 0 1 = cc in absurd (omega arith))

  pub decimal_within : (field : List ℕ) (v : ℕ) → decimal_field limit field ≡ Some v → v ≤ limit
  unfolding decimal_field
  decimal_within field v e =
      whether (eqb (length field) 0)
      (λ t. let bad : None ≡ Some v = simp t at e in let z : ◌≡◌ {A = ℕ} 0 1 = cc in absurd (omega arith))
      (λ t. digits_within field 0 v (omega arith) (simp t at e))

-- ---- a byte

module _ (field : List ℕ) where
  pub no_two : (length field ≡ 2 → ⊥) → None ≡ pair_field field
  unfolding pair_field
  no_two e = simp (ne_eqb (length field) 2 e)

  pub two : length field ≡ 2 → byte_of (get_or field 0 0) (get_or field 1 0) ≡ pair_field field
  unfolding pair_field
  two e = simp (eq-eqb (length field) 2 e)

-- ---- a word

eqb_flipped : (a b : ℕ) → eqb a b ≡ eqb b a
eqb_flipped a b =
    whether (eqb a b) (λ e. e ∙ sym (eq-eqb b a (sym (eqb-true a b e)))) (λ e. e ∙ sym (ne_eqb b a (λ q. eqb-false a b e (sym q))))

-- texts that are equal character by character are the same
same_texts : (form field : List ℕ) → pointwise nat_eq field form ≡ same_text form field
unfolding same_text
same_texts [] [] = refl
same_texts [] (c ∷ cs) = refl
same_texts (c ∷ cs) [] = refl
same_texts (c ∷ cs) (d ∷ ds) = rw (same_texts cs ds, eqb_flipped d c)

module _ (form field : List ℕ) where
  pub is_word : true ≡ pointwise nat_eq field form → Some Word ≡ word_field form field
  unfolding word_field
  is_word e = rw (← same_texts, ← e)

  pub no_word : false ≡ pointwise nat_eq field form → None ≡ word_field form field
  unfolding word_field
  no_word e = rw (← same_texts, ← e)

-- ---- a field by its form

module _ (form field : List ℕ) where
  pub no_form : length form ≤ 0 → None ≡ field_of form field
  unfolding field_of
  no_form h = simp (eq-eqb (length form) 0 (omega arith))

  -- by the form's first character
  module _ {c : ℕ} (first : (0 < length form) × ((d : ℕ) → c ≡ get_or form 0 d)) where
    some : length form ≡ 0 → ⊥
    some e = omega (arith, first.0)

    pub by_pair : c ≡ 72 → option_map Number (pair_field field) ≡ field_of form field
    unfolding field_of
    by_pair e = simp (ne_eqb (length form) 0 some, eq-eqb (get_or form 0 0) 72 (sym (first.1 0) ∙ e))

    module _ (other : c ≡ 72 → ⊥) where
      no_pair : get_or form 0 0 ≡ 72 → ⊥
      no_pair e = other (first.1 0 ∙ e)

      pub by_word : (c < 48) ⊎ (57 < c) → word_field form field ≡ field_of form field
      unfolding field_of
      by_word o =
          let d : digit_of (get_or form 0 0) < 10 → ⊥
          = λ l. let p = is_digit (get_or form 0 0) l in ⊎_elim (λ b. omega (arith, p.0, first.1 0)) (λ b. omega (arith, p.1, first.1 0)) o in
          simp (ne_eqb (length form) 0 some, ne_eqb (get_or form 0 0) 72 no_pair, le-ltb (digit_of (get_or form 0 0)) 10 (omega arith))

      module _ (digit : (48 ≤ c) × (c ≤ 57)) where
        pub by_number_lem : option_map Number (number_field (decimal_field 4294967295 form) field) ≡ field_of form field
        unfolding field_of
        by_number_lem =
            let d = decimal_digit (get_or form 0 0) (omega (arith, digit.0, first.1 0)) (omega (arith, digit.1, first.1 0)) in
            let low : digit_of (get_or form 0 0) < 10 = omega (arith, d, digit.1, first.1 0) in
            simp (ne_eqb (length form) 0 some, ne_eqb (get_or form 0 0) 72 no_pair, lt-ltb (digit_of (get_or form 0 0)) 10 low)

        pub no_limit : None ≡ decimal_field 4294967295 form → None ≡ field_of form field
        unfolding number_field
        no_limit e = ap (λ l. option_map Number (number_field l field)) e ∙ by_number_lem

        pub by_limit : {limit : ℕ} → Some limit ≡ decimal_field 4294967295 form → option_map Number (decimal_field limit field) ≡ field_of form field
        unfolding number_field
        by_limit e = ap (λ l. option_map Number (number_field l field)) e ∙ by_number_lem
