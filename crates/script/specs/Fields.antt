-- The fields of a text, and what a field is by its form.
use Rattle.std.specs.Prelude.{ℕ, ◌+◌, ◌*◌, Bool, true, false, cond, ◌&&◌, Option, Some, None, List, [], ◌∷◌, ltb, leb, eqb, length, get_or, drop}
use Rattle.std.specs.Option.{option_and_then, option_map}
use Rattle.buslog.specs.Pairs.{digit_of, byte_of}
use Rattle.script.specs.declared.fields.Field.{Field}
use Rattle.script.specs.declared.fields.Field.TheVariants.{Word, Number}

-- ---- where the fields are

-- a character in front of the first field
unfoldable pub joined : ℕ → List (List ℕ) → List (List ℕ)
joined c [] = (c ∷ []) ∷ []
joined c (f ∷ fs) = (c ∷ f) ∷ fs

-- the fields of a text: what stands between two separators, before the first and behind the last one
unfoldable pub fields_of : ℕ → List ℕ → List (List ℕ)
fields_of s [] = [] ∷ []
fields_of s (c ∷ cs) = cond (eqb c s) ([] ∷ fields_of s cs) (joined c (fields_of s cs))

-- the fields from a place on, and none from a place behind the end
unfoldable pub fields_from : ℕ → List ℕ → ℕ → List (List ℕ)
fields_from s text at = cond (leb at (length text)) (fields_of s (drop at text)) []

-- ---- what a field is

-- a number up to a limit, digit by digit, where `value` was read before
unfoldable pub digits_from : ℕ → ℕ → List ℕ → Option ℕ
digits_from limit value [] = Some value
digits_from limit value (c ∷ cs) =
    cond (ltb (digit_of c) 10 && leb (10 * value + digit_of c) limit) (digits_from limit (10 * value + digit_of c) cs) None

-- one decimal digit or more, up to a limit
unfoldable pub decimal_field : ℕ → List ℕ → Option ℕ
decimal_field limit field = cond (eqb (length field) 0) None (digits_from limit 0 field)

-- a byte: an upper-case hexadecimal pair
unfoldable pub pair_field : List ℕ → Option ℕ
pair_field field = cond (eqb (length field) 2) (byte_of (get_or field 0 0) (get_or field 1 0)) None

-- two texts are the same
unfoldable pub same_text : List ℕ → List ℕ → Bool
same_text [] [] = true
same_text [] (c ∷ cs) = false
same_text (c ∷ cs) [] = false
same_text (c ∷ cs) (d ∷ ds) = eqb c d && same_text cs ds

-- a word, which must be the form's
unfoldable pub word_field : List ℕ → List ℕ → Option Field
word_field form field = cond (same_text form field) (Some Word) None

-- a number up to a limit, if one was read
unfoldable pub number_field : Option ℕ → List ℕ → Option ℕ
number_field limit field = option_and_then (λ n. decimal_field n field) limit

-- a field by its form: `HH` stands for a byte, a number for a number up to it, any other word for itself
unfoldable pub field_of : List ℕ → List ℕ → Option Field
field_of form field =
    cond (eqb (length form) 0) None
    (cond (eqb (get_or form 0 0) 72) (option_map Number (pair_field field))
    (cond (ltb (digit_of (get_or form 0 0)) 10) (option_map Number (number_field (decimal_field 4294967295 form) field)) (word_field form field)))
