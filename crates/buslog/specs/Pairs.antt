-- Document 01, "The log program": the bytes of a line, "as upper-case hexadecimal pairs with one space between, 1 to 10 pairs".
use Rattle.std.specs.Prelude.{ℕ, ◌+◌, ◌-◌, ◌*◌, ◌/◌, ◌%◌, Bool, false, cond, Option, Some, None, ◌&&◌, List, [], ◌∷◌, ◌++◌, length, ◌==◌, nat_le, nat_lt}

-- the value of an upper-case hexadecimal digit, `0` to `9` and `A` to `F`, and 16 for any other character
unfoldable pub digit_of : ℕ → ℕ
digit_of c = cond (nat_le 48 c && nat_le c 57) (c - 48) (cond (nat_le 65 c && nat_le c 70) (c - 55) 16)

-- two characters are digits
unfoldable pub is_pair : ℕ → ℕ → Bool
is_pair h l = nat_lt (digit_of h) 16 && nat_lt (digit_of l) 16

-- the byte of a pair
unfoldable pub pair_byte : ℕ → ℕ → ℕ
pair_byte h l = 16 * digit_of h + digit_of l

-- the byte that two characters are the pair of, if they are one
unfoldable pub byte_of : ℕ → ℕ → Option ℕ
byte_of h l = cond (is_pair h l) (Some (pair_byte h l)) None

-- one or more pairs with one space between
unfoldable pub are_pairs : List ℕ → Bool
are_pairs [] = false
are_pairs (h ∷ []) = false
are_pairs (h ∷ l ∷ []) = is_pair h l
are_pairs (h ∷ l ∷ s ∷ rest) = is_pair h l && (s == 32 && are_pairs rest)

-- the bytes of such pairs
unfoldable pub pair_bytes : List ℕ → List ℕ
pair_bytes [] = []
pair_bytes (h ∷ []) = []
pair_bytes (h ∷ l ∷ []) = pair_byte h l ∷ []
pair_bytes (h ∷ l ∷ s ∷ rest) = pair_byte h l ∷ pair_bytes rest

-- "1 to 10 pairs": ten take 29 characters
abbrev pub longest_line : ℕ
longest_line = 29

-- the bytes of a line, and none where the line is text
unfoldable pub line_bytes : List ℕ → List ℕ
line_bytes line = cond (nat_le (length line) longest_line && are_pairs line) (pair_bytes line) []

-- ---- the same the other way round

-- the character of a hexadecimal digit
unfoldable pub digit_character : ℕ → ℕ
digit_character d = cond (nat_lt d 10) (48 + d) (55 + d)

-- a byte as an upper-case hexadecimal pair
unfoldable pub pair_of : ℕ → List ℕ
pair_of b = digit_character (b / 16) ∷ digit_character (b % 16) ∷ []

-- bytes as such pairs
unfoldable pub spelled : List ℕ → List ℕ
spelled [] = []
spelled (b ∷ []) = pair_of b
spelled (b ∷ c ∷ bs) = pair_of b ++ (32 ∷ spelled (c ∷ bs))
