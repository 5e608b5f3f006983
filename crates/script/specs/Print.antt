-- The texts of answers, and how they are put into a buffer.
use Rattle.std.specs.Prelude.{ℕ, ◌+◌, ◌-◌, ◌%◌, ◌≡◌, Bool, true, cond, List, [], ◌∷◌, ◌++◌, eqb, length, get_or, take, drop}
use Rattle.buslog.specs.Pairs.{pair_of}
use Rattle.buslog.specs.Row.{decimal_of}
use Rattle.buslog.specs.Report.{fronted}

-- as much of a text as there is room for behind a place of a buffer
unfoldable pub cut : List ℕ → List ℕ → ℕ → List ℕ
cut text buffer at = take (length buffer - at) text

-- a text was put at a place of a buffer, as far as there is room, and the place behind it is told
pub record Puts (text before : List ℕ) (at r : ℕ) (after : List ℕ) : Type 0 where
  pub place : r ≡ at + length (cut text before at)
  pub left : after ≡ take at before ++ fronted (cut text before at) (drop at before)

-- the number that stands for none, and what is shown of a number or of none
abbrev pub none : ℕ
none = 65536

unfoldable pub number_or_none : ℕ → List ℕ
number_or_none n = cond (eqb n none) (110 ∷ 111 ∷ 110 ∷ 101 ∷ []) (decimal_of n)

-- `N` stands for a number, `E` for a number or `none`, `H` for a byte as an upper-case hexadecimal pair
unfoldable pub stands_for : ℕ → Bool
stands_for c = cond (eqb c 78) true (cond (eqb c 69) true (eqb c 72))

-- what is shown of a character of a pattern, where n is the next number
unfoldable pub shown_by : ℕ → ℕ → List ℕ
shown_by c n = cond (eqb c 78) (decimal_of n) (cond (eqb c 69) (number_or_none n) (cond (eqb c 72) (pair_of (n % 256)) (c ∷ [])))

-- the numbers that are left behind a character
unfoldable pub left_behind : ℕ → List ℕ → List ℕ
left_behind c numbers = cond (stands_for c) (drop 1 numbers) numbers

-- the text of some numbers by a pattern: a character that stands for a number shows the next one, or 0 where there is none, and any other
-- shows itself
unfoldable pub text_by : List ℕ → List ℕ → List ℕ
text_by [] numbers = []
text_by (c ∷ cs) numbers = shown_by c (get_or numbers 0 0) ++ text_by cs (left_behind c numbers)

-- bytes as upper-case hexadecimal pairs, each behind a space
unfoldable pub spaced_pairs : List ℕ → List ℕ
spaced_pairs [] = []
spaced_pairs (b ∷ bs) = (32 ∷ pair_of b) ++ spaced_pairs bs
