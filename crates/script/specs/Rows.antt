-- Two rows of numbers with a colon between them.
use Rattle.std.specs.Prelude.{ℕ, ◌-◌, ◌≡◌, Bool, true, false, cond, ◌&&◌, Option, Some, None, List, [], ◌∷◌, ◌++◌, map, eqb, length, get_or, take, drop}
use Rattle.std.specs.Option.{is_some}
use Rattle.buslog.specs.Report.{fronted}
use Rattle.script.specs.declared.rows.Row.{Row}
use Rattle.script.specs.Fields.{fields_from, decimal_field}
use Rattle.script.specs.Lists.{leading, count_of}

-- a colon that stands alone
unfoldable pub is_colon : List ℕ → Bool
is_colon field = cond (eqb (length field) 1) (eqb (get_or field 0 0) 58) false

-- a colon is among some fields
unfoldable pub has_colon : List (List ℕ) → Bool
has_colon [] = false
has_colon (f ∷ fs) = cond (is_colon f) true (has_colon fs)

-- the fields before the first colon, numbers of 16 bits
unfoldable pub first_row : List (List ℕ) → List (Option ℕ)
first_row [] = []
first_row (f ∷ fs) = cond (is_colon f) [] (decimal_field 65535 f ∷ first_row fs)

-- the fields behind it
unfoldable pub behind_colon : List (List ℕ) → List (List ℕ)
behind_colon [] = []
behind_colon (f ∷ fs) = cond (is_colon f) fs (behind_colon fs)

-- they are numbers of 32 bits
unfoldable pub second_row : List (List ℕ) → List (Option ℕ)
second_row fs = map (decimal_field 4294967295) (behind_colon fs)

-- the first row is right, where n numbers stand before it, and a colon ends it
unfoldable pub is_first : ℕ → ℕ → List (List ℕ) → Bool
is_first n room fs = has_colon fs && is_some (count_of n room (first_row fs))

-- how many numbers a right first row and a second one have
abbrev pub both_of : Option ℕ → Option ℕ → Option (ℕ × ℕ)
both_of (Some n) (Some m) = Some (n, m)
both_of (Some n) None = None
both_of None c = None

-- how many numbers two rows have: none is told where a row is not right, and where no colon stands between them
unfoldable pub rows_of : ℕ → ℕ → List (List ℕ) → Option (ℕ × ℕ)
rows_of room room2 fs = cond (has_colon fs) (both_of (count_of 0 room (first_row fs)) (count_of 0 room2 (second_row fs))) None

-- two rows were read into two buffers: their counts are told; the numbers of the first before its first field that is none stand in the first
-- buffer, and, where the first row is right, those of the second so in the second, each as far as there is room
pub record ReadsRows (fs : List (List ℕ)) (words numbers : List ℕ) (r : Option (ℕ × ℕ)) (words_after numbers_after : List ℕ) : Type 0 where
  pub told : r ≡ rows_of (length words) (length numbers) fs
  pub first : words_after ≡ fronted (take (length words) (leading (first_row fs))) words
  pub second : numbers_after ≡ cond (is_first 0 (length words) fs) (fronted (take (length numbers) (leading (second_row fs))) numbers) numbers

-- ---- for private contracts

-- the first row was read into a buffer behind n numbers; where it is right and a colon ends it, its count is told, and where the next one begins
pub record ReadsFirst (line : List ℕ) (n : ℕ) (fs : List (List ℕ)) (before : List ℕ) (r : Option Row) (after : List ℕ) : Type 0 where
  pub right : is_some r ≡ is_first n (length before) fs
  pub count : (row : Row) → r ≡ Some row → count_of n (length before) (first_row fs) ≡ Some row.count
  pub next : (row : Row) → r ≡ Some row → fields_from 32 line row.next ≡ behind_colon fs
  pub left : after ≡ take n before ++ fronted (take (length before - n) (leading (first_row fs))) (drop n before)
