-- The list that ends a line.
use Rattle.std.specs.Prelude.{ℕ, ◌+◌, ◌-◌, ◌≡◌, Bool, true, false, cond, ◌&&◌, Option, Some, None, List, [], ◌∷◌, ◌++◌, map, leb, length, take, drop}
use Rattle.buslog.specs.Report.{fronted}
use Rattle.script.specs.Fields.{fields_from}

-- the fields of a list that begins at a place, by how a field is read: as a number of 16 bits, a byte, or a number of 32 bits
abbrev pub list_at : {T : Type 0} → (List ℕ → Option T) → List ℕ → ℕ → List (Option T)
list_at reads line at = map reads (fields_from 32 line at)

-- every field is read
unfoldable pub are_read : {T : Type 0} → List (Option T) → Bool
are_read [] = true
are_read (None ∷ fs) = false
are_read (Some v ∷ fs) = are_read fs

-- what was read before the first field that is not
unfoldable pub leading : {T : Type 0} → List (Option T) → List T
leading [] = []
leading (None ∷ fs) = []
leading (Some v ∷ fs) = v ∷ leading fs

-- how many fields there are, where n stand before these: none is told where a field is not read, and where there is no room for all
unfoldable pub count_of : {T : Type 0} → ℕ → ℕ → List (Option T) → Option ℕ
count_of n room fs = cond (are_read fs && leb (n + length fs) room) (Some (n + length fs)) None

-- some fields were read into a buffer behind n others: their count is told, and those before the first field that is not read stand there,
-- as far as there is room
pub record Listed {T : Type 0} (n : ℕ) (fs : List (Option T)) (before : List T) (r : Option ℕ) (after : List T) : Type 0 where
  pub told : r ≡ count_of n (length before) fs
  pub left : after ≡ take n before ++ fronted (take (length before - n) (leading fs)) (drop n before)
