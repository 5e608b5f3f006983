-- What a reading tells.
use Rattle.std.specs.Prelude.{◌≡◌, ℕ, ◌≤◌, List, length, take, Option, None, Some}

-- the first n of some elements are all there
abbrev pub IsPrefixLen : {A : Type 0} → ℕ → List A → Type 0
IsPrefixLen n xs = (n ≤ length xs) × (n ≡ length (take n xs))

-- what a reading of at most n bytes may answer: no number where it failed, or how many bytes came, at most n
abbrev pub Moved : ℕ → Option ℕ → Type 0
Moved n None = Unit {0}
Moved n (Some k) = k ≤ n
