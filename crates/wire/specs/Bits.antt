-- Bits of a number, counted from the least significant, and bytes.
use Rattle.std.specs.Prelude.{ℕ, ◌/◌, ◌%◌, ◌^◌, ◌<◌, Bool, true, false, List, eqb, get_or}

-- bit k of a number
unfoldable pub bit : ℕ → ℕ → Bool
bit n k = eqb (n / 2 ^ k % 2) 1

-- a bit as a number
abbrev pub digit : Bool → ℕ
digit false = 0
digit true = 1

-- each number of the list is a byte
abbrev pub Bytes : List ℕ → Type 0
Bytes bs = (i : ℕ) → get_or bs i 0 < 256
