-- What the steps of the judge gather; only private contracts cite this.
use Rattle.std.specs.Prelude.{ℕ, ◌≡◌, List, get_or}
use Rattle.cluster.specs.Table.{member_count}
use Rattle.timing.specs.Slots.{longest_member}

-- some numbers are the data bytes of the longest member of each list
abbrev pub Longest : List ℕ → List ℕ → Type 0
Longest t ns = (l : ℕ) → get_or ns l 0 ≡ longest_member t l (member_count t)
