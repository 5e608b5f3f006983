-- Where a byte stands in some bytes.
use Rattle.std.specs.Prelude.{ℕ, suc, Bool, true, false, List, [], ◌∷◌, ◌==◌, take, drop}

-- a place by whether the first byte is the one that is looked for, where its place behind the first one is known
unfoldable pub index_after : Bool → ℕ → ℕ
index_after true behind = 0
index_after false behind = suc behind

-- the place of the first byte of a value, and the length where there is none
unfoldable pub index_of : ℕ → List ℕ → ℕ
index_of byte [] = 0
index_of byte (b ∷ bs) = index_after (b == byte) (index_of byte bs)

-- the bytes from one place up to another
unfoldable pub slice : ℕ → ℕ → List ℕ → List ℕ
slice from to bytes = drop from (take to bytes)
