-- Document 01, "Signals": what a signal's bits are, and what each bit of the bytes becomes.
use Rattle.std.specs.Prelude.{ℕ, zero, suc, ◌+◌, ◌-◌, ◌*◌, ◌/◌, ◌%◌, min, Bool, cond, ◌&&◌, List, [], ◌∷◌, leb, ltb, length, get_or}
use Rattle.wire.specs.Bits.{bit, digit}

-- "Data bits are numbered from the least significant bit of byte 0": bit j of the bytes; behind the last byte all are 0
unfoldable pub bit_at : List ℕ → ℕ → Bool
bit_at bs j = bit (get_or bs (j / 8) 0) (j % 8)

-- the number whose bits are f 0, f 1, .. f (w - 1), "lowest first"
unfoldable pub number : ℕ → (ℕ → Bool) → ℕ
number zero f = 0
number (suc w) f = digit (f 0) + 2 * number w (λ k. f (suc k))

-- the n bytes whose bit j is f j
unfoldable pub bytes_of : ℕ → (ℕ → Bool) → List ℕ
bytes_of zero f = []
bytes_of (suc n) f = number 8 f ∷ bytes_of n (λ j. f (8 + j))

-- bit j is one of the w bits from an offset on
unfoldable pub inside : ℕ → ℕ → ℕ → Bool
inside offset w j = leb offset j && ltb j (offset + w)

-- bit j, where w bits f 0, f 1, .. take the place of those from an offset on: f (j - offset) inside, the old one outside
unfoldable pub replaced : (ℕ → Bool) → ℕ → ℕ → (ℕ → Bool) → ℕ → Bool
replaced old offset w f j = cond (inside offset w j) (f (j - offset)) (old j)

-- the bytes after w bits were put at an offset: as many as there were, so nothing is put behind the last one
unfoldable pub put_bits : List ℕ → ℕ → ℕ → (ℕ → Bool) → List ℕ
put_bits bs offset w f = bytes_of (length bs) (replaced (bit_at bs) offset w f)

-- a scalar's width; above 16, which no table has, it counts as 16
abbrev pub scalar_width : ℕ → ℕ
scalar_width width = min width 16

-- "A scalar has 1 to 16 bits, lowest first, at any offset, over any byte borders"
unfoldable pub get_scalar : List ℕ → ℕ → ℕ → ℕ
get_scalar bs offset width = number (scalar_width width) (λ k. bit_at bs (offset + k))

-- a scalar's bits become the low bits of the value
unfoldable pub put_scalar : List ℕ → ℕ → ℕ → ℕ → List ℕ
put_scalar bs offset width v = put_bits bs offset (scalar_width width) (bit v)

-- "A byte array has 1 to 8 whole bytes, lowest numbered first"
unfoldable pub get_array : List ℕ → ℕ → ℕ → List ℕ
get_array bs offset n = bytes_of n (λ k. bit_at bs (offset + k))

-- an array's bits become those of the values
unfoldable pub put_array : List ℕ → ℕ → List ℕ → List ℕ
put_array bs offset vs = put_bits bs offset (8 * length vs) (bit_at vs)
