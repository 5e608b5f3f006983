-- Document 01, "The log program": "Each output line has line number (decimal, from 1), identifier as an upper-case hexadecimal pair, and the first
-- verdict that applies"; "Text and parity show `--`."
use Rattle.std.specs.Prelude.{ℕ, zero, suc, ◌+◌, ◌/◌, ◌%◌, ◌^◌, cond, List, [], ◌∷◌, ◌++◌, ◌==◌}
use Rattle.buslog.specs.declared.judge.Verdict.{Verdict}
use Rattle.buslog.specs.declared.judge.Verdict.TheVariants.{Text, Parity, Unknown, Length, Checksum, Ok}
use Rattle.buslog.specs.Pairs.{pair_of}

-- the last k decimal digits of a number, with no 0 in front, and so none of 0
unfoldable pub digits_of : ℕ → ℕ → List ℕ
digits_of zero n = []
digits_of (suc k) n = cond (n == 0) [] (digits_of k (n / 10) ++ ((48 + n % 10) ∷ []))

-- a line number in decimal: its last digit and those before it; it has 64 bits, which twenty digits hold
unfoldable pub decimal_of : ℕ → List ℕ
decimal_of n = digits_of 19 (n % 2 ^ 64 / 10) ++ ((48 + n % 2 ^ 64 % 10) ∷ [])

-- "identifier as an upper-case hexadecimal pair"; "Text and parity show `--`."
unfoldable pub shown_identifier : Verdict → List ℕ
shown_identifier Text = 45 ∷ 45 ∷ []
shown_identifier Parity = 45 ∷ 45 ∷ []
shown_identifier (Unknown id) = pair_of id
shown_identifier (Length id) = pair_of id
shown_identifier (Checksum id) = pair_of id
shown_identifier (Ok id) = pair_of id

-- "text, parity, unknown, length, checksum, ok"
unfoldable pub word : Verdict → List ℕ
word Text = 116 ∷ 101 ∷ 120 ∷ 116 ∷ []
word Parity = 112 ∷ 97 ∷ 114 ∷ 105 ∷ 116 ∷ 121 ∷ []
word (Unknown id) = 117 ∷ 110 ∷ 107 ∷ 110 ∷ 111 ∷ 119 ∷ 110 ∷ []
word (Length id) = 108 ∷ 101 ∷ 110 ∷ 103 ∷ 116 ∷ 104 ∷ []
word (Checksum id) = 99 ∷ 104 ∷ 101 ∷ 99 ∷ 107 ∷ 115 ∷ 117 ∷ 109 ∷ []
word (Ok id) = 111 ∷ 107 ∷ []

-- one row of the report: the number of the line, the identifier and the verdict with a space between, and a newline
unfoldable pub row_of : ℕ → Verdict → List ℕ
row_of n v = decimal_of n ++ (32 ∷ shown_identifier v ++ (32 ∷ word v ++ (10 ∷ [])))

-- the longest row: twenty digits, a pair, `checksum`, two spaces and the newline
abbrev pub longest_row : ℕ
longest_row = 33

-- "line id verdict", and a newline
unfoldable pub header : List ℕ
header = 108 ∷ 105 ∷ 110 ∷ 101 ∷ 32 ∷ 105 ∷ 100 ∷ 32 ∷ 118 ∷ 101 ∷ 114 ∷ 100 ∷ 105 ∷ 99 ∷ 116 ∷ 10 ∷ []
