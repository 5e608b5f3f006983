-- Document 01, "Write": what a write is given, a signal and a scalar or an array; document 02, Req 01: a row of them.
use Rattle.std.specs.Prelude.{ℕ, List, [], ◌∷◌}
use Rattle.cluster.specs.Values.{with_scalar, with_array}

-- what a write puts into a signal: a number, or bytes
pub data Value : Type 0 where
  scalar : ℕ → Value
  array : List ℕ → Value

-- a write: a signal and its value
pub record Put : Type 0 where
  pub signal : ℕ
  pub value : Value

abbrev pub put : ℕ → Value → Put
put s v = record { signal = s; value = v }

-- the frame bytes with a value put into a signal
abbrev pub with_value : List ℕ → List ℕ → ℕ → Value → List ℕ
with_value t bs s (scalar v) = with_scalar t bs s v
with_value t bs s (array vs) = with_array t bs s vs

-- "two lent rows, signal numbers and scalar values": the single writes, in row order
unfoldable pub puts : List ℕ → List ℕ → List Put
puts [] vs = []
puts (s ∷ ss) [] = []
puts (s ∷ ss) (v ∷ vs) = put s (scalar v) ∷ puts ss vs
