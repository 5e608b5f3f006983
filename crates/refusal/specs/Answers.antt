-- Document 01: "If an answer is an enum, a definition tells you this paper's number and values for each of its cases." What every such definition
-- tells, and how the tests of a call come to it.
use Rattle.std.specs.Prelude.{ℕ, Bool, cond, List, [], ◌∷◌, eqb, get_or}
use Rattle.refusal.specs.Numbers.{refused}
use Rattle.refusal.specs.declared.Refusal.{Refusal}

-- an answer in the paper's terms: the refusal number, 0 where nothing is refused, its place, and the values
pub record Told : Type 0 where
  pub number : ℕ
  pub place : ℕ
  pub values : List ℕ

-- a case that refuses nothing
abbrev pub gives : List ℕ → Told
gives vs = record { number = 0; place = 0; values = vs }

-- "return only the number (1 also the position)"
abbrev pub refuses : Refusal → Told
refuses r = record { number = r.number; place = r.place; values = [] }

-- the value that is told, and 0 where none is
abbrev pub value_told : Told → ℕ
value_told x = get_or x.values 0 0

-- a test of the paper's table, and the number that is given where it fails
pub record Test : Type 0 where
  pub number : ℕ
  pub holds : Bool

abbrev pub test : ℕ → Bool → Test
test n b = record { number = n; holds = b }

-- "the lowest number is given": that of the first test that fails; where all hold, the values
unfoldable pub first_failing : List Test → List ℕ → Told
first_failing [] vs = gives vs
first_failing (x ∷ xs) vs = cond x.holds (first_failing xs vs) (refuses (refused x.number))

-- what comes behind some tests is told where they refuse nothing
unfoldable pub behind : Told → Told → Told
behind x y = cond (eqb x.number 0) y x

-- with its place, where something is refused
unfoldable pub told_at : ℕ → Told → Told
told_at i x = cond (eqb x.number 0) x (record { number = x.number; place = i; values = [] })
