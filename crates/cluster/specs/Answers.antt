-- The answer of the table check in the paper's terms, and what every call with a table tells first.
use Rattle.std.specs.Prelude.{ℕ, suc, Bool, cond, ◌&&◌, List, [], ◌∷◌, ltb, eqb, length}
use Rattle.refusal.specs.Answers.{Told, gives, refuses}
use Rattle.refusal.specs.Numbers.{refused_at}
use Rattle.cluster.specs.Table.{size}
use Rattle.cluster.specs.Right.{words_right}
use Rattle.std.specs.Prelude.{Ok, Err}
use Rattle.cluster.specs.Check.{Verdict}

-- the number and the place of each case
abbrev pub verdict_told : Verdict → Told
verdict_told (Ok tt) = gives []
verdict_told (Err r) = refuses r

-- 1 "the table check finds a fault", with its position; and else what the tests behind it tell
abbrev pub behind_table : Verdict → Told → Told
behind_table (Ok tt) x = x
behind_table (Err r) x = refuses r

-- how many of some words, from position i on, are there and right before the first that is not
unfoldable pub right_from : List ℕ → ℕ → List Bool → ℕ
right_from t i [] = 0
right_from t i (right ∷ rest) = cond (ltb i (length t) && right) (suc (right_from t (suc i) rest)) 0

-- how many words of a table are there and right before the first that is not
unfoldable pub right_words : List ℕ → ℕ
right_words t = right_from t 0 (words_right t)

-- "The table check accepts" where all words are there and right and there are no more of them, "or gives the position of the first
-- word that is wrong,
-- missing or surplus": as many as are right before it
unfoldable pub check_told : List ℕ → Told
check_told t = cond (eqb (right_words t) (length (words_right t)) && eqb (length t) (size t)) (gives []) (refuses (refused_at 1 (right_words t)))
