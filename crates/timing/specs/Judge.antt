-- Document 02, Req 02: what the judge answers.
use Rattle.std.specs.Prelude.{ℕ, cond, ◌&&◌, List, [], ◌∷◌, ltb}
use Rattle.refusal.specs.Answers.{Told, gives, refuses, test, first_failing}
use Rattle.refusal.specs.Numbers.{refused, time}
use Rattle.cluster.specs.Check as checked
use Rattle.cluster.specs.Answers.{behind_table}
use Rattle.cluster.specs.Check.{taken_of}
use Rattle.cluster.specs.Table.{entry_count}
use Rattle.timing.specs.Slots.{first_short, time_right}
use Rattle.std.specs.Prelude.{Option, Some, None, Result, Ok, Err}
use Rattle.refusal.specs.declared.Refusal.{Refusal}
use Rattle.std.specs.Prelude.{None}

-- what the judge answers: the first short entry, if there is one, or the refusal
abbrev pub Judgement : Type 0
Judgement = Result (Option ℕ) Refusal

-- refusal 1 with the position, or what comes behind it
abbrev pub answered : checked.Verdict → Judgement → Judgement
answered (Ok tt) x = x
answered (Err r) x = Err r

-- an entry that is there is short; where the first short one is behind the last, every slot holds its longest frame
unfoldable pub found_of : List ℕ → ℕ → Judgement
found_of t e = cond (ltb e (entry_count t)) (Ok (Some e)) (Ok None)

-- "accepts exactly when every slot holds its longest frame"; "It also reports the first short entry"; 13 "tested after 1"
unfoldable pub judge_of : List ℕ → ℕ → ℕ → Judgement
judge_of t tick bit =
    answered (taken_of t)
    (cond (time_right tick && time_right bit) (found_of t (first_short t tick bit)) (Err (refused time)))

-- ---- the answer in the paper's terms

-- the number, the place and the values of each case: the number of a short entry
abbrev pub judgement_told : Judgement → Told
judgement_told (Ok None) = gives []
judgement_told (Ok (Some e)) = gives (e ∷ [])
judgement_told (Err r) = refuses r

-- what is told of the first short entry
abbrev pub short_told : List ℕ → ℕ → List ℕ
short_told t e = cond (ltb e (entry_count t)) (e ∷ []) []

-- 1, then 13, then the first short entry where there is one
unfoldable pub judge_told : List ℕ → ℕ → ℕ → Told
judge_told t tick bit =
    behind_table (taken_of t) (first_failing (test 13 (time_right tick && time_right bit) ∷ []) (short_told t (first_short t tick bit)))
