-- Document 01, "Pending": "the number of pending members ahead of a given frame number in its list".
use Rattle.std.specs.Prelude.{ℕ, suc, Bool, false, cond, List, [], ◌∷◌, ltb, get_or}
use Rattle.refusal.specs.Numbers.{unknown}
use Rattle.cluster.specs.Check.{then}
use Rattle.cluster.specs.Table.{member_count}
use Rattle.cluster.specs.Lists.{member_of, frames_ahead}
use Rattle.master.specs.declared.state.State.{State}
use Rattle.master.specs.Admit.{unless, admitted, answered, buffer_size}
use Rattle.std.specs.Prelude.{Ok}
use Rattle.cluster.specs.Check.{Verdict}
use Rattle.std.specs.Prelude.{Err}
use Rattle.master.specs.Calls.{AheadAnswer}

-- how many of some frames are pending
unfoldable pub pending_count : List Bool → List ℕ → ℕ
pending_count bits [] = 0
pending_count bits (f ∷ fs) = cond (get_or bits f false) (suc (pending_count bits fs)) (pending_count bits fs)

-- refusals of number ahead: 1, 3, 4 "no such .. frame in a list"
unfoldable pub ahead_verdict : List ℕ → State → ℕ → Verdict
ahead_verdict t s f =
    then (admitted t (buffer_size t) s)
    (unless (ltb (member_of t f) (member_count t)) unknown (Ok tt))

-- what number ahead answers
unfoldable pub ahead_of : List ℕ → State → ℕ → AheadAnswer
ahead_of t s f =
    answered (ahead_verdict t s f) (λ r. Err r) (Ok (pending_count s.pending (frames_ahead t f)))
