-- Document 01, "The cluster table": "A fresh call fills it: 255 everywhere, then the start values. It gives a state".
use Rattle.std.specs.Prelude.{ℕ, List, eqb, length}
use Rattle.refusal.specs.Numbers.{buffer}
use Rattle.cluster.specs.Check.{taken_of, then}
use Rattle.cluster.specs.Fresh.{fresh_bytes}
use Rattle.refusal.specs.declared.Refusal.{Refusal}
use Rattle.master.specs.declared.state.State.{State}
use Rattle.master.specs.Answers.{Started, handed}
use Rattle.master.specs.Fresh.{fresh}
use Rattle.master.specs.Admit.{unless, answered, buffer_size, Step}
use Rattle.std.specs.Prelude.{Result, Ok}
use Rattle.cluster.specs.Check.{Verdict}
use Rattle.std.specs.Prelude.{Err}

-- refusals of fresh: 1, 2
unfoldable pub fresh_verdict : List ℕ → ℕ → Verdict
fresh_verdict t size = then (taken_of t) (unless (eqb size (buffer_size t)) buffer (Ok tt))

-- what fresh hands back and leaves; the state beside a refusal is the fresh one too, and says nothing
unfoldable pub fresh_of : List ℕ → List ℕ → Step Started
fresh_of t bs =
    answered (fresh_verdict t (length bs))
    (λ r. record { given = record { state = fresh; answer = Err r }; left = bs })
    (record { given = record { state = fresh; answer = Ok tt }; left = fresh_bytes t })

-- the fresh state where fresh is accepted; a refusal hands no state back, and the definition's is the fresh one, which says nothing
abbrev pub started : Result State Refusal → Started
started (Ok s) = handed s (Ok tt)
started (Err r) = handed fresh (Err r)
