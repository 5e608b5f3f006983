-- Document 01, "Read gives any signal."; document 02, Req 03, which placement it gives.
use Rattle.std.specs.Prelude.{ℕ, Bool, true, false, List, ltb, length}
use Rattle.std.specs.Bool.{beq}
use Rattle.refusal.specs.Numbers as number
use Rattle.cluster.specs.Check.{then}
use Rattle.cluster.specs.Table.{signal_count, is_array}
use Rattle.master.specs.declared.state.State.{State}
use Rattle.master.specs.Calls.{ArrayAnswer}
use Rattle.master.specs.Admit.{unless, admitted, answered}
use Rattle.master.specs.Received.{source_of, scalar_from, array_from}
use Rattle.std.specs.Prelude.{Ok}
use Rattle.cluster.specs.Check.{Verdict}
use Rattle.std.specs.Prelude.{Err}
use Rattle.master.specs.Calls.{ReadAnswer}

-- refusals of a read: 1, 2, 3, 4 "no such signal", 6 "scalar call on an array or the reverse"
unfoldable pub read_verdict : List ℕ → ℕ → State → ℕ → Bool → Verdict
read_verdict t size x s array =
    then (admitted t size x)
    (unless (ltb s (signal_count t)) number.unknown
    (unless (beq (is_array t s) array) number.kind
    (Ok tt)))

-- what a read of a scalar answers
unfoldable pub read_scalar_of : List ℕ → State → List ℕ → ℕ → ReadAnswer
read_scalar_of t x bs s = answered (read_verdict t (length bs) x s false) (λ r. Err r) (Ok (scalar_from t bs s (source_of t x.received s)))

-- what a read of an array answers: how many bytes, and eight of which the unused ones are 255
unfoldable pub read_array_of : List ℕ → State → List ℕ → ℕ → ArrayAnswer
read_array_of t x bs s =
    answered (read_verdict t (length bs) x s true)
    (λ r. Err r)
    (Ok (array_from t bs s (source_of t x.received s)))
