-- Document 01, "Select".
use Rattle.std.specs.Prelude.{ℕ, List, ltb}
use Rattle.refusal.specs.Numbers.{unknown}
use Rattle.cluster.specs.Table.{schedule_count}
use Rattle.cluster.specs.Check.{then}
use Rattle.master.specs.declared.state.State.{State}
use Rattle.master.specs.Answers.{Chosen}
use Rattle.master.specs.Admit.{unless, admitted, answered, buffer_size}
use Rattle.master.specs.State.{with_plan}
use Rattle.master.specs.Plan.{asking}
use Rattle.std.specs.Prelude.{Ok}
use Rattle.cluster.specs.Check.{Verdict}
use Rattle.std.specs.Prelude.{Err}

-- refusals of select: 1, 3, 4 "no such .. schedule"
unfoldable pub select_verdict : List ℕ → State → ℕ → Verdict
select_verdict t s n =
    then (admitted t (buffer_size t) s)
    (unless (ltb n (schedule_count t)) unknown (Ok tt))

-- what select hands back
unfoldable pub select_of : List ℕ → State → ℕ → Chosen
select_of t s n =
    answered (select_verdict t s n)
    (λ r. record { state = s; answer = Err r })
    (record { state = with_plan s (asking s.plan n); answer = Ok tt })
