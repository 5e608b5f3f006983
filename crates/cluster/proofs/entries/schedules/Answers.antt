-- One more than the last record's number, where there is one.
use Rattle.std.proofs.Common.{rules}
use Rattle.cluster.proofs.Counting.{counted_by}
use Rattle.cluster.specs.Table.{schedule_count, entry_schedule}
use Rattle.cluster.proofs.entries.schedules.Goals as goal

pub returns-clause-value : goal.returns-clause-value
unfolding schedule_count
returns-clause-value c =
    rw (← c.count.ensures)
    (counted_by (entry_schedule c.args.t.now) c.count.result c.map_or.result c.checked_sub.result _ c.checked_sub.ensures c.map_or.ensures
    (λ k h. search rules))
