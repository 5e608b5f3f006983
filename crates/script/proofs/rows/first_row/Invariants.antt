-- Reading on from here completes the row.
use Rattle.script.proofs.TwoRows.{LeftRow}
use Rattle.script.proofs.rows.first_row.Given as goal

abbrev pub invariant-loop-count : goal.invariant-loop-count
invariant-loop-count l =
    LeftRow goal.iterator-loop-count.next_gives (λ x. x.1.now) l.line l.fn.at l.initial.words l.count-iterator l.count-iterator.count l.next l.words
