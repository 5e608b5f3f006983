-- A length from 1 up to the longest has a number of frames, and any other is refused.
use mathlib.Core.Logic.{inl, inr}
use Rattle.transport.proofs.AnswerLaws.{count_told_lem}
use Rattle.transport.proofs.Counting.{counted, not_counted}
use Rattle.transport.proofs.cutting.count.Goals as goal
use Rattle.transport.proofs.cutting.count.Goals.{else-length-ge1-via-then-length-ge1+else-length, else-length-ge1-via-else-length-ge1}

pub returns-then-length-clause-value : goal.returns-then-length-clause-value
returns-then-length-clause-value c = counted _ _ c.if-length-ge1.true c.if-length.true c.frames.ensures

pub returns-then-length-clause-told : goal.returns-then-length-clause-told
returns-then-length-clause-told c = (count_told_lem _ _ (returns-then-length-clause-value c)).1

pub returns-else-length-ge1-clause-value : goal.returns-else-length-ge1-clause-value
returns-else-length-ge1-clause-value c =
    not_counted _ _ c.of.ensures
    (elim c.else-length-ge1.branch [
      | else-length-ge1-via-then-length-ge1+else-length w ↦ inr w.if-length.false
      | else-length-ge1-via-else-length-ge1 w ↦ inl w.if-length-ge1.false
    ])

pub returns-else-length-ge1-clause-told : goal.returns-else-length-ge1-clause-told
returns-else-length-ge1-clause-told c = (count_told_lem _ _ (returns-else-length-ge1-clause-value c)).1
