-- What is counted of the message's length says whether there is a frame k.
use mathlib.Core.Path.{◌≡◌, sym, ◌∙◌}
use Rattle.std.specs.Prelude.{Err}
use borrow.Author.Rules.{rules}
use Rattle.transport.proofs.AnswerLaws.{cut_told_lem}
use Rattle.transport.proofs.Counting.{counted_high, cut_refused_lem, cut_frame, cut_missing}
use Rattle.transport.proofs.cutting.frame.Goals as goal

pub frame_bytes-requires : goal.frame_bytes-requires
frame_bytes-requires c = counted_high _ _ (sym c.count.ensures.value ∙ c.in_ok-count.was)

pub returns-in_err-count-clause-value : goal.returns-in_err-count-clause-value
returns-in_err-count-clause-value c =
    let e : c.from_residual.result ≡ Err c.in_err-count.field-0.0 = search rules in
    e ∙ sym (cut_refused_lem _ _ _ _ (sym c.count.ensures.value ∙ c.in_err-count.was))

pub returns-in_err-count-clause-told : goal.returns-in_err-count-clause-told
returns-in_err-count-clause-told c = (cut_told_lem _ _ _ _ (returns-in_err-count-clause-value c)).1

pub returns-then-branch-clause-value : goal.returns-then-branch-clause-value
returns-then-branch-clause-value c =
    rw c.frame_bytes.ensures (sym (cut_frame _ _ _ _ (sym c.count.ensures.value ∙ c.in_ok-count.was) c.if-branch.true))

pub returns-then-branch-clause-told : goal.returns-then-branch-clause-told
returns-then-branch-clause-told c = (cut_told_lem _ _ _ _ (returns-then-branch-clause-value c)).1

pub returns-else-branch-clause-value : goal.returns-else-branch-clause-value
returns-else-branch-clause-value c = sym (cut_missing _ _ _ _ (sym c.count.ensures.value ∙ c.in_ok-count.was) c.if-branch.false)

pub returns-else-branch-clause-told : goal.returns-else-branch-clause-told
returns-else-branch-clause-told c = (cut_told_lem _ _ _ _ (returns-else-branch-clause-value c)).1
