-- The table is taken, the times are right, and the first short entry is the answer; what is answered is told in the paper's terms.
use Rattle.std.proofs.Common.{Err, ap, sym, ◌∙◌}
use Rattle.refusal.proofs.PassedOn.{passed_on}
use Rattle.timing.specs.Judge.{found_of}
use Rattle.timing.specs.Slots.{first_short}
use Rattle.timing.proofs.Steps.{table_refused, time_refused, found_told, judge_told_lem}
use Rattle.timing.proofs.judge.Goals as goal

pub returns-in_err-right : goal.returns-in_err-right
returns-in_err-right c =
    let a = c.args in
    let refused = table_refused _ a.tick a.bit _ c.in_err-right.ensures.refused in
    let all = judge_told_lem a.t.now a.tick a.bit _ (passed_on _ _ c.from_residual.ensures.1 ∙ sym refused) in
    record { value = all.0; told = all.1 }

pub returns-then-not-are_right : goal.returns-then-not-are_right
returns-then-not-are_right c =
    let a = c.args in
    let times = sym c.are_right.ensures ∙ c.if-not-are_right.true in
    let refused = time_refused _ a.tick a.bit c.in_ok-right.ensures.right times in
    let all = judge_told_lem a.t.now a.tick a.bit _ (ap Err c.of.ensures ∙ sym refused) in
    record { value = all.0; told = all.1 }

pub returns : goal.returns
returns c =
    let a = c.args in
    let times = sym c.are_right.ensures ∙ c.if-not-are_right.false in
    let found = found_told _ a.tick a.bit c.in_ok-right.ensures.right times in
    let same = ap (λ t. found_of t (first_short t a.tick a.bit)) c.in_ok-right.ensures.words in
    let all = judge_told_lem a.t.now a.tick a.bit _ (c.first_short.ensures ∙ same ∙ sym found) in
    record { value = all.0; told = all.1 }
