-- `cluster::check`: the sections are judged one after another, and the first that refuses is the answer.
use Rattle.std.proofs.Common.{sym, ◌∙◌}
use Rattle.cluster.proofs.CheckTold.{answered, refused}
use Rattle.cluster.proofs.Sections.{judged_sections, after_header, after_frames, after_signals, after_placements, after_members}
use Rattle.cluster.proofs.Sections.{after_entries, header_passed, records_passed}
use Rattle.cluster.proofs.check.Goals as goal

pub returns-in_err-judge : goal.returns-in_err-judge
returns-in_err-judge c = refused _ _ _ c.from_residual.ensures.1 (judged_sections _ ∙ rw (sym c.in_err-judge.ensures))

pub invariant_of-counted : goal.invariant_of-counted
invariant_of-counted c = record { limits = header_passed _ (sym c.in_ok-judge.ensures) }

pub returns-in_err-judge-2 : goal.returns-in_err-judge-2
returns-in_err-judge-2 c =
    refused _ _ _ c.from_residual-in_err-judge-2.ensures.1 (after_header _ (sym c.in_ok-judge.ensures) ∙ rw (sym c.in_err-judge-2.ensures))

pub returns-in_err-judge-3 : goal.returns-in_err-judge-3
returns-in_err-judge-3 c =
    let before = after_frames _ (sym c.in_ok-judge.ensures) (sym c.in_ok-judge-2.ensures) in
    refused _ _ _ c.from_residual-in_err-judge-3.ensures.1 (before ∙ rw (sym c.in_err-judge-3.ensures))

pub invariant_of-described : goal.invariant_of-described
invariant_of-described c = record {
  limits = header_passed _ (sym c.in_ok-judge.ensures);
  before = records_passed _ (sym c.in_ok-judge.ensures) (sym c.in_ok-judge-2.ensures) (sym c.in_ok-judge-3.ensures);
}

pub returns-in_err-judge-4 : goal.returns-in_err-judge-4
returns-in_err-judge-4 c =
    let before = after_signals _ (sym c.in_ok-judge.ensures) (sym c.in_ok-judge-2.ensures) (sym c.in_ok-judge-3.ensures) in
    refused _ _ _ c.from_residual-in_err-judge-4.ensures.1 (before ∙ rw (sym c.in_err-judge-4.ensures))

pub returns-in_err-judge-5 : goal.returns-in_err-judge-5
returns-in_err-judge-5 c =
    let before =
    after_placements _ (sym c.in_ok-judge.ensures) (sym c.in_ok-judge-2.ensures) (sym c.in_ok-judge-3.ensures) (sym c.in_ok-judge-4.ensures) in
    refused _ _ _ c.from_residual-in_err-judge-5.ensures.1 (before ∙ rw (sym c.in_err-judge-5.ensures))

pub returns-in_err-judge-6 : goal.returns-in_err-judge-6
returns-in_err-judge-6 c =
    let before =
    after_placements _ (sym c.in_ok-judge.ensures) (sym c.in_ok-judge-2.ensures) (sym c.in_ok-judge-3.ensures) (sym c.in_ok-judge-4.ensures) in
    refused _ _ _ c.from_residual-in_err-judge-6.ensures.1 (after_members _ before (sym c.in_ok-judge-5.ensures) ∙ rw (sym c.in_err-judge-6.ensures))

pub returns : goal.returns
returns c =
    let before =
    after_placements _ (sym c.in_ok-judge.ensures) (sym c.in_ok-judge-2.ensures) (sym c.in_ok-judge-3.ensures) (sym c.in_ok-judge-4.ensures) in
    let all = after_entries _ (after_members _ before (sym c.in_ok-judge-5.ensures)) (sym c.in_ok-judge-6.ensures) in
    answered _ _ (c.surplus.ensures ∙ sym all)
