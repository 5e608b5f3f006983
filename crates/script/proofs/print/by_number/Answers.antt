-- The pattern is one of the parts between separators, if there are so many.
use Rattle.std.proofs.Common.{◌==◌, rules}
use Rattle.std.proofs.lemmas.Iterator.Splits.{YieldsList-from_slice_split}
use Rattle.std.proofs.lemmas.Iterator.Consumers.{nth_from_yields_List}
use borrow.Author.Tests.{tests}
use Rattle.script.proofs.Putting.{puts_nothing}
use Rattle.script.proofs.Patterns.{a_pattern, no_pattern, no_text}
use Rattle.script.proofs.print.by_number.Goals as goal

pub returns-in_default : goal.returns-in_default
returns-in_default c =
    let s = c.split.ensures in
    let e = nth_from_yields_List c.nth.result _ c.args.k c.nth.ensures.ran
    (YieldsList-from_slice_split _ (λ b. b == 124) c.args.patterns.now s.rest s.done s.closure (λ x b q k. search (rules, tests))) in
    rw (no_pattern c.args.patterns.now c.args.k (rw c.in_default.is at e), no_text) (puts_nothing _ _)

pub returns : goal.returns
returns c =
    let s = c.split.ensures in
    let e = nth_from_yields_List c.nth.result _ c.args.k c.nth.ensures.ran
    (YieldsList-from_slice_split _ (λ b. b == 124) c.args.patterns.now s.rest s.done s.closure (λ x b q k. search (rules, tests))) in
    rw (a_pattern c.args.patterns.now c.args.k (rw c.in-Some.is at e)) c.by_pattern.ensures
