-- The forms are tried one after the other.
use Rattle.std.proofs.Common.{◌==◌, ◌∙◌, rules}
use Rattle.std.proofs.lemmas.Iterator.Splits.{YieldsList-from_slice_split}
use Rattle.std.proofs.lemmas.Iterator.Consumers.{YieldsList-at}
use borrow.Author.Tests.{tests}
use Rattle.script.proofs.Forming.{forms_begin, no_form_left, this_form, other_form}
use Rattle.script.proofs.forms.read.Goals as goal

pub loop-form-init : goal.loop-form-init
loop-form-init c =
    let s = c.split-form-items.ensures in
    forms_begin
    (YieldsList-at c.into_iter-form-iterator.ensures.into_iter_gives
    (YieldsList-from_slice_split _ (λ b. b == 124) c.args.forms.now s.rest s.done s.closure (λ x b q k. search (rules, tests))))

pub returns-in-Some-read_as : goal.returns-in-Some-read_as
returns-in-Some-read_as c =
    c.with_form.ensures ∙ this_form c.loop-form.invariant c.next.new.self c.in-Some.form c.in-Some.ensures.steps c.in-Some-read_as.ensures

pub loop-form-preserved : goal.loop-form-preserved
loop-form-preserved c = other_form c.loop-form.invariant c.next.new.self c.in-Some.form c.in-Some.ensures.steps c.in_default.ensures

pub returns : goal.returns
returns c = no_form_left c.loop-form.invariant c.next.new.self c.in-None.ensures.steps
