-- The form is read field by field, up to the list or to the end of both.
use Rattle.std.proofs.Common.{◌==◌, ◌∙◌, arith, rules}
use Rattle.std.proofs.lemmas.Iterator.Splits.{YieldsList-from_slice_split}
use Rattle.std.proofs.lemmas.Iterator.Consumers.{YieldsList-at}
use borrow.Author.Tests.{tests}
use Rattle.script.proofs.Forming.{begins, line_left, both_end, list_next, line_ends, wrong_next, next_within, right_next}
use Rattle.script.proofs.forms.read_as.Goals as goal

pub loop-part-init : goal.loop-part-init
loop-part-init c =
    let p = c.split-part-items.ensures in
    let f = c.split-fields.ensures in
    rw c.none-numbers.ensures
    (begins
    (YieldsList-at c.into_iter-part-iterator.ensures.into_iter_gives
    (YieldsList-from_slice_split _ (λ b. b == 32) c.args.form.now p.rest p.done p.closure (λ x b q k. search (rules, tests))))
    (YieldsList-from_slice_split _ (λ b. b == 32) c.args.line.now f.rest f.done f.closure (λ x b q k. search (rules, tests))))

pub returns-then-is_list : goal.returns-then-is_list
returns-then-is_list c = c.fitting.ensures ∙ list_next c.loop-part.invariant c.next.new.self c.in-Some.part c.in-Some.ensures.steps c.if-is_list.ensures

pub returns-in_err-field : goal.returns-in_err-field
returns-in_err-field c =
    c.from_residual.ensures ∙ line_ends c.loop-part.invariant c.next.new.self c.in-Some.part c.in-Some.ensures.steps c.if-is_list.ensures c.next-in-loop-part.new.self c.in_err-field.ensures.steps

pub returns-in_err-read : goal.returns-in_err-read
returns-in_err-read c =
    c.from_residual-in_err-read.ensures
    ∙ wrong_next c.loop-part.invariant c.next.new.self c.in-Some.part c.in-Some.ensures.steps c.if-is_list.ensures c.next-in-loop-part.new.self c.in_ok-field.field c.in_ok-field.ensures.steps c.in_err-read.ensures

pub overflow_add-place-in-loop-part : goal.overflow_add-place-in-loop-part
overflow_add-place-in-loop-part c =
    omega (arith, next_within c.loop-part.invariant c.next.new.self c.in-Some.part c.in-Some.ensures.steps c.if-is_list.ensures c.next-in-loop-part.new.self c.in_ok-field.field c.in_ok-field.ensures.steps)

pub loop-part-preserved : goal.loop-part-preserved
loop-part-preserved c =
    rw c.with-numbers.ensures
    (right_next c.loop-part.invariant c.next.new.self c.in-Some.part c.in-Some.ensures.steps c.if-is_list.ensures c.next-in-loop-part.new.self c.in_ok-field.field c.in_ok-field.ensures.steps c.in_ok-read.ensures)

pub returns-then-is_some : goal.returns-then-is_some
returns-then-is_some c = line_left c.loop-part.invariant c.next.new.self c.in-None.ensures.steps c.next-2.result c.next-2.new.self c.next-2.ensures.steps c.if-is_some.ensures

pub returns : goal.returns
returns c = c.fitting-2.ensures ∙ both_end c.loop-part.invariant c.next.new.self c.in-None.ensures.steps c.next-2.result c.next-2.new.self c.next-2.ensures.steps c.if-is_some.ensures
