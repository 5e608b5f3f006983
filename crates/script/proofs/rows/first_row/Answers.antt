-- Each turn reads one field more, up to the colon.
use Rattle.std.proofs.Common.{◌==◌, ◌∙◌, arith, drop, rules}
use Rattle.std.proofs.lemmas.List.{take_rest}
use Rattle.std.proofs.lemmas.Iterator.Splits.{YieldsList-from_slice_split}
use Rattle.std.proofs.lemmas.Iterator.Consumers.{YieldsList-at}
use borrow.Author.Tests.{tests}
use Rattle.script.proofs.Splitting.{from_behind, counted_parts}
use Rattle.script.proofs.TwoRows.{first_over, row_begins, row_over, next_within, row_colon, row_full, row_wrong, row_counted}
use Rattle.script.proofs.rows.first_row.Goals as goal

pub returns-then-line-at : goal.returns-then-line-at
returns-then-line-at c = rw (from_behind 32 c.args.line.now c.args.at c.if-line-at.true) (first_over _ _ _)

pub loop-count-init : goal.loop-count-init
loop-count-init c =
    let s = c.split.ensures in
    let e = c.enumerate-count-items.ensures in
    rw (c.into_iter-count-iterator.ensures.into_iter_gives, e.count)
    (row_begins c.if-line-at.false
    (counted_parts _ _
    (YieldsList-at e.source
    (YieldsList-from_slice_split _ (λ b. b == 32) (drop c.args.at c.args.line.now) (s.rest ∙ take_rest c.args.line.now c.args.at) s.done s.closure
    (λ x b q k. search (rules, tests))))))

pub overflow_add-next-in-loop-count : goal.overflow_add-next-in-loop-count
overflow_add-next-in-loop-count c = omega (arith, next_within c.loop-count.invariant c.next.new.self (c.in-Some.count, c.in-Some.field) c.in-Some.ensures.steps)

pub returns-then-is_colon : goal.returns-then-is_colon
returns-then-is_colon c =
    rw c.in-Some.ensures.steps.1
    (row_colon c.loop-count.invariant c.next.new.self (c.in-Some.count, c.in-Some.field) c.in-Some.ensures.steps c.if-is_colon.ensures)

pub returns-then-words-count : goal.returns-then-words-count
returns-then-words-count c =
    let s = c.in-Some.ensures.steps in
    row_full c.loop-count.invariant c.next.new.self (c.in-Some.count, c.in-Some.field) s c.if-is_colon.ensures (rw s.1 at c.if-words-count.true)

pub returns-in_err-words : goal.returns-in_err-words
returns-in_err-words c =
    rw c.from_residual.ensures
    (row_wrong c.loop-count.invariant c.next.new.self (c.in-Some.count, c.in-Some.field) c.in-Some.ensures.steps c.if-is_colon.ensures c.in_err-words.ensures)

pub loop-count-preserved : goal.loop-count-preserved
loop-count-preserved c =
    let s = c.in-Some.ensures.steps in
    row_counted c.loop-count.invariant c.next.new.self (c.in-Some.count, c.in-Some.field) s c.if-is_colon.ensures s.1 s.2 c.if-words-count.false
    c.in_ok-words.ensures

pub returns : goal.returns
returns c = row_over c.loop-count.invariant c.next.new.self c.in-None.ensures.steps
