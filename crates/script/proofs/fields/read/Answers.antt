-- Each way out is one case of the definition.
use Rattle.std.proofs.Common.{◌∙◌, ap}
use Rattle.std.specs.Option.{option_map}
use Rattle.script.specs.declared.fields.Field.TheVariants.{Number}
use Rattle.script.proofs.Reading.{is_word, no_word, no_form, by_pair, by_word, no_limit, by_limit}
use Rattle.script.proofs.fields.read.Goals as goal

pub returns-in_err-first : goal.returns-in_err-first
returns-in_err-first c = c.from_residual.ensures ∙ no_form c.args.form.now c.args.field.now c.in_err-first.ensures.item.3

pub returns-in_err-byte : goal.returns-in_err-byte
returns-in_err-byte c =
    c.from_residual-in_err-byte.ensures
    ∙ ap (option_map Number) c.in_err-byte.ensures
    ∙ by_pair c.args.form.now c.args.field.now c.in_ok-first.ensures.item.3 c.if-first-eq72.true

pub returns-then-first-eq72 : goal.returns-then-first-eq72
returns-then-first-eq72 c =
    ap (option_map Number) c.in_ok-byte.ensures ∙ by_pair c.args.form.now c.args.field.now c.in_ok-first.ensures.item.3 c.if-first-eq72.true

pub returns-in_err-limit : goal.returns-in_err-limit
returns-in_err-limit c =
    c.from_residual-in_err-limit.ensures
    ∙ no_limit c.args.form.now c.args.field.now c.in_ok-first.ensures.item.3 c.if-first-eq72.false c.if-is_ascii_digit.ensures.cases c.in_err-limit.ensures

pub returns-in_err-decimal : goal.returns-in_err-decimal
returns-in_err-decimal c =
    c.from_residual-in_err-decimal.ensures
    ∙ ap (option_map Number) c.in_err-decimal.ensures
    ∙ by_limit c.args.form.now c.args.field.now c.in_ok-first.ensures.item.3 c.if-first-eq72.false c.if-is_ascii_digit.ensures.cases c.in_ok-limit.ensures

pub returns-then-is_ascii_digit : goal.returns-then-is_ascii_digit
returns-then-is_ascii_digit c =
    ap (option_map Number) c.in_ok-decimal.ensures
    ∙ by_limit c.args.form.now c.args.field.now c.in_ok-first.ensures.item.3 c.if-first-eq72.false c.if-is_ascii_digit.ensures.cases c.in_ok-limit.ensures

pub returns-then-eq : goal.returns-then-eq
returns-then-eq c =
    is_word c.args.form.now c.args.field.now c.if-eq.ensures
    ∙ by_word c.args.form.now c.args.field.now c.in_ok-first.ensures.item.3 c.if-first-eq72.false c.if-is_ascii_digit.ensures.cases

pub returns-else-eq : goal.returns-else-eq
returns-else-eq c =
    no_word c.args.form.now c.args.field.now c.if-eq.ensures
    ∙ by_word c.args.form.now c.args.field.now c.in_ok-first.ensures.item.3 c.if-first-eq72.false c.if-is_ascii_digit.ensures.cases
