-- Each turn reads one digit more.
use Rattle.std.proofs.Common.{◌∙◌, ⊎_elim, sym, arith}
use Rattle.std.proofs.lemmas.Bool.{eqb-true, eqb-false}
use Rattle.script.proofs.Reading.{no_decimal, some_decimal, no_digit, too_large, next_digit, all_digits}
use Rattle.script.proofs.fields.decimal.Goals as goal

pub returns-then-is_empty : goal.returns-then-is_empty
returns-then-is_empty c = no_decimal _ _ (eqb-true _ _ (sym c.if-is_empty.ensures))

pub loop-c-init : goal.loop-c-init
loop-c-init c = record { small = omega arith; same = some_decimal _ _ (eqb-false _ _ (sym c.if-is_empty.ensures)) }

pub returns-then-not-is_ascii_digit : goal.returns-then-not-is_ascii_digit
returns-then-not-is_ascii_digit c =
    sym (c.loop-c.invariant.same ∙ no_digit c.args.limit c.args.field.now c.loop-c.value c.loop-c.c-index c.loop-c-test.true (λ l h. ⊎_elim (λ b. omega arith) (λ b. omega arith) c.if-not-is_ascii_digit.ensures.cases))

pub returns-then-limit-value : goal.returns-then-limit-value
returns-then-limit-value c =
    let d = c.if-not-is_ascii_digit.ensures.cases in
    sym (c.loop-c.invariant.same ∙ too_large c.args.limit c.args.field.now c.loop-c.value c.loop-c.c-index c.loop-c-test.true d.0 d.1 c.if-limit-value.true)

pub loop-c-preserved : goal.loop-c-preserved
loop-c-preserved c =
    let d = c.if-not-is_ascii_digit.ensures.cases in
    record {
      small = omega arith;
      same = c.loop-c.invariant.same ∙ next_digit c.args.limit c.args.field.now c.loop-c.value c.loop-c.c-index c.loop-c-test.true d.0 d.1 c.if-limit-value.false;
    }

pub returns : goal.returns
returns c = sym (c.loop-c.invariant.same ∙ all_digits c.args.limit c.args.field.now c.loop-c.value c.loop-c.c-index (omega arith))
