-- Of a line that is not too long the first of the forms that it has is told.
use Rattle.std.proofs.Common.{◌≡◌, ◌≤◌, ℕ, List, Option, length, map, ap, sym, ◌∙◌}
use Rattle.std.specs.Option.{option_map}
use borrow.Author.Tests.{lt-ltb, le-ltb}
use Rattle.script.specs.Forms.{first_of}
use Rattle.script.specs.declared.forms.Line.{Line}
use Rattle.bench.specs.Forms.{form_of}
use Rattle.bench.specs.declared.buffers.TheConstants.{LONGEST_LINE}
use Rattle.bench.specs.declared.forms.Form.{Form}
use Rattle.bench.specs.declared.forms.TheConstants.{FORMS}
use Rattle.bench.proofs.forms.take.Goals as goal

named : (line : List ℕ) (told : Option (Form × Line)) → length line ≤ LONGEST_LINE → told ≡ first_of (map (λ form. (form.0.now, form.1)) FORMS) line → option_map (λ t. t.0) told ≡ form_of line
unfolding form_of
named line told short is = rw (le-ltb _ _ short, is)

pub returns-then-line-gt-LONGEST_LINE : goal.returns-then-line-gt-LONGEST_LINE
unfolding form_of
returns-then-line-gt-LONGEST_LINE c = rw (lt-ltb _ _ c.if-line-gt-LONGEST_LINE.true)

pub returns-in_err-form : goal.returns-in_err-form
returns-in_err-form c = c.from_residual.ensures ∙ ap (option_map (λ t. t.0)) (sym c.in_err-form.was) ∙ named _ _ c.if-line-gt-LONGEST_LINE.false c.first.ensures

pub returns : goal.returns
returns c = ap (option_map (λ t. t.0)) (sym c.in_ok-form.was) ∙ named _ _ c.if-line-gt-LONGEST_LINE.false c.first.ensures
