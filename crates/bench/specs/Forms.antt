-- The form of a line of a script.
use Rattle.std.specs.Prelude.{ℕ, Option, None, cond, List, length, map, ltb}
use Rattle.std.specs.Option.{option_map}
use Rattle.script.specs.Forms.{first_of}
use Rattle.bench.specs.declared.buffers.TheConstants.{LONGEST_LINE}
use Rattle.bench.specs.declared.forms.Form.{Form}
use Rattle.bench.specs.declared.forms.TheConstants.{FORMS}

-- the first that it has; a line that is too long has none
unfoldable pub form_of : List ℕ → Option Form
form_of line =
    cond (ltb LONGEST_LINE (length line)) None (option_map (λ told. told.0) (first_of (map (λ form. (form.0.now, form.1)) FORMS) line))
