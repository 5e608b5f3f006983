-- The form that a line has.
use denote.Ref.{Bor}
use Rattle.std.specs.Prelude.{ℕ, ◌+◌, Bool, false, cond, Option, Some, None, List, [], ◌∷◌, leb, eqb, length, get_or, set, replicate, map}
use Rattle.std.specs.Option.{option_and_then}
use Rattle.script.specs.declared.fields.Field.{Field}
use Rattle.script.specs.declared.fields.Field.TheVariants.{Word, Number}
use Rattle.script.specs.declared.forms.Line.{Line}
use Rattle.script.specs.declared.forms.Reading.{Reading}
use Rattle.script.specs.declared.forms.Numbers.{Numbers}
use Rattle.script.specs.Fields.{fields_of, field_of}

-- no numbers
abbrev pub no_numbers : Numbers
no_numbers = record { values = replicate 12 0; count = 0 }

-- the numbers with one more; a thirteenth is left out
unfoldable pub with_number : ℕ → Numbers → Numbers
with_number v ns = cond (leb 12 ns.count) ns (record { values = set ns.values ns.count v; count = ns.count + 1 })

-- the numbers with that of one field more
abbrev pub with_field : Field → Numbers → Numbers
with_field Word ns = ns
with_field (Number v) ns = with_number v ns

-- `..` stands for a list
unfoldable pub is_list : List ℕ → Bool
is_list form = cond (eqb (length form) 0) false (eqb (get_or form 0 0) 46)

-- the line has another form
abbrev pub unfit : Option Reading
unfit = None

-- the line has the form, and its list begins at a place
abbrev pub fitting : ℕ → Numbers → Option Reading
fitting place ns = Some (record { list = place; numbers = ns.values })

-- the fields of a line from a place on by those of a form: each is as the form says, up to the list or to the end of both
unfoldable pub read_as : List (List ℕ) → List (List ℕ) → ℕ → Numbers → Option Reading
read_as [] [] place ns = fitting place ns
read_as [] (l ∷ ls) place ns = unfit
read_as (f ∷ fs) [] place ns = cond (is_list f) (fitting place ns) unfit
read_as (f ∷ fs) (l ∷ ls) place ns =
    cond (is_list f) (fitting place ns)
    (option_and_then (λ v. read_as fs ls (place + length l + 1) (with_field v ns)) (field_of f l))

-- a line by one form; spaces stand between fields
unfoldable pub read_of : List ℕ → List ℕ → Option Reading
read_of form line = read_as (fields_of 32 form) (fields_of 32 line) 0 no_numbers

-- what was read, with the number of its form; of a line that has none only that number
abbrev pub formed : ℕ → Option Reading → Line
formed k (Some r) = record { form = k; list = r.list; numbers = r.numbers }
formed k None = record { form = k; list = 0; numbers = replicate 12 0 }

-- what was read, or else a line
abbrev pub formed_or : ℕ → Option Reading → Line → Line
formed_or k (Some r) line = formed k (Some r)
formed_or k None line = line

-- a line by the first of some forms that it has, where k forms stand before them
unfoldable pub line_in : List (List ℕ) → List ℕ → ℕ → Line
line_in [] line k = formed k unfit
line_in (f ∷ fs) line k = formed_or k (read_of f line) (line_in fs line (k + 1))

-- a line by the first form that it has; `|` stands between forms
unfoldable pub line_of : List ℕ → List ℕ → Line
line_of forms line = line_in (fields_of 124 forms) line 0

-- forms with their names, where they are lent
abbrev pub named : {F : Type 0} → List (Bor (List ℕ) × F) → List (List ℕ × F)
named fs = map (λ f. (f.0.now, f.1)) fs

-- what was read by a form of a name, or else what the forms behind it give
abbrev pub named_or : {F : Type 0} → F → ℕ → Option Reading → Option (F × Line) → Option (F × Line)
named_or name k (Some r) rest = Some (name, formed k (Some r))
named_or name k None rest = rest

-- a line by the first of some named forms that it has, where k forms stand before them
unfoldable pub first_in : {F : Type 0} → List (List ℕ × F) → List ℕ → ℕ → Option (F × Line)
first_in [] line k = None
first_in (f ∷ fs) line k = named_or f.1 k (read_of f.0 line) (first_in fs line (k + 1))

-- a line by the first of some named forms that it has
unfoldable pub first_of : {F : Type 0} → List (List ℕ × F) → List ℕ → Option (F × Line)
first_of forms line = first_in forms line 0
