-- What reading a line by its forms comes to, field by field.
use Rattle.std.proofs.Common.{◌≡◌, ◌==◌, ℕ, ◌+◌, ◌-◌, ◌<◌, ◌≤◌, true, false, Option, Some, None, List, [], ◌∷◌, Bor, length, drop, get_or, map, refl, sym, ap, ◌∙◌, arith}
use Rattle.std.proofs.lemmas.List.{at_drop_more}
use lib.ListN.{drop_of_length-le}
use Rattle.std.specs.Prelude.{suc}
use Rattle.std.specs.Option.{is_some}
use Rattle.std.specs.List.{slice_split}
use Rattle.std.proofs.lemmas.Iterator.{YieldsList}
use Rattle.script.specs.declared.fields.Field.{Field}
use Rattle.script.specs.declared.forms.Reading.{Reading}
use Rattle.script.specs.declared.forms.Numbers.{Numbers}
use Rattle.script.specs.declared.forms.Line.{Line}
use Rattle.script.specs.Fields.{fields_of, field_of}
use Rattle.script.specs.Forms.{no_numbers, with_field, is_list, unfit, fitting, formed, formed_or, named, named_or, read_as, read_of, line_in, line_of, first_in}
use Rattle.script.proofs.Splitting.{split_fields, total, total_fields, few_fields, part_taken, no_part}

-- ---- one form, by the first of what is left of its fields and of the line's

module _ (place : ℕ) (ns : Numbers) where
  module _ (f : List ℕ) (fs : List (List ℕ)) where
    a_list : (ls : List (List ℕ)) → is_list f ≡ true → read_as (f ∷ fs) ls place ns ≡ fitting place ns
    unfolding read_as
    a_list [] e = rw e
    a_list (l ∷ ls) e = rw e

    line_over : is_list f ≡ false → read_as (f ∷ fs) [] place ns ≡ unfit
    unfolding read_as
    line_over e = rw e

    module _ (l : List ℕ) (ls : List (List ℕ)) (none : is_list f ≡ false) where
      field_wrong : field_of f l ≡ None → read_as (f ∷ fs) (l ∷ ls) place ns ≡ unfit
      unfolding read_as
      field_wrong e = rw (none, e)

      field_right : {v : Field} → field_of f l ≡ Some v → read_as (f ∷ fs) (l ∷ ls) place ns ≡ read_as fs ls (place + length l + 1) (with_field v ns)
      unfolding read_as
      field_right e = rw (none, e)

  form_over : (l : List ℕ) (ls : List (List ℕ)) → read_as [] (l ∷ ls) place ns ≡ unfit
  unfolding read_as
  form_over l ls = refl

  both_over : read_as [] [] place ns ≡ fitting place ns
  unfolding read_as
  both_over = refl

-- ---- what is left of a form and of a line, as two iterators give it

pub record Left {S : Type 0} (steps : S → Option (Bor (List ℕ)) → S → Type 0) (form line : List ℕ) (of_form of_line : S) (place : ℕ) (ns : Numbers) : Type 0 where
  pub parts : List (List ℕ)
  pub fields : List (List ℕ)
  pub gives_parts : YieldsList steps (λ x. x.now) of_form parts
  pub gives_fields : YieldsList steps (λ x. x.now) of_line fields
  pub within : place + total fields ≡ length line + 1
  pub same : read_of form line ≡ read_as parts fields place ns

module _ {S : Type 0} {steps : S → Option (Bor (List ℕ)) → S → Type 0} {form line : List ℕ} {of_form of_line : S} where
  pub begins : YieldsList steps (λ x. x.now) of_form (slice_split (λ b. b == 32) form) → YieldsList steps (λ x. x.now) of_line (slice_split (λ b. b == 32) line)
      → Left steps form line of_form of_line 0 no_numbers
  unfolding read_of
  begins p f = record {
    parts = fields_of 32 form;
    fields = fields_of 32 line;
    gives_parts = rw (split_fields 32 form) at p;
    gives_fields = rw (split_fields 32 line) at f;
    within = omega (arith, total_fields 32 line);
    same = refl;
  }

  module _ {place : ℕ} {ns : Numbers} (l : Left steps form line of_form of_line place ns) (t : S) where
    -- the form is at its end
    module _ (h : steps of_form None t) (r : Option (Bor (List ℕ))) (u : S) (k : steps of_line r u) where
      pub line_left : true ≡ is_some r → None ≡ read_of form line
      line_left e = by r k e
        where
          by : (r : Option (Bor (List ℕ))) → steps of_line r u → true ≡ is_some r → None ≡ read_of form line
          by None k e = cc
          by (Some x) k e =
              let n = part_taken u l.fields l.gives_fields k in
              sym (l.same ∙ rw (no_part t l.parts l.gives_parts h, n.0) (form_over place ns _ _))

      pub both_end : false ≡ is_some r → fitting place ns ≡ read_of form line
      both_end e = by r k e
        where
          by : (r : Option (Bor (List ℕ))) → steps of_line r u → false ≡ is_some r → fitting place ns ≡ read_of form line
          by None k e = sym (l.same ∙ rw (no_part t l.parts l.gives_parts h, no_part u l.fields l.gives_fields k) (both_over place ns))
          by (Some x) k e = cc

    module _ (f : Bor (List ℕ)) (h : steps of_form (Some f) t) where
      pub list_next : true ≡ is_list f.now → fitting place ns ≡ read_of form line
      list_next e = sym (l.same ∙ rw (part_taken t l.parts l.gives_parts h).0 (a_list place ns _ _ _ (sym e)))

      module _ (e : false ≡ is_list f.now) (u : S) where
        pub line_ends : steps of_line None u → None ≡ read_of form line
        line_ends k =
            sym (l.same ∙ rw ((part_taken t l.parts l.gives_parts h).0, no_part u l.fields l.gives_fields k) (line_over place ns _ _ (sym e)))

        module _ (x : Bor (List ℕ)) (k : steps of_line (Some x) u) where
          pub wrong_next : None ≡ field_of f.now x.now → None ≡ read_of form line
          wrong_next q =
              sym (l.same ∙ rw ((part_taken t l.parts l.gives_parts h).0, (part_taken u l.fields l.gives_fields k).0) (field_wrong place ns _ _ _ _ (sym e) (sym q)))

          pub next_within : place + (length x.now + 1) ≤ length line + 1
          next_within = omega (arith, l.within, ap total (part_taken u l.fields l.gives_fields k).0)

          pub right_next : {v : Field} → Some v ≡ field_of f.now x.now → Left steps form line t u (place + (length x.now + 1)) (with_field v ns)
          right_next q =
              let p = part_taken t l.parts l.gives_parts h in
              let n = part_taken u l.fields l.gives_fields k in
              let a : place + length x.now + 1 ≡ place + (length x.now + 1) = omega arith in
              record {
                parts = drop 1 l.parts;
                fields = drop 1 l.fields;
                gives_parts = p.1;
                gives_fields = n.1;
                within = omega (arith, l.within, ap total n.0);
                same = l.same ∙ rw (p.0, n.0) (field_right place ns _ _ _ _ (sym e) (sym q) ∙ rw a);
              }

-- ---- the first form that a line has, by the forms that an iterator gives

pub record LeftForms {S : Type 0} (steps : S → Option (Bor (List ℕ)) → S → Type 0) (forms line : List ℕ) (of_forms : S) (k : ℕ) : Type 0 where
  pub rest : List (List ℕ)
  pub gives_rest : YieldsList steps (λ x. x.now) of_forms rest
  pub within : k + length rest ≤ length forms + 1
  pub same : line_of forms line ≡ line_in rest line k

module _ {S : Type 0} {steps : S → Option (Bor (List ℕ)) → S → Type 0} {forms line : List ℕ} {of_forms : S} where
  pub forms_begin : YieldsList steps (λ x. x.now) of_forms (slice_split (λ b. b == 124) forms) → LeftForms steps forms line of_forms 0
  unfolding line_of
  forms_begin f = record {
    rest = fields_of 124 forms;
    gives_rest = rw (split_fields 124 forms) at f;
    within = omega (arith, total_fields 124 forms, few_fields (fields_of 124 forms));
    same = refl;
  }

  module _ {k : ℕ} (l : LeftForms steps forms line of_forms k) (t : S) where
    pub no_form_left : steps of_forms None t → formed k unfit ≡ line_of forms line
    unfolding line_in
    no_form_left h = sym (l.same ∙ rw (no_part t l.rest l.gives_rest h))

    module _ (f : Bor (List ℕ)) (h : steps of_forms (Some f) t) where
      pub this_form : {r : Reading} → Some r ≡ read_of f.now line → formed k (Some r) ≡ line_of forms line
      unfolding line_in
      this_form q = sym (l.same ∙ rw ((part_taken t l.rest l.gives_rest h).0, ← q))

      pub other_form : None ≡ read_of f.now line → LeftForms steps forms line t (k + 1)
      unfolding line_in
      other_form q =
          let n = part_taken t l.rest l.gives_rest h in
          record {
            rest = drop 1 l.rest;
            gives_rest = n.1;
            within = omega (arith, l.within, ap length n.0);
            same = l.same ∙ rw (n.0, ← q);
          }

-- ---- the first of some named forms that a line has

module _ {F : Type 0} (forms : List (Bor (List ℕ) × F)) (line : List ℕ) (k : ℕ) where
  pub first_here : (f : Bor (List ℕ) × F) (r : Reading) → k < length forms → f ≡ get_or forms k f → read_of f.0.now line ≡ Some r
      → Some (f.1, formed k (Some r)) ≡ first_in (named (drop k forms)) line k
  unfolding first_in
  first_here f r h is q = sym (at_drop_more (λ fs. first_in (named fs) line k) forms k f h ∙ rw (← is, q))

  pub first_later : (f : Bor (List ℕ) × F) → k < length forms → f ≡ get_or forms k f → read_of f.0.now line ≡ None
      → first_in (named (drop k forms)) line k ≡ first_in (named (drop (k + 1) forms)) line (k + 1)
  unfolding first_in
  first_later f h is q = at_drop_more (λ fs. first_in (named fs) line k) forms k f h ∙ rw (← is, q)

  pub first_nowhere : length forms ≤ k → first_in (named (drop k forms)) line k ≡ None
  unfolding first_in
  first_nowhere h = rw (drop_of_length-le forms {i = k} h)

-- a line by the first of some named forms is the line by the first of the forms: the same number, list and numbers, or the number of all forms
abbrev pub line_told : {F : Type 0} → Option (F × Line) → ℕ → Line
line_told (Some told) n = told.1
line_told None n = formed n unfit

same_told : {F : Type 0} (name : F) (k n : ℕ) (r : Option Reading) (line : Line) (told : Option (F × Line)) → line ≡ line_told told n
    → formed_or k r line ≡ line_told (named_or name k r told) n
same_told name k n (Some r) line told same = refl
same_told name k n None line told same = same

pub first_told : {F : Type 0} (forms : List (List ℕ × F)) (line : List ℕ) (k : ℕ)
    → line_in (map (λ f. f.0) forms) line k ≡ line_told (first_in forms line k) (k + length forms)
unfolding line_in first_in
first_told [] line k = ap (λ n. formed n unfit) (omega arith)
first_told (f ∷ fs) line k =
    same_told f.1 k _ (read_of f.0 line) _ (first_in fs line (k + 1))
    (first_told fs line (k + 1) ∙ ap (line_told (first_in fs line (k + 1))) (omega arith))

-- and what is told beside it is the name of that form
name_at : {F : Type 0} (f : List ℕ × F) (fs : List (List ℕ × F)) (d : List ℕ × F) (k : ℕ) (name : F) (told : Line) (r : Option Reading)
    (rest : Option (F × Line)) → named_or f.1 k r rest ≡ Some (name, told)
    → (rest ≡ Some (name, told) → (k + 1 ≤ told.form) × ((get_or fs (told.form - (k + 1)) d).1 ≡ name))
    → (k ≤ told.form) × ((get_or (f ∷ fs) (told.form - k) d).1 ≡ name)
name_at {F} f fs d k name told (Some r) rest h later =
    let both : ◌≡◌ {A = F × Line} (f.1, formed k (Some r)) (name, told) = cc in
    let n : f.1 ≡ name = ap (λ x. x.0) both in
    let m : k ≡ told.form = ap (λ x. x.1.form) both in
    let z : told.form - k ≡ 0 = omega arith in
    (omega arith, rw z n)
name_at f fs d k name told None rest h later =
    let there = later h in
    let z : told.form - k ≡ suc (told.form - (k + 1)) = omega (arith, there.0) in
    (omega (arith, there.0), rw z there.1)

none_told : {F : Type 0} (k : ℕ) (d : List ℕ × F) (name : F) (told : Line) → ◌≡◌ {A = Option (F × Line)} None (Some (name, told))
    → (k ≤ told.form) × ((get_or [] (told.form - k) d).1 ≡ name)
none_told k d name told h = let u : ◌≡◌ {A = ℕ} 0 1 = cc in absurd (omega arith)

pub first_named : {F : Type 0} (forms : List (List ℕ × F)) (line : List ℕ) (k : ℕ) (d : List ℕ × F) (name : F) (told : Line)
    → first_in forms line k ≡ Some (name, told) → (k ≤ told.form) × ((get_or forms (told.form - k) d).1 ≡ name)
unfolding first_in
first_named [] line k d name told h = none_told k d name told h
first_named (f ∷ fs) line k d name told h =
    name_at f fs d k name told (read_of f.0 line) (first_in fs line (k + 1)) h (first_named fs line (k + 1) d name told)
