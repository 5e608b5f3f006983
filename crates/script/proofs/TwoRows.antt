-- What reading two rows comes to, field by field.
use Prim.Native.Nat.{ℕ, ◌+◌, ◌-◌, ◌<◌, ◌≤◌}
use mathlib.Core.Path.{◌≡◌, refl, sym, ◌∙◌}
use mathlib.Core.Bool.{true, false, and-false}
use mathlib.Core.List.{List, [], ◌∷◌, ◌++◌}
use native.Mathlib.Omega.{arith}
use Rattle.std.proofs.Common.{Option, Some, None}
use Rattle.std.specs.Option.{is_some}
use lib.ListN.{length, set, take, drop}
use lib.Seq.{take-nil}
use Rattle.std.proofs.Common.{◌==◌, length-set}
use Rattle.std.specs.List.{slice_split}
use Rattle.std.proofs.lemmas.Iterator.{YieldsList}
use Rattle.script.proofs.Splitting.{split_fields, from_within, part_taken, no_part, behind_field}
use Rattle.wire.proofs.Tests.{and_left, whether}
use Rattle.buslog.specs.Report.{fronted}
use Rattle.script.specs.declared.rows.Row.{Row}
use Rattle.script.specs.Fields.{fields_of, fields_from, decimal_field}
use Rattle.script.specs.Lists.{list_at, leading, count_of, Listed}
use Rattle.script.specs.Rows.{is_colon, has_colon, first_row, behind_colon, second_row, is_first, both_of, rows_of, ReadsRows, ReadsFirst}
use Rattle.script.proofs.Listing.{unchanged, listed_all, listed_wrong, listed_full, next_told, listed_next}

-- what is there is not none
never : {A B : Type 0} {x : B} → ◌≡◌ {A = Option B} None (Some x) → A
never e = cc

-- ---- the first row

module _ (line : List ℕ) (n : ℕ) (before : List ℕ) where
  -- no colon comes
  pub first_over : ReadsFirst line n [] before None before
  unfolding is_first has_colon first_row leading
  first_over = record { right = refl; count = λ row e. never e; next = λ row e. never e; left = rw take-nil (unchanged n before) }

  module _ (f : List ℕ) (fs : List (List ℕ)) where
    -- the colon ends the row
    pub first_colon : is_colon f ≡ true → n ≤ length before → (next : ℕ) → fields_from 32 line next ≡ fs
        → ReadsFirst line n (f ∷ fs) before (Some (record { count = n; next = next })) before
    unfolding is_first has_colon first_row behind_colon
    first_colon e h next q =
        let l : Listed n [] before (Some n) before = listed_all n before h in
        record {
          right = rw (e, ← l.told);
          count = λ row t. let k : n ≡ row.count = cc in rw (e, ← k) (sym l.told);
          next = λ row t. let k : next ≡ row.next = cc in rw (e, ← k) q;
          left = rw e l.left;
        }

    module _ (e : is_colon f ≡ false) where
      -- a row that has no count is not right
      malformed : {after : List ℕ} → Listed n (decimal_field 65535 f ∷ first_row fs) before None after → ReadsFirst line n (f ∷ fs) before None after
      unfolding is_first has_colon first_row
      malformed l = record {
        right = rw (e, ← l.told, and-false);
        count = λ row t. never t;
        next = λ row t. never t;
        left = rw e l.left;
      }

      pub first_wrong : decimal_field 65535 f ≡ None → ReadsFirst line n (f ∷ fs) before None before
      first_wrong t = malformed (rw t (listed_wrong n before (first_row fs)))

      pub first_full : length before ≤ n → ReadsFirst line n (f ∷ fs) before None before
      first_full h = malformed (listed_full n before (first_row fs) (decimal_field 65535 f) h)

      -- the next field is put behind those before it
      pub first_next : {v : ℕ} → decimal_field 65535 f ≡ Some v → n < length before → {r : Option Row} {after : List ℕ}
          → ReadsFirst line (n + 1) fs (set before n v) r after → ReadsFirst line n (f ∷ fs) before r after
      unfolding is_first has_colon first_row behind_colon
      first_next {v} t h p =
          let q = next_told n before (first_row fs) v h refl in
          let l = listed_next n before (first_row fs) v h (record { told = refl; left = p.left }) in
          record {
            right = p.right ∙ rw (e, t, q);
            count = λ row z. rw (e, t) (sym q ∙ p.count row z);
            next = λ row z. p.next row z ∙ rw e;
            left = rw (e, t) l.left;
          }

-- ---- the same, by the fields that an iterator gives from a place on

pub record LeftRow {S A : Type 0} (steps : S → Option A → S → Type 0) (v : A → List ℕ) (line : List ℕ) (at : ℕ) (words₀ : List ℕ) (of_line : S) (count next : ℕ)
    (words : List ℕ) : Type 0 where
  pub fields : List (List ℕ)
  pub gives : YieldsList steps v of_line fields
  pub there : fields_from 32 line next ≡ fields
  pub within : count ≤ length words
  pub size : length words ≡ length words₀
  pub rest : (r : Option Row) (after : List ℕ) → ReadsFirst line count (fields_from 32 line next) words r after
      → ReadsFirst line 0 (fields_from 32 line at) words₀ r after

module _ {S A : Type 0} {steps : S → Option A → S → Type 0} {v : A → List ℕ} {line : List ℕ} {at : ℕ} {words₀ : List ℕ} {of_line : S} where
  pub row_begins : at ≤ length line → YieldsList steps v of_line (slice_split (λ b. b == 32) (drop at line)) → LeftRow steps v line at words₀ of_line 0 at words₀
  row_begins h y = record {
    fields = fields_of 32 (drop at line);
    gives = rw (split_fields 32 (drop at line)) at y;
    there = from_within 32 line at h;
    within = omega arith;
    size = refl;
    rest = λ r after l. l;
  }

  module _ {count next : ℕ} {words : List ℕ} (l : LeftRow steps v line at words₀ of_line count next words) (t : S) where
    pub row_over : steps of_line None t → ReadsFirst line 0 (fields_from 32 line at) words₀ None words
    row_over h = l.rest None words (rw (l.there, no_part t l.fields l.gives h) (first_over line count words))

    module _ (f : A) (h : steps of_line (Some f) t) where
      split_here : fields_from 32 line next ≡ (v f) ∷ drop 1 l.fields
      split_here = l.there ∙ (part_taken t l.fields l.gives h).0

      pub next_within : next + (length (v f) + 1) ≤ length line + 1
      next_within = (behind_field 32 line next (v f) (drop 1 l.fields) split_here).0

      pub row_colon : true ≡ is_colon (v f)
          → ReadsFirst line 0 (fields_from 32 line at) words₀ (Some (record { count = count; next = next + (length (v f) + 1) })) words
      row_colon e =
          l.rest _ words
          (rw split_here
          (first_colon line count words (v f) (drop 1 l.fields) (sym e) l.within (next + (length (v f) + 1))
          (sym (behind_field 32 line next (v f) (drop 1 l.fields) split_here).1)))

      module _ (e : false ≡ is_colon (v f)) where
        pub row_full : length words ≤ count → ReadsFirst line 0 (fields_from 32 line at) words₀ None words
        row_full k = l.rest None words (rw split_here (first_full line count words (v f) (drop 1 l.fields) (sym e) k))

        pub row_wrong : None ≡ decimal_field 65535 (v f) → ReadsFirst line 0 (fields_from 32 line at) words₀ None words
        row_wrong q = l.rest None words (rw split_here (first_wrong line count words (v f) (drop 1 l.fields) (sym e) (sym q)))

        row_next : count < length words → {w : ℕ} → Some w ≡ decimal_field 65535 (v f)
            → LeftRow steps v line at words₀ t (count + 1) (next + (length (v f) + 1)) (set words count w)
        row_next k {w} q =
            let b = (behind_field 32 line next (v f) (drop 1 l.fields) split_here).1 in
            record {
              fields = drop 1 l.fields;
              gives = (part_taken t l.fields l.gives h).1;
              there = sym b;
              within = simp length-set (omega arith);
              size = simp length-set l.size;
              rest = λ r after p. l.rest r after (rw split_here (first_next line count words (v f) (drop 1 l.fields) (sym e) (sym q) k (rw b p)));
            }

        pub row_counted : {w n m : ℕ} → n ≡ count → m ≡ count + 1 → n < length words → Some w ≡ decimal_field 65535 (v f)
            → LeftRow steps v line at words₀ t m (next + (length (v f) + 1)) (set words n w)
        row_counted a b k q = rw (a, b) (row_next (rw a at k) q)

-- ---- both rows

module _ (fs : List (List ℕ)) where
  -- a first row that is not right makes both none
  no_count : (c d : Option ℕ) → is_some c ≡ false → None ≡ both_of c d
  no_count (Some n) d e = cc
  no_count None d e = refl

  pub rows_wrong : (room room2 : ℕ) → is_first 0 room fs ≡ false → None ≡ rows_of room room2 fs
  unfolding is_first rows_of
  rows_wrong room room2 e =
      whether (has_colon fs)
      (λ t. rw t (no_count (count_of 0 room (first_row fs)) (count_of 0 room2 (second_row fs)) (rw t at e)))
      (λ t. rw t)

  pub rows_right : (room room2 k : ℕ) {c : Option ℕ} → is_first 0 room fs ≡ true → count_of 0 room (first_row fs) ≡ Some k → c ≡ count_of 0 room2 (second_row fs)
      → both_of (Some k) c ≡ rows_of room room2 fs
  unfolding is_first rows_of
  rows_right room room2 k e q p = rw (and_left (has_colon fs) (is_some (count_of 0 room (first_row fs))) e, q, p)

  -- what stands at the front of a buffer behind no numbers
  at_front : (ys before : List ℕ) → take 0 before ++ fronted (take (length before - 0) ys) (drop 0 before) ≡ fronted (take (length before) ys) before
  at_front ys before = let z : length before - 0 ≡ length before = omega arith in rw z

  module _ (line words numbers : List ℕ) {after : List ℕ} where
    pub reads_wrong : ReadsFirst line 0 fs words None after → ReadsRows fs words numbers None after numbers
    reads_wrong p =
        let t : is_first 0 (length words) fs ≡ false = sym p.right in
        record {
          told = rows_wrong (length words) (length numbers) t;
          first = p.left ∙ at_front (leading (first_row fs)) words;
          second = rw t;
        }

    pub reads_both : {row : Row} → ReadsFirst line 0 fs words (Some row) after → {c : Option ℕ} {rest : List ℕ}
        → Listed 0 (list_at (decimal_field 4294967295) line row.next) numbers c rest → ReadsRows fs words numbers (both_of (Some row.count) c) after rest
    unfolding second_row
    reads_both {row} p l =
        let t : is_first 0 (length words) fs ≡ true = sym p.right in
        let q = p.next row refl in
        record {
          told = rows_right (length words) (length numbers) row.count t (p.count row refl) (l.told ∙ rw q);
          first = p.left ∙ at_front (leading (first_row fs)) words;
          second = l.left ∙ at_front _ numbers ∙ rw (t, q);
        }
