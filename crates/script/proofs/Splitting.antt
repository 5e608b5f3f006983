-- The fields of a text, one after the other, as the search for the separator finds them.
use Prim.Native.Nat.{ℕ, suc, ◌+◌, ◌-◌, ◌<◌, ◌≤◌}
use mathlib.Core.Path.{◌≡◌, refl, sym, ap, ◌∙◌}
use mathlib.Core.Bool.{true, false}
use mathlib.Core.List.{List, [], ◌∷◌}
use native.Mathlib.Omega.{arith}
use borrow.Author.Tests.{le-leb, lt-leb}
use lib.Dec.{eqb}
use Rattle.std.proofs.Common.{Option, Some, None, ◌==◌}
use Rattle.std.proofs.lemmas.Iterator.{YieldsList}
use Rattle.std.specs.List.{slice_split, onto_first}
use Rattle.std.specs.declared.iter.Enumerate.{Enumerate}
use Rattle.std.specs.Iterator.Adapters.{enumerate_source, enumerate_steps}
use lib.ListN.{length, take, drop, length-drop}
use lib.Seq.{drop-drop, take-length, length-take-le}
use Rattle.scan.specs.Bytes.{index_of, index_after, slice}
use Rattle.wire.proofs.Tests.{whether}
use Rattle.signal.proofs.Inside.{order}
use Rattle.script.specs.Fields.{joined, fields_of, fields_from}

onto_joined : (c : ℕ) (fs : List (List ℕ)) → onto_first c fs ≡ joined c fs
unfolding joined
onto_joined c [] = refl
onto_joined c (f ∷ fs) = refl

-- the fields of a text are the parts that a split at the separator gives
pub split_fields : (s : ℕ) (text : List ℕ) → slice_split (λ b. b == s) text ≡ fields_of s text
unfolding fields_of
split_fields s [] = refl
split_fields s (c ∷ cs) =
    rw (split_fields s cs)
    (whether (c == s) (λ e. rw e) (λ e. rw e (onto_joined c (fields_of s cs))))

-- how many characters some fields have, each with one behind it
abbrev pub total : List (List ℕ) → ℕ
total [] = 0
total (f ∷ fs) = length f + 1 + total fs

total_joined : (c : ℕ) (fs : List (List ℕ)) → 0 < total fs → total (joined c fs) ≡ total fs + 1
unfolding joined
total_joined c [] h = absurd (omega arith)
total_joined c (f ∷ fs) h = omega arith

pub total_fields : (s : ℕ) (text : List ℕ) → total (fields_of s text) ≡ length text + 1
unfolding fields_of
total_fields s [] = refl
total_fields s (c ∷ cs) =
    whether (c == s)
    (λ e. rw e (omega (arith, total_fields s cs)))
    (λ e. rw e (omega (arith, total_fields s cs, total_joined c (fields_of s cs) (omega (arith, total_fields s cs)))))

pub few_fields : (fs : List (List ℕ)) → length fs ≤ total fs
few_fields [] = omega arith
few_fields (f ∷ fs) = omega (arith, few_fields fs)

-- what an iterator that gives some parts gives next, and what it gives then
module _ {S A B : Type 0} {steps : S → Option A → S → Type 0} {v : A → B} {s : S} (t : S) where
  pub part_taken : (parts : List B) → YieldsList steps v s parts → {x : A} → steps s (Some x) t → (parts ≡ v x ∷ drop 1 parts) × YieldsList steps v t (drop 1 parts)
  part_taken [] y h = absurd (y.runs _ t h)
  part_taken (p ∷ parts) y h = let r = y.runs.1 _ t h in (rw r.0, record { runs = r.1 })

  pub no_part : (parts : List B) → YieldsList steps v s parts → steps s None t → parts ≡ []
  no_part [] y h = refl
  no_part (p ∷ parts) y h = absurd (y.runs.0 t h)

-- an iterator that counts gives what the iterator that it counts gives
module _ {S A B : Type 0} {steps : S → Option A → S → Type 0} {v : A → B} where
  pub counted_parts : (parts : List B) (s : Enumerate S) → YieldsList steps v (enumerate_source s) parts → YieldsList (enumerate_steps steps) (λ x. v x.1) s parts
  counted_parts [] s y = record { runs = λ x t h. y.runs x.1 (enumerate_source t) h.0 }
  counted_parts (p ∷ parts) s y = record {
    runs = (λ t h. y.runs.0 (enumerate_source t) h.0, λ x t h. let r = y.runs.1 x.1 (enumerate_source t) h.0 in (r.0, (counted_parts parts t (record { runs = r.1 })).runs));
  }

module _ (s : ℕ) where
  module _ (c : ℕ) (rest : List ℕ) where
    at_separator : eqb c s ≡ true → index_of s (c ∷ rest) ≡ 0
    unfolding index_of index_after
    at_separator e = rw e

    past_separator : eqb c s ≡ false → index_of s (c ∷ rest) ≡ suc (index_of s rest)
    unfolding index_of index_after
    past_separator e = rw e

    field_ends : eqb c s ≡ true → fields_of s (c ∷ rest) ≡ [] ∷ fields_of s rest
    unfolding fields_of
    field_ends e = rw e

    field_goes_on : eqb c s ≡ false → fields_of s (c ∷ rest) ≡ joined c (fields_of s rest)
    unfolding fields_of
    field_goes_on e = rw e

  -- a text with a separator: the field before it, and the fields behind
  first_field : (text : List ℕ) (k : ℕ) → k ≡ index_of s text → k < length text → fields_of s text ≡ take k text ∷ fields_of s (drop (suc k) text)
  unfolding joined
  first_field [] k q h = absurd (omega arith)
  first_field (c ∷ rest) k q h =
      whether (eqb c s)
      (λ e. rw (field_ends c rest e, q, at_separator c rest e))
      (λ e.
      rw (field_goes_on c rest e, q, past_separator c rest e)
      (ap (joined c) (first_field rest (index_of s rest) refl (omega (arith, past_separator c rest e)))))

  -- a text without one is one field
  one_field : (text : List ℕ) → index_of s text ≡ length text → fields_of s text ≡ text ∷ []
  unfolding fields_of joined
  one_field [] q = refl
  one_field (c ∷ rest) q =
      whether (eqb c s)
      (λ e. absurd (omega (arith, at_separator c rest e)))
      (λ e. field_goes_on c rest e ∙ ap (joined c) (one_field rest (omega (arith, past_separator c rest e))))

  -- the search ends within the text
  index_within : (text : List ℕ) → index_of s text ≤ length text
  unfolding index_of
  index_within [] = omega arith
  index_within (c ∷ rest) =
      whether (eqb c s)
      (λ e. omega (arith, at_separator c rest e))
      (λ e. omega (arith, past_separator c rest e, index_within rest))

  -- ---- from a place of a text on

  module _ (text : List ℕ) where
    pub from_behind : (at : ℕ) → length text < at → fields_from s text at ≡ []
    unfolding fields_from
    from_behind at h = rw (lt-leb at (length text) h)

    pub from_within : (at : ℕ) → at ≤ length text → fields_from s text at ≡ fields_of s (drop at text)
    unfolding fields_from
    from_within at h = rw (le-leb at (length text) h)

    module _ (at end : ℕ) (within : at ≤ length text) (e : end ≡ at + index_of s (slice at (length text) text)) (below : end ≤ length text) where
      searched : end ≡ at + index_of s (drop at text)
      unfolding slice
      searched = e ∙ rw take-length

      -- the field that begins at a place, and the fields behind it
      pub field_at : fields_from s text at ≡ take (end - at) (drop at text) ∷ fields_from s text (end + 1)
      field_at =
          order end (length text)
          (λ h.
          let d : at + suc (end - at) ≡ end + 1 = omega arith in
          from_within at within
          ∙ first_field (drop at text) (end - at) (omega (arith, searched)) (simp length-drop (omega arith))
          ∙ rw (drop-drop, d, from_within (end + 1) (omega arith)))
          (λ h.
          let k : length (drop at text) ≡ end - at = simp length-drop (omega arith) in
          from_within at within
          ∙ one_field (drop at text) (omega (arith, searched, k))
          ∙ rw (← k, take-length, from_behind (end + 1) (omega arith)))

      pub field_length : length (take (end - at) (drop at text)) ≡ end - at
      field_length = length-take-le (end - at) (drop at text) (simp length-drop (omega arith))

    -- where the field that begins at a place ends
    pub end_within : (at : ℕ) → at ≤ length text → at + index_of s (slice at (length text) text) ≤ length text
    unfolding slice
    end_within at h = rw take-length (omega (arith, index_within (drop at text), length-drop at text))

-- the fields behind the one that begins at a place
pub behind_field : (s : ℕ) (text : List ℕ) (at : ℕ) (f : List ℕ) (fs : List (List ℕ)) → fields_from s text at ≡ f ∷ fs
    → (at + (length f + 1) ≤ length text + 1) × (fs ≡ fields_from s text (at + (length f + 1)))
behind_field s text at f fs q =
    order (length text) at
    (λ h. let e : ◌≡◌ {A = List (List ℕ)} [] (f ∷ fs) = sym (from_behind s text at h) ∙ q in cc)
    (λ h.
    let end = at + index_of s (slice at (length text) text) in
    let b = end_within s text at h in
    let e = sym (field_at s text at end h refl b) ∙ q in
    let n : take (end - at) (drop at text) ≡ f = cc in
    let r : fields_from s text (end + 1) ≡ fs = cc in
    let l : length f ≡ end - at = ap length (sym n) ∙ field_length s text at end h refl b in
    let p : at + (length f + 1) ≡ end + 1 = omega arith in
    (omega arith, rw p (sym r)))
