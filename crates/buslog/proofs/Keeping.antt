-- What is kept of a line that is not whole.
use Rattle.std.proofs.Common.{◌≡◌, ℕ, ◌+◌, ◌-◌, min, List, length, take, drop, sym, refl, ◌∙◌, arith, length-drop, length-take, take_all}
use native.Mathlib.Nat.{min-eq_left, min-eq_right}
use Rattle.std.specs.List.{copy_within}
use Rattle.signal.proofs.Inside.{order}
use Rattle.buslog.specs.Report.{kept_length, kept_of, fronted, Fronts}

module _ (text : List ℕ) (from n : ℕ) (e : n ≡ min kept_length (length text - from)) where
  pub kept_length_lem : length (kept_of text from) ≡ n
  unfolding kept_of
  kept_length_lem = simp (length-take, length-drop) (sym e)

  -- all that is there, or 30 characters of it
  pub kept_is : take n (drop from text) ≡ kept_of text from
  unfolding kept_of
  kept_is =
      order (length text - from) kept_length
      (λ h.
      let q : n ≡ length text - from = e ∙ min-eq_right (omega arith) in
      take_all n (drop from text) (simp length-drop (omega arith)) ∙ sym (take_all kept_length (drop from text) (simp length-drop (omega arith))))
      (λ h. let q : n ≡ kept_length = e ∙ min-eq_left h in rw q)

  pub kept_none : n ≡ 0 → Fronts (kept_of text from) text 0 text
  unfolding fronted
  kept_none z = record { count = sym (kept_length_lem ∙ z); left = rw (← kept_is, z) }

  -- the characters that are kept, moved to the front
  pub kept_moved : (after : List ℕ) → after ≡ copy_within text from (from + n) 0 → Fronts (kept_of text from) text n after
  unfolding fronted
  kept_moved after e =
      let m : from + n - from ≡ n = omega arith in
      let z : 0 + n ≡ n = omega arith in
      record { count = sym kept_length_lem; left = e ∙ rw (m, z, kept_is, kept_length_lem) refl }
