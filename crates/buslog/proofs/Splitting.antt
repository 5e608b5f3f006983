-- The first line of a text, by its first newline.
use Rattle.std.proofs.Common.{◌≡◌, ℕ, suc, ◌+◌, ◌-◌, ◌<◌, ◌≤◌, true, false, eqb, List, [], ◌∷◌, ◌++◌, length, take, drop, sym, refl, ap, ◌∙◌, append-nil, arith, length-drop, drop-drop}
use lib.Seq.{append_snoc, take-length}
use Rattle.scan.specs.Bytes.{index_of, index_after, slice}
use Rattle.wire.proofs.Tests.{whether}
use Rattle.buslog.specs.Lines.{whole_lines}

module _ (c : ℕ) (rest : List ℕ) where
  at_newline : eqb c 10 ≡ true → index_of 10 (c ∷ rest) ≡ 0
  unfolding index_of index_after
  at_newline e = rw e

  past_newline : eqb c 10 ≡ false → index_of 10 (c ∷ rest) ≡ suc (index_of 10 rest)
  unfolding index_of index_after
  past_newline e = rw e

  pub line_ends : (begun : List ℕ) → eqb c 10 ≡ true → whole_lines begun (c ∷ rest) ≡ begun ∷ whole_lines [] rest
  unfolding whole_lines
  line_ends begun e = rw e

  pub line_goes_on : (begun : List ℕ) → eqb c 10 ≡ false → whole_lines begun (c ∷ rest) ≡ whole_lines (begun ++ (c ∷ [])) rest
  unfolding whole_lines
  line_goes_on begun e = rw e

-- a text with a newline: the line before it, and the lines behind
first_line : (begun text : List ℕ) (k : ℕ) → k ≡ index_of 10 text → k < length text → whole_lines begun text ≡ (begun ++ take k text) ∷ whole_lines [] (drop (suc k) text)
first_line begun [] k q h = absurd (omega arith)
first_line begun (c ∷ rest) k q h =
    whether (eqb c 10)
    (λ e. rw (line_ends c rest begun e, q, at_newline c rest e) (ap (λ (l : List ℕ). l ∷ whole_lines [] rest) (sym (append-nil begun))))
    (λ e.
    rw (line_goes_on c rest begun e, q, past_newline c rest e)
    (first_line (begun ++ (c ∷ [])) rest (index_of 10 rest) refl (omega (arith, past_newline c rest e))
    ∙ ap (λ (l : List ℕ). l ∷ whole_lines [] (drop (suc (index_of 10 rest)) rest)) (append_snoc begun c (take (index_of 10 rest) rest))))

-- a text without one has no whole line
no_line : (begun text : List ℕ) → index_of 10 text ≡ length text → whole_lines begun text ≡ []
unfolding whole_lines
no_line begun [] q = refl
no_line begun (c ∷ rest) q =
    whether (eqb c 10)
    (λ e. absurd (omega (arith, at_newline c rest e)))
    (λ e. line_goes_on c rest begun e ∙ no_line (begun ++ (c ∷ [])) rest (omega (arith, past_newline c rest e)))

-- ---- the same from a place of a text on, as the search tells it

module _ (text : List ℕ) (from end : ℕ) (within : from ≤ length text) (e : end ≡ from + index_of 10 (slice from (length text) text)) where
  searched : end ≡ from + index_of 10 (drop from text)
  unfolding slice
  searched = e ∙ rw take-length

  pub line_at : end < length text
      → whole_lines [] (drop from text) ≡ take (end - from) (drop from text) ∷ whole_lines [] (drop (end + 1) text)
  line_at h =
      let k : end - from ≡ index_of 10 (drop from text) = omega (arith, searched) in
      let d : from + suc (end - from) ≡ end + 1 = omega arith in
      first_line [] (drop from text) (end - from) k (simp length-drop (omega arith)) ∙ rw (drop-drop, d)

  pub none_at : end ≡ length text → whole_lines [] (drop from text) ≡ []
  none_at h = no_line [] (drop from text) (simp length-drop (omega (arith, searched)))
