-- A log may be reported in parts, cut anywhere: the report is that of the whole log.
use Rattle.std.proofs.Common.{◌≡◌, ℕ, zero, suc, ◌+◌, ◌≤◌, Bool, true, false, not, ◌&&◌, eqb, List, [], ◌∷◌, ◌++◌, length, take, drop, sym, refl, ap, ◌∙◌, true≢false, append_assoc, append-nil, arith, length-take-le, take_all, take-take}
use lib.Seq.{take-append-le, append_snoc, drop-append-add}
use Rattle.wire.proofs.Tests.{and_right, whether}
use Rattle.signal.proofs.Inside.{order}
use Rattle.buslog.specs.declared.judge.Verdict.TheVariants.{Text}
use Rattle.buslog.specs.Pairs.{are_pairs, line_bytes}
use Rattle.buslog.specs.Verdict.{bytes_verdict, line_verdict}
use Rattle.buslog.specs.Row.{header}
use Rattle.buslog.specs.Lines.{whole_lines, unfinished, last_line, log_lines}
use Rattle.buslog.specs.Report.{rows_of, characters_of, kept_length, kept_of, report_of, in_parts, joined}
use Rattle.buslog.proofs.Reading.{too_long}
use Rattle.buslog.proofs.Judging.{no_bytes}
use Rattle.buslog.proofs.Rows.{rows_append}
use Rattle.buslog.proofs.Splitting.{line_ends, line_goes_on}

-- ---- one character of a text

module _ (c : ℕ) (rest begun : List ℕ) where
  pub rest_ends : eqb c 10 ≡ true → unfinished begun (c ∷ rest) ≡ unfinished [] rest
  unfolding unfinished
  rest_ends e = rw e

  pub rest_goes_on : eqb c 10 ≡ false → unfinished begun (c ∷ rest) ≡ unfinished (begun ++ (c ∷ [])) rest
  unfolding unfinished
  rest_goes_on e = rw e

-- ---- a text and more behind it

lines_append : (begun a b : List ℕ) → whole_lines begun (a ++ b) ≡ whole_lines begun a ++ whole_lines (unfinished begun a) b
unfolding whole_lines unfinished
lines_append begun [] b = refl
lines_append begun (c ∷ a) b =
    whether (eqb c 10)
    (λ e. rw (line_ends c (a ++ b) begun e, line_ends c a begun e, rest_ends c a begun e, lines_append [] a b))
    (λ e. rw (line_goes_on c (a ++ b) begun e, line_goes_on c a begun e, rest_goes_on c a begun e) (lines_append (begun ++ (c ∷ [])) a b))

rest_append : (begun a b : List ℕ) → unfinished begun (a ++ b) ≡ unfinished (unfinished begun a) b
unfolding unfinished
rest_append begun [] b = refl
rest_append begun (c ∷ a) b =
    whether (eqb c 10)
    (λ e. rw (rest_ends c (a ++ b) begun e, rest_ends c a begun e) (rest_append [] a b))
    (λ e. rw (rest_goes_on c (a ++ b) begun e, rest_goes_on c a begun e) (rest_append (begun ++ (c ∷ [])) a b))

-- what stands behind the whole lines is the line that is not whole
pub left_over : (begun text : List ℕ) → drop (characters_of (whole_lines begun text)) (begun ++ text) ≡ unfinished begun text
unfolding whole_lines unfinished characters_of
left_over begun [] = append-nil begun
left_over begun (c ∷ text) =
    whether (eqb c 10)
    (λ e.
    let k : length begun + 1 + characters_of (whole_lines [] text) ≡ length begun + suc (characters_of (whole_lines [] text)) = omega arith in
    rw (e, k, drop-append-add begun (c ∷ text) (suc (characters_of (whole_lines [] text)))) (left_over [] text))
    (λ e. rw (e, ← append_snoc begun c text) (left_over (begun ++ (c ∷ [])) text))

-- ---- a line with no newline in it

one_line : List ℕ → Bool
one_line [] = true
one_line (c ∷ u) = not (eqb c 10) && one_line u

module _ (c : ℕ) (u : List ℕ) (h : one_line (c ∷ u) ≡ true) where
  no_newline : eqb c 10 ≡ false
  unfolding one_line
  no_newline = whether (eqb c 10) (λ e. absurd (true≢false (sym h ∙ rw e))) (λ e. e)

  one_line_on : one_line u ≡ true
  unfolding one_line
  one_line_on = and_right (not (eqb c 10)) (one_line u) h

one_line_lines : (begun u b : List ℕ) → one_line u ≡ true → whole_lines begun (u ++ b) ≡ whole_lines (begun ++ u) b
one_line_lines begun [] b h = rw append-nil
one_line_lines begun (c ∷ u) b h =
    line_goes_on c (u ++ b) begun (no_newline c u h)
    ∙ one_line_lines (begun ++ (c ∷ [])) u b (one_line_on c u h)
    ∙ rw (append_snoc begun c u)

one_line_rest : (begun u b : List ℕ) → one_line u ≡ true → unfinished begun (u ++ b) ≡ unfinished (begun ++ u) b
one_line_rest begun [] b h = rw append-nil
one_line_rest begun (c ∷ u) b h =
    rest_goes_on c (u ++ b) begun (no_newline c u h)
    ∙ one_line_rest (begun ++ (c ∷ [])) u b (one_line_on c u h)
    ∙ rw (append_snoc begun c u)

one_line_take : (k : ℕ) (u : List ℕ) → one_line u ≡ true → one_line (take k u) ≡ true
unfolding one_line
one_line_take zero u h = refl
one_line_take (suc k) [] h = refl
one_line_take (suc k) (c ∷ u) h = rw (no_newline c u h) (one_line_take k u (one_line_on c u h))

one_line_snoc : (u : List ℕ) (c : ℕ) → one_line u ≡ true → eqb c 10 ≡ false → one_line (u ++ (c ∷ [])) ≡ true
unfolding one_line
one_line_snoc [] c h e = rw e
one_line_snoc (b ∷ u) c h e = rw (no_newline b u h) (one_line_snoc u c (one_line_on b u h) e)

one_line_unfinished : (begun text : List ℕ) → one_line begun ≡ true → one_line (unfinished begun text) ≡ true
unfolding one_line unfinished
one_line_unfinished begun [] h = h
one_line_unfinished begun (c ∷ text) h =
    whether (eqb c 10)
    (λ e. rw e (one_line_unfinished [] text refl))
    (λ e. rw e (one_line_unfinished (begun ++ (c ∷ [])) text (one_line_snoc begun c h e)))

-- ---- two lines that begin alike: they are the same, or both are too long for pairs

Alike : List ℕ → List ℕ → Type 0
Alike u v = take kept_length u ≡ take kept_length v

either : {A : Type 0} (u v : List ℕ) → Alike u v → (u ≡ v → A) → (kept_length ≤ length u → kept_length ≤ length v → A) → A
unfolding Alike
either u v e same both =
    order (length u) kept_length
    (λ a. order (length v) kept_length
    (λ b. same (sym (take_all kept_length u (omega arith)) ∙ e ∙ take_all kept_length v (omega arith)))
    (λ b. absurd (omega (arith, ap length (sym (take_all kept_length u (omega arith)) ∙ e), length-take-le kept_length v b))))
    (λ a. order (length v) kept_length
    (λ b. absurd (omega (arith, ap length (e ∙ take_all kept_length v (omega arith)), length-take-le kept_length u a)))
    (λ b. both a b))

alike_more : (u v x : List ℕ) → Alike u v → Alike (u ++ x) (v ++ x)
unfolding Alike
alike_more u v x e =
    either u v e
    (λ s. rw s)
    (λ a b. rw (take-append-le kept_length u x a, take-append-le kept_length v x b) e)

alike_cut : (u : List ℕ) → Alike (take kept_length u) u
unfolding Alike
alike_cut u = take-take kept_length kept_length u (omega arith)

module _ (t : List ℕ) where
  alike_verdict : (u v : List ℕ) → Alike u v → line_verdict t u ≡ line_verdict t v
  alike_verdict u v e =
      either u v e
      (λ s. rw s)
      (λ a b. sym (no_bytes t u (too_long u (omega arith))) ∙ no_bytes t v (too_long v (omega arith)))

  alike_rows : (n : ℕ) (u v c : List ℕ) → Alike u v → rows_of t n (whole_lines u c) ≡ rows_of t n (whole_lines v c)
  unfolding whole_lines rows_of
  alike_rows n u v [] a = refl
  alike_rows n u v (x ∷ c) a =
      whether (eqb x 10)
      (λ e. rw (e, alike_verdict u v a))
      (λ e. rw e (alike_rows n (u ++ (x ∷ [])) (v ++ (x ∷ [])) c (alike_more u v (x ∷ []) a)))

  alike_last : (n : ℕ) (u v : List ℕ) → Alike u v → rows_of t n (last_line u) ≡ rows_of t n (last_line v)
  unfolding last_line rows_of Alike
  alike_last n [] [] a = refl
  alike_last n [] (y ∷ v) a = absurd (omega (arith, ap length a))
  alike_last n (x ∷ u) [] a = absurd (omega (arith, ap length a))
  alike_last n (x ∷ u) (y ∷ v) a = rw (alike_verdict (x ∷ u) (y ∷ v) a)

alike_count : (u v c : List ℕ) → length (whole_lines u c) ≡ length (whole_lines v c)
unfolding whole_lines
alike_count u v [] = refl
alike_count u v (x ∷ c) =
    whether (eqb x 10)
    (λ e. rw e)
    (λ e. rw e (alike_count (u ++ (x ∷ [])) (v ++ (x ∷ [])) c))

alike_rest : (u v c : List ℕ) → Alike u v → Alike (unfinished u c) (unfinished v c)
unfolding unfinished Alike
alike_rest u v [] a = a
alike_rest u v (x ∷ c) a =
    whether (eqb x 10)
    (λ e. rw e)
    (λ e. rw e (alike_rest (u ++ (x ∷ [])) (v ++ (x ∷ [])) c (alike_more u v (x ∷ []) a)))

-- ---- the report in parts

-- what is kept of a part behind a line of which only the first characters were kept
kept_rest : (u part : List ℕ) → one_line u ≡ true
    → kept_of (take kept_length u ++ part) (characters_of (whole_lines [] (take kept_length u ++ part))) ≡ take kept_length (unfinished u part)
unfolding kept_of Alike
kept_rest u part h =
    rw (left_over [] (take kept_length u ++ part), one_line_rest [] (take kept_length u) part (one_line_take kept_length u h))
    (alike_rest (take kept_length u) u part (alike_cut u))

module _ (t : List ℕ) where
  -- where u is what came of the current line
  parts_from : (n : ℕ) (u : List ℕ) (parts : List (List ℕ)) → one_line u ≡ true
      → in_parts t n (take kept_length u) parts ≡ rows_of t n (whole_lines u (joined parts) ++ last_line (unfinished u (joined parts)))
  unfolding in_parts joined whole_lines unfinished
  parts_from n u [] h = alike_last t n (take kept_length u) u (alike_cut u)
  parts_from n u (part ∷ parts) h =
      let m : ℕ = n + length (whole_lines u part) in
      let r : List ℕ = unfinished u part in
      rw (
        kept_rest u part h,
        one_line_lines [] (take kept_length u) part (one_line_take kept_length u h),
        alike_rows t n (take kept_length u) u part (alike_cut u),
        alike_count (take kept_length u) u part,
        parts_from m r parts (one_line_unfinished u part h),
        lines_append u part (joined parts),
        rest_append u part (joined parts),
      )
      (sym
      (rw (append_assoc (whole_lines u part) (whole_lines r (joined parts)) (last_line (unfinished r (joined parts))))
      (rows_append t n (whole_lines u part) (whole_lines r (joined parts) ++ last_line (unfinished r (joined parts))))))

  -- a log that comes in parts, cut anywhere, gives the report of the whole log
  pub parts_joined : (parts : List (List ℕ)) → header ++ in_parts t 1 [] parts ≡ report_of t (joined parts)
  unfolding report_of log_lines one_line
  parts_joined parts = ap (λ (rows : List ℕ). header ++ rows) (parts_from 1 [] parts refl)

-- what is kept of a text is one line: there is no newline in it
pub kept_line : (text : List ℕ) → whole_lines [] (kept_of text (characters_of (whole_lines [] text)) ++ (10 ∷ [])) ≡ kept_of text (characters_of (whole_lines [] text)) ∷ []
unfolding kept_of whole_lines one_line
kept_line text =
    rw (left_over [] text)
    (one_line_lines [] (take kept_length (unfinished [] text)) (10 ∷ []) (one_line_take kept_length (unfinished [] text) (one_line_unfinished [] text refl)))

-- ---- what document 01 says of lines

one_line_lem : (line : List ℕ) → (line ≡ [] → ⊥) → line ∷ [] ≡ last_line line
unfolding last_line
one_line_lem [] h = absurd (h refl)
one_line_lem (c ∷ line) h = refl

module _ (t : List ℕ) where
  -- "An empty line is text"
  pub empty_line : line_verdict t [] ≡ Text
  unfolding line_verdict line_bytes are_pairs bytes_verdict
  empty_line = refl

  -- "empty input gives the header only"
  pub empty_input : report_of t [] ≡ header
  unfolding report_of log_lines whole_lines unfinished last_line rows_of
  empty_input = append-nil header

  -- "the last newline may be missing": behind a last line that is not empty it changes nothing
  last_lines : (log : List ℕ) → (unfinished [] log ≡ [] → ⊥) → log_lines (log ++ (10 ∷ [])) ≡ log_lines log
  unfolding log_lines whole_lines unfinished last_line
  last_lines log h = rw (lines_append [] log (10 ∷ []), rest_append [] log (10 ∷ []), append-nil) (ap (λ (ls : List (List ℕ)). whole_lines [] log ++ ls) (one_line_lem (unfinished [] log) h))

  pub last_newline : (log : List ℕ) → (unfinished [] log ≡ [] → ⊥) → report_of t (log ++ (10 ∷ [])) ≡ report_of t log
  unfolding report_of
  last_newline log h = rw (last_lines log h)
