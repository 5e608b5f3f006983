-- The lines of a log in the paper's own words: what stands between the newlines, and a last line whose newline may be missing.
use Rattle.std.proofs.Common.{◌≡◌, ℕ, eqb, ◌↔◌, List, [], ◌∷◌, ◌++◌, sym, refl, ap, ◌∙◌, append_assoc, append-nil, arith, ne_eqb, eqb-true}
use borrow.Author.Tests.{eqb-false}
use lib.Seq.{append_snoc}
use Rattle.wire.proofs.Tests.{whether}
use Rattle.buslog.specs.Lines.{whole_lines, unfinished, last_line, log_lines}
use Rattle.buslog.proofs.PartLaws.{rest_ends, rest_goes_on}
use Rattle.buslog.proofs.Splitting.{line_ends, line_goes_on}

-- a text with no newline in it
abbrev pub OneLine : List ℕ → Type 0
OneLine [] = Unit {0}
OneLine (c ∷ cs) = (c ≡ 10 → ⊥) × OneLine cs

-- each of some texts has no newline in it
abbrev pub EachOne : List (List ℕ) → Type 0
EachOne [] = Unit {0}
EachOne (l ∷ ls) = OneLine l × EachOne ls

-- some lines, each with its newline
abbrev pub with_newlines : List (List ℕ) → List ℕ
with_newlines [] = []
with_newlines (l ∷ ls) = l ++ (10 ∷ with_newlines ls)

-- the lines of a log: each ends with its newline, or all but a last one that is not empty
pub data Lines (log : List ℕ) (ls : List (List ℕ)) : Type 0 where
  all_ended : EachOne ls → log ≡ with_newlines ls → Lines log ls
  last_open : (ks : List (List ℕ)) (l : List ℕ) → EachOne ks → OneLine l → (l ≡ [] → ⊥) → ls ≡ ks ++ (l ∷ []) → log ≡ with_newlines ks ++ l → Lines log ls

-- ---- a log is made of its lines

one_snoc : (l : List ℕ) (c : ℕ) → OneLine l → (c ≡ 10 → ⊥) → OneLine (l ++ (c ∷ []))
one_snoc [] c h n = (n, tt)
one_snoc (b ∷ l) c h n = (h.0, one_snoc l c h.1 n)

whole_each : (begun text : List ℕ) → OneLine begun → EachOne (whole_lines begun text)
unfolding whole_lines
whole_each begun [] h = tt
whole_each begun (c ∷ text) h =
    whether (eqb c 10)
    (λ e. rw (line_ends c text begun e) (h, whole_each [] text tt))
    (λ e. rw (line_goes_on c text begun e) (whole_each (begun ++ (c ∷ [])) text (one_snoc begun c h (eqb-false c 10 e))))

rest_one : (begun text : List ℕ) → OneLine begun → OneLine (unfinished begun text)
unfolding unfinished
rest_one begun [] h = h
rest_one begun (c ∷ text) h =
    whether (eqb c 10)
    (λ e. rw (rest_ends c text begun e) (rest_one [] text tt))
    (λ e. rw (rest_goes_on c text begun e) (rest_one (begun ++ (c ∷ [])) text (one_snoc begun c h (eqb-false c 10 e))))

made : (begun text : List ℕ) → begun ++ text ≡ with_newlines (whole_lines begun text) ++ unfinished begun text
unfolding whole_lines unfinished
made begun [] = append-nil begun
made begun (c ∷ text) =
    whether (eqb c 10)
    (λ e.
    rw (line_ends c text begun e, rest_ends c text begun e, eqb-true c 10 e, append_assoc begun (10 ∷ with_newlines (whole_lines [] text)) (unfinished [] text))
    (ap (λ (r : List ℕ). begun ++ (10 ∷ r)) (made [] text)))
    (λ e. rw (line_goes_on c text begun e, rest_goes_on c text begun e) (sym (append_snoc begun c text) ∙ made (begun ++ (c ∷ [])) text))

-- ---- and its lines are those that it is made of

pub line_then : (begun l rest : List ℕ) → OneLine l → whole_lines begun (l ++ rest) ≡ whole_lines (begun ++ l) rest
line_then begun [] rest h = rw append-nil
line_then begun (c ∷ l) rest h =
    line_goes_on c (l ++ rest) begun (ne_eqb c 10 h.0) ∙ line_then (begun ++ (c ∷ [])) l rest h.1 ∙ rw (append_snoc begun c l)

rest_then : (begun l rest : List ℕ) → OneLine l → unfinished begun (l ++ rest) ≡ unfinished (begun ++ l) rest
rest_then begun [] rest h = rw append-nil
rest_then begun (c ∷ l) rest h =
    rest_goes_on c (l ++ rest) begun (ne_eqb c 10 h.0) ∙ rest_then (begun ++ (c ∷ [])) l rest h.1 ∙ rw (append_snoc begun c l)

lines_then : (ls : List (List ℕ)) (rest : List ℕ) → EachOne ls → whole_lines [] (with_newlines ls ++ rest) ≡ ls ++ whole_lines [] rest
lines_then [] rest h = refl
lines_then (l ∷ ls) rest h =
    rw (append_assoc l (10 ∷ with_newlines ls) rest, line_then [] l (10 ∷ (with_newlines ls ++ rest)) h.0, line_ends 10 (with_newlines ls ++ rest) l refl)
    (ap (λ (k : List (List ℕ)). l ∷ k) (lines_then ls rest h.1))

left_then : (ls : List (List ℕ)) (rest : List ℕ) → EachOne ls → unfinished [] (with_newlines ls ++ rest) ≡ unfinished [] rest
left_then [] rest h = refl
left_then (l ∷ ls) rest h =
    rw (append_assoc l (10 ∷ with_newlines ls) rest, rest_then [] l (10 ∷ (with_newlines ls ++ rest)) h.0, rest_ends 10 (with_newlines ls ++ rest) l refl)
    (left_then ls rest h.1)

open_lines : (l : List ℕ) → OneLine l → whole_lines [] l ≡ []
unfolding whole_lines
open_lines l h = rw append-nil at (line_then [] l [] h)

open_rest : (l : List ℕ) → OneLine l → unfinished [] l ≡ l
unfolding unfinished
open_rest l h = rw append-nil at (rest_then [] l [] h)

last_line_lem : (l : List ℕ) → (l ≡ [] → ⊥) → last_line l ≡ l ∷ []
unfolding last_line
last_line_lem [] h = absurd (h refl)
last_line_lem (c ∷ l) h = refl

has_lines : (log : List ℕ) → Lines log (log_lines log)
unfolding log_lines last_line
has_lines log = by (unfinished [] log) refl where
  by : (u : List ℕ) → u ≡ unfinished [] log → Lines log (whole_lines [] log ++ last_line (unfinished [] log))
  by [] e =
      rw (← e, append-nil (whole_lines [] log))
      (all_ended (whole_each [] log tt) (made [] log ∙ rw (← e) (append-nil (with_newlines (whole_lines [] log)))))
  by (c ∷ u) e =
      let n : (unfinished [] log ≡ [] → ⊥) = (λ z. let q = e ∙ z in let k : ◌≡◌ {A = ℕ} 0 1 = cc in omega arith) in
      last_open (whole_lines [] log) (unfinished [] log) (whole_each [] log tt) (rest_one [] log tt) n
      (ap (λ (k : List (List ℕ)). whole_lines [] log ++ k) (last_line_lem (unfinished [] log) n)) (made [] log)

ended_lines : (ls : List (List ℕ)) → EachOne ls → (whole_lines [] (with_newlines ls) ≡ ls) × (unfinished [] (with_newlines ls) ≡ [])
unfolding whole_lines unfinished
ended_lines ls h = (
  sym (ap (whole_lines []) (append-nil (with_newlines ls))) ∙ lines_then ls [] h ∙ append-nil ls,
  sym (ap (unfinished []) (append-nil (with_newlines ls))) ∙ left_then ls [] h,
)

lines_of : (log : List ℕ) (ls : List (List ℕ)) → Lines log ls → ls ≡ log_lines log
unfolding log_lines last_line
lines_of log ls (all_ended h e) = let r = ended_lines ls h in rw (e, r.0, r.1) (sym (append-nil ls))
lines_of log ls (last_open ks l h o n q e) =
    q ∙ sym (rw (e, lines_then ks l h, left_then ks l h, open_lines l o, open_rest l o, last_line_lem l n, append-nil))

-- "one frame a line": exactly these are the lines of a log
pub lines_exactly : (log : List ℕ) (ls : List (List ℕ)) → (ls ≡ log_lines log) ↔ Lines log ls
lines_exactly log ls = ((λ e. rw e (has_lines log)), lines_of log ls)
