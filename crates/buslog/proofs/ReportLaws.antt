-- Laws of the report in parts.
use Rattle.std.proofs.Common.{◌≡◌, ℕ, suc, ◌+◌, ◌-◌, ◌*◌, ◌≤◌, eqb, List, [], ◌∷◌, ◌++◌, length, drop, refl, ap, arith, length-append, le-leb}
use lib.Seq.{take-length}
use Rattle.wire.proofs.Tests.{whether}
use Rattle.cluster.specs.Check.{taken_of, TakenTable}
use Rattle.buslog.specs.declared.report.Written.{Written}
use Rattle.buslog.specs.declared.judge.Verdict as buslog
use Rattle.buslog.specs.declared.judge.Verdict.TheVariants.{Text, Parity, Unknown, Length, Checksum, Ok}
use Rattle.buslog.specs.Pairs.{pair_of}
use Rattle.buslog.specs.Verdict.{line_verdict}
use Rattle.buslog.specs.Row.{decimal_of, shown_identifier, word, row_of, longest_row}
use Rattle.buslog.specs.Lines.{whole_lines}
use Rattle.buslog.specs.Report.{fronted, reportable, reported_lines, reporting, reported_by, reported, Leaves}
use Rattle.buslog.specs.Parts.{verdict_text}
use Rattle.cluster.specs.Check.{Verdict}
use Rattle.std.specs.Prelude.{Result}
use Rattle.refusal.specs.declared.Refusal.{Refusal}
use Rattle.std.specs.declared.result.Result.TheVariants as result
use Rattle.buslog.proofs.Decimal.{decimal_few}

module _ (t : List ℕ) (n room : ℕ) (text : List ℕ) where
  abbrev put_of : Result Written Refusal → ℕ
  put_of (result.Ok w) = w.put
  put_of (result.Err r) = 0

  put_by : (v : Verdict) → put_of (reported_by v t n room text).report ≡ length (reported_by v t n room text).rows
  unfolding reported_by reporting
  put_by (result.Ok tt) = refl
  put_by (result.Err r) = refl

  -- the rows that were put are within the buffer
  pub put_within : (before : List ℕ) (r : Written) (after : List ℕ) → Leaves (reported t n room text) before (result.Ok r) after → r.put ≤ length after
  unfolding reported fronted
  put_within before r after l =
      let rows = (reported_by (taken_of t) t n room text).rows in
      omega (arith, ap put_of l.handed, put_by (taken_of t), ap length l.left, length-append rows (drop (length rows) before))

-- ---- a buffer with room for every line

verdict_few : (v : buslog.Verdict) → length (verdict_text v) ≤ 13
unfolding verdict_text shown_identifier word pair_of
verdict_few Text = omega arith
verdict_few Parity = omega arith
verdict_few (Unknown id) = omega arith
verdict_few (Length id) = omega arith
verdict_few (Checksum id) = omega arith
verdict_few (Ok id) = omega arith

pub row_few : (n : ℕ) (v : buslog.Verdict) → length (row_of n v) ≤ longest_row
unfolding row_of verdict_text
row_few n v = omega (arith, length-append (decimal_of n) (verdict_text v), decimal_few n, verdict_few v)

module _ (t : List ℕ) where
  reportable_all : (n room : ℕ) (ls : List (List ℕ)) → longest_row * length ls ≤ room → reportable t n room ls ≡ length ls
  unfolding reportable
  reportable_all n room [] h = refl
  reportable_all n room (l ∷ ls) h =
      rw (le-leb longest_row room (omega arith))
      (ap suc (reportable_all (n + 1) (room - length (row_of n (line_verdict t l))) ls (omega (arith, row_few n (line_verdict t l)))))

  lines_few : (begun text : List ℕ) → length (whole_lines begun text) ≤ length text
  unfolding whole_lines
  lines_few begun [] = omega arith
  lines_few begun (c ∷ text) =
      whether (eqb c 10)
      (λ e. rw e (omega (arith, lines_few [] text)))
      (λ e. rw e (omega (arith, lines_few (begun ++ (c ∷ [])) text)))

  -- 33 characters of room for each character of the text: all its whole lines are reported
  pub all_reported : (n room : ℕ) (text : List ℕ) → longest_row * length text ≤ room → reported_lines t n room text ≡ whole_lines [] text
  unfolding reported_lines
  all_reported n room text h =
      rw (reportable_all n room (whole_lines [] text) (omega (arith, lines_few [] text)))
      (take-length (whole_lines [] text))

  -- under an accepted table a part with so much room is reported whole
  pub part_reported : (n room : ℕ) (text : List ℕ) → TakenTable t → longest_row * length text ≤ room → reported t n room text ≡ reporting t n (whole_lines [] text)
  unfolding reported reported_by
  part_reported n room text right h = rw (right, all_reported n room text h)
