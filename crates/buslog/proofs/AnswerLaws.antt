-- What the calls tell: refusal 1 as the table check tells it, and else their values.
use Rattle.std.proofs.Common.{◌≡◌, ℕ, ◌⊎◌, ◌↔◌, List, [], ◌∷◌, refl, ap, inl, inr, ⊎_elim, arith}
use Rattle.refusal.specs.Answers.{gives}
use Rattle.cluster.specs.Check as checked
use Rattle.cluster.specs.Check.{taken_of}
use Rattle.cluster.specs.Answers.{behind_table}
use Rattle.buslog.specs.declared.judge.Verdict.{Verdict}
use Rattle.buslog.specs.declared.judge.Verdict.TheVariants.{Text, Parity, Unknown, Length, Checksum, Ok}
use Rattle.buslog.specs.Verdict.{Judged}
use Rattle.buslog.specs.declared.report.Written.{Written}
use Rattle.buslog.specs.Answers.{verdict_values, judged_told, report_told}
use Rattle.buslog.specs.Verdict.{line_verdict, answered, judge_of}
use Rattle.buslog.specs.Report.{reporting, reported_by, reported, Leaves}
use Rattle.std.specs.Prelude.{Result}
use Rattle.refusal.specs.declared.Refusal.{Refusal}
use Rattle.std.specs.declared.result.Result.TheVariants as result

-- a verdict has an identifier as its value exactly where one is named in it
pub values_exactly : (v : Verdict) (id : ℕ) → (verdict_values v ≡ id ∷ []) ↔ ((v ≡ Unknown id) ⊎ (v ≡ Length id) ⊎ (v ≡ Checksum id) ⊎ (v ≡ Ok id))
values_exactly v id = (by v, ⊎_elim (λ e. rw e) (⊎_elim (λ e. rw e) (⊎_elim (λ e. rw e) (λ e. rw e))))
  where
    by : (v : Verdict) → verdict_values v ≡ id ∷ [] → (v ≡ Unknown id) ⊎ (v ≡ Length id) ⊎ (v ≡ Checksum id) ⊎ (v ≡ Ok id)
    by Text e = let z : ◌≡◌ {A = ℕ} 0 1 = cc in absurd (omega arith)
    by Parity e = let z : ◌≡◌ {A = ℕ} 0 1 = cc in absurd (omega arith)
    by (Unknown k) e = let q : k ≡ id = cc in inl (ap Unknown q)
    by (Length k) e = let q : k ≡ id = cc in inr (inl (ap Length q))
    by (Checksum k) e = let q : k ≡ id = cc in inr (inr (inl (ap Checksum q)))
    by (Ok k) e = let q : k ≡ id = cc in inr (inr (inr (ap Ok q)))

pub judge_told_lem : (t line : List ℕ) (r : Judged) → r ≡ judge_of t line
    → (r ≡ judge_of t line) × (judged_told r ≡ behind_table (taken_of t) (gives (verdict_values (line_verdict t line))))
unfolding judge_of answered
judge_told_lem t line r e = (e, rw e (by (taken_of t)))
  where
    by : (v : checked.Verdict) → judged_told (answered v (line_verdict t line)) ≡ behind_table v (gives (verdict_values (line_verdict t line)))
    by (result.Ok tt) = refl
    by (result.Err q) = refl

pub report_told_lem : (t : List ℕ) (n room : ℕ) (text before : List ℕ) (r : Result Written Refusal) (after : List ℕ) → Leaves (reported t n room text) before r after
    → Leaves (reported t n room text) before r after × (report_told r ≡ behind_table (taken_of t) (gives []))
unfolding reported reported_by reporting
report_told_lem t n room text before r after e = (e, rw e.handed (by (taken_of t)))
  where
    by : (v : checked.Verdict) → report_told (reported_by v t n room text).report ≡ behind_table v (gives [])
    by (result.Ok tt) = refl
    by (result.Err q) = refl
