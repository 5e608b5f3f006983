-- The answers in the paper's terms: of each case the refusal number, 0 where it refuses nothing, the place and the values.
use Rattle.std.specs.Prelude.{ℕ, List, [], ◌∷◌}
use Rattle.refusal.specs.Answers.{Told, gives, refuses}
use Rattle.buslog.specs.declared.judge.Verdict.{Verdict}
use Rattle.buslog.specs.declared.judge.Verdict.TheVariants.{Text, Parity, Unknown, Length, Checksum, Ok}
use Rattle.buslog.specs.Verdict.{Judged}
use Rattle.std.specs.Prelude.{Result}
use Rattle.refusal.specs.declared.Refusal.{Refusal}
use Rattle.buslog.specs.declared.report.Written.{Written}
use Rattle.std.specs.declared.result.Result.TheVariants as result

-- the value of a verdict: the identifier, where there is one
abbrev pub verdict_values : Verdict → List ℕ
verdict_values Text = []
verdict_values Parity = []
verdict_values (Unknown id) = id ∷ []
verdict_values (Length id) = id ∷ []
verdict_values (Checksum id) = id ∷ []
verdict_values (Ok id) = id ∷ []

-- what the judge's answer tells
abbrev pub judged_told : Judged → Told
judged_told (result.Ok v) = gives (verdict_values v)
judged_told (result.Err r) = refuses r

-- what the report's answer tells; the numbers of lines and characters stand beside it
abbrev pub report_told : Result Written Refusal → Told
report_told (result.Ok w) = gives []
report_told (result.Err r) = refuses r
