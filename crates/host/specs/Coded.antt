-- What passes between the core and a host written in C.
use Rattle.std.specs.Prelude.{ℕ, ◌+◌, ◌*◌, cond, eqb, length}
use Rattle.cluster.specs.Answers.{verdict_told}
use Rattle.timing.specs.Judge.{judgement_told}
use Rattle.wire.specs.Answers.{told}
use Rattle.refusal.specs.Answers.{value_told}
use Rattle.wire.specs.Answers.{Answer}
use Rattle.wire.specs.declared.checksum.Model.{Model}
use Rattle.wire.specs.declared.checksum.Model.TheVariants.{Classic, Enhanced}
use Rattle.cluster.specs.Check.{Verdict}
use Rattle.timing.specs.Judge.{Judgement}

-- the low byte is the value, the next byte the refusal number of document 01, 0 for none
unfoldable pub coded : Answer → ℕ
coded answer = value_told (told answer) + 256 * (told answer).number

-- 0 wishes for classic, any other number for enhanced
unfoldable pub wish_of : ℕ → Model
wish_of n = cond (eqb n 0) Classic Enhanced

-- the low sixteen bits are the position, those above them the refusal number of document 01; 0 is no refusal
unfoldable pub table_coded : Verdict → ℕ
table_coded verdict = (verdict_told verdict).place + 65536 * (verdict_told verdict).number

-- as the table check's, and of a short entry its number in the low sixteen bits, with 16777216, bit 24, above it; 0 is a schedule that holds
unfoldable pub judge_coded : Judgement → ℕ
judge_coded j =
    value_told (judgement_told j) + (judgement_told j).place + 65536 * (judgement_told j).number + 16777216 * length (judgement_told j).values
