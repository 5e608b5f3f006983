-- Document 01, "The log program": "the first verdict that applies: text, parity, unknown, length, checksum, ok".
use Rattle.std.specs.Prelude.{ℕ, ◌+◌, ◌%◌, cond, ◌||◌, List, [], ◌∷◌, length, take, ◌==◌, nat_eq, nat_lt, slice_index}
use Rattle.wire.specs.Identifier.{right_parity}
use Rattle.wire.specs.Checksum.{checksum_byte}
use Rattle.wire.specs.declared.checksum.Model.{Model}
use Rattle.wire.specs.declared.checksum.Model.TheVariants.{Classic}
use Rattle.cluster.specs.Check as checked
use Rattle.cluster.specs.Check.{taken_of}
use Rattle.cluster.specs.Lists.{first_from}
use Rattle.cluster.specs.Table.{frame_count, identifier, frame_length, frame_model}
use Rattle.buslog.specs.declared.judge.Verdict.{Verdict}
use Rattle.buslog.specs.declared.judge.Verdict.TheVariants.{Text, Parity, Unknown, Length, Checksum, Ok}
use Rattle.buslog.specs.Pairs.{line_bytes}
use Rattle.std.specs.Prelude.{Result}
use Rattle.refusal.specs.declared.Refusal.{Refusal}
use Rattle.std.specs.declared.result.Result.TheVariants as result

-- the frame of a table with an identifier; the number of frames where there is none
unfoldable pub frame_with : List ℕ → ℕ → ℕ
frame_with t id = first_from (λ f. nat_eq (identifier t f) id) 0 (frame_count t)

-- a known identifier with n data bytes, and what stands behind the protected identifier: data and checksum
unfoldable pub known_verdict : ℕ → ℕ → Model → List ℕ → Verdict
known_verdict id n wish rest =
    cond (length rest == n + 1)
    (cond (slice_index rest n == checksum_byte id wish (take n rest)) (Ok id) (Checksum id))
    (Length id)

-- "60 and 61 are known with length 8"; another identifier is known where the table has a frame with it
unfoldable pub identifier_verdict : List ℕ → ℕ → List ℕ → Verdict
identifier_verdict t id rest =
    cond (id == 60 || id == 61)
    (known_verdict id 8 Classic rest)
    (cond (nat_lt (frame_with t id) (frame_count t))
    (known_verdict id (frame_length t (frame_with t id)) (frame_model t (frame_with t id)) rest)
    (Unknown id))

-- the verdict on "protected identifier, data, checksum"; no bytes are those of a text, and so "An empty line is text"
unfoldable pub bytes_verdict : List ℕ → List ℕ → Verdict
bytes_verdict t [] = Text
bytes_verdict t (p ∷ rest) = cond (right_parity p) (identifier_verdict t (p % 64) rest) Parity

-- the verdict on a line under a table
unfoldable pub line_verdict : List ℕ → List ℕ → Verdict
line_verdict t line = bytes_verdict t (line_bytes line)

-- what the judge answers: refusal 1 with the position, or the verdict
abbrev pub Judged : Type 0
Judged = Result Verdict Refusal

unfoldable pub answered : checked.Verdict → Verdict → Judged
answered (result.Ok tt) v = result.Ok v
answered (result.Err r) v = result.Err r

unfoldable pub judge_of : List ℕ → List ℕ → Judged
judge_of t line = answered (taken_of t) (line_verdict t line)
