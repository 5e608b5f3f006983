-- What the contracts of private functions cite.
use Rattle.std.specs.Prelude.{cond, ◌||◌, ◌&&◌, eqb, get_or, ◌≡◌, ℕ, ◌≤◌, Option, Some, None, List, [], ◌∷◌, ◌++◌, length}
use Rattle.arrayvec.specs.ArrayVec.{ArrayVec}
use Rattle.buslog.specs.declared.judge.Verdict.{Verdict}
use Rattle.buslog.specs.declared.report.Written.{Written}
use Rattle.buslog.specs.Pairs.{line_bytes, byte_of}
use Rattle.buslog.specs.Row.{shown_identifier, word}

-- the byte of a part of a line: a pair, or a pair with a space behind it
unfoldable pub part_byte : List ℕ → Option ℕ
part_byte part =
    cond (eqb (length part) 2 || eqb (length part) 3 && eqb (get_or part 2 0) 32) (byte_of (get_or part 0 0) (get_or part 1 0)) None

-- none is told of a text, and of any other line its bytes, of which there are some
abbrev pub Reads : List ℕ → Option (ArrayVec ℕ) → Type 0
Reads line None = line_bytes line ≡ []
Reads line (Some bytes) = (1 ≤ length bytes.items) × (bytes.items ≡ line_bytes line)

-- what stands behind the number in a row
unfoldable pub verdict_text : Verdict → List ℕ
verdict_text v = 32 ∷ shown_identifier v ++ (32 ∷ word v ++ (10 ∷ []))

-- the report of what was reported
unfoldable pub so_far : ℕ → ℕ → ℕ → Written
so_far lines used put = record { lines = lines; used = used; put = put }
