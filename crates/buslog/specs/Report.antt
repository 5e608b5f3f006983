-- Document 01, "The log program": the report of a log, as a whole and in parts.
use Rattle.std.specs.Prelude.{◌≡◌, ℕ, suc, ◌+◌, ◌-◌, cond, List, [], ◌∷◌, ◌++◌, length, take, drop, nat_le}
use Rattle.cluster.specs.Check as checked
use Rattle.cluster.specs.Check.{taken_of}
use Rattle.buslog.specs.declared.report.Written.{Written}
use Rattle.buslog.specs.Verdict.{line_verdict}
use Rattle.buslog.specs.Row.{row_of, longest_row, header}
use Rattle.buslog.specs.Lines.{whole_lines, last_line, log_lines}
use Rattle.refusal.specs.declared.Refusal.{Refusal}
use Rattle.std.specs.Prelude.{Result, Ok, Err}

-- the rows of some lines, numbered from n on
unfoldable pub rows_of : List ℕ → ℕ → List (List ℕ) → List ℕ
rows_of t n [] = []
rows_of t n (l ∷ ls) = row_of n (line_verdict t l) ++ rows_of t (n + 1) ls

-- "Its built-in table has one frame: identifier 2, length 1, enhanced": flags 0, and no signals, members and entries
unfoldable pub built_in : List ℕ
built_in = 1 ∷ 0 ∷ 0 ∷ 0 ∷ 0 ∷ 2 ∷ 1 ∷ 0 ∷ []

-- the report of a whole log: a header, and a row for each line, "line number (decimal, from 1)"; "empty input gives the header only"
unfoldable pub report_of : List ℕ → List ℕ → List ℕ
report_of t log = header ++ rows_of t 1 (log_lines log)

-- ---- a part of a log, and a buffer for its rows

-- how many of some lines are reported: one more as long as the longest row has room
unfoldable pub reportable : List ℕ → ℕ → ℕ → List (List ℕ) → ℕ
reportable t n room [] = 0
reportable t n room (l ∷ ls) =
    cond (nat_le longest_row room)
    (suc (reportable t (n + 1) (room - length (row_of n (line_verdict t l))) ls))
    0

-- the lines of a text that are reported
unfoldable pub reported_lines : List ℕ → ℕ → ℕ → List ℕ → List (List ℕ)
reported_lines t n room text = take (reportable t n room (whole_lines [] text)) (whole_lines [] text)

-- how many characters some lines have, with their newlines
unfoldable pub characters_of : List (List ℕ) → ℕ
characters_of [] = 0
characters_of (l ∷ ls) = length l + 1 + characters_of ls

-- some characters, or other things, at the front of a buffer, and behind them what was there
unfoldable pub fronted : {A : Type 0} → List A → List A → List A
fronted cs buffer = cs ++ drop (length cs) buffer

-- some characters were put at the front of a buffer, and their number is told
pub record Fronts (cs before : List ℕ) (r : ℕ) (after : List ℕ) : Type 0 where
  pub count : r ≡ length cs
  pub left : after ≡ fronted cs before

-- what is answered, and what stands at the front of the buffer
pub record Outcome : Type 0 where
  pub report : Result Written Refusal
  pub rows : List ℕ

-- how far some lines were reported
unfoldable pub reporting : List ℕ → ℕ → List (List ℕ) → Outcome
reporting t n ls =
    record {
      report = Ok (record { lines = length ls; used = characters_of ls; put = length (rows_of t n ls) });
      rows = rows_of t n ls;
    }

-- refusal 1 with the position, or the whole lines of the text as far as there is room, numbered from n on
unfoldable pub reported_by : checked.Verdict → List ℕ → ℕ → ℕ → List ℕ → Outcome
reported_by (Ok tt) t n room text = reporting t n (reported_lines t n room text)
reported_by (Err r) t n room text =
    record { report = Err r; rows = [] }

unfoldable pub reported : List ℕ → ℕ → ℕ → List ℕ → Outcome
reported t n room text = reported_by (taken_of t) t n room text

-- what the call hands back, and what it leaves in the buffer
pub record Leaves (o : Outcome) (before : List ℕ) (r : Result Written Refusal) (after : List ℕ) : Type 0 where
  pub handed : r ≡ o.report
  pub left : after ≡ fronted o.rows before

-- ---- what is kept of a part

-- a line that is not whole yet is cut to one character more than the longest line of pairs: it stays the text that it is
abbrev pub kept_length : ℕ
kept_length = 30

-- the characters of a text from a place on, cut to that length
unfoldable pub kept_of : List ℕ → ℕ → List ℕ
kept_of text from = take kept_length (drop from text)

-- ---- a log in parts

-- the report from line n on of a log that comes in parts: each part goes behind what was kept, its whole lines are reported, and what is left is
-- kept; at the end what was kept is a last line
unfoldable pub in_parts : List ℕ → ℕ → List ℕ → List (List ℕ) → List ℕ
in_parts t n kept [] = rows_of t n (last_line kept)
in_parts t n kept (part ∷ parts) =
    rows_of t n (whole_lines [] (kept ++ part))
    ++ in_parts t (n + length (whole_lines [] (kept ++ part))) (kept_of (kept ++ part) (characters_of (whole_lines [] (kept ++ part)))) parts

-- the log as a whole
unfoldable pub joined : List (List ℕ) → List ℕ
joined [] = []
joined (part ∷ parts) = part ++ joined parts
