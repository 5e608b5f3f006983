-- A log in parts: what the program does with one part, and at the end of the input. These are the two equations of `in_parts` (buslog, Report), by which a
-- log in parts gives the report of the whole.
use Rattle.std.specs.Prelude.{◌≡◌, ℕ, suc, ◌+◌, ◌-◌, ◌%◌, ◌^◌, ◌≤◌, true, false, ◌⊎◌, List, [], ◌∷◌, ◌++◌, length, take, drop, Option, None, Some}
use Rattle.streams.specs.Counts.{Moved}
use Rattle.buslog.specs.Lines.{whole_lines}
use Rattle.buslog.specs.Report.{built_in, rows_of, characters_of, fronted, kept_of}
use Rattle.linlog.specs.declared.Log.{Log}

-- what is kept of a text: the line that is not whole yet
unfoldable pub line_kept : List ℕ → List ℕ
line_kept text = kept_of text (characters_of (whole_lines [] text))

-- a text was reported: the rows of all its whole lines stand at the front of one buffer, the line that is not whole at the front of the
-- other, and the lines are counted
pub record Reports (log : Log) (text out : List ℕ) (r : Log) (text_after out_after : List ℕ) : Type 0 where
  pub rows : out_after ≡ fronted (rows_of built_in log.number (whole_lines [] text)) out
  pub number : r.number ≡ (log.number + length (whole_lines [] text)) % 2 ^ 64
  pub kept : r.kept ≡ length (line_kept text)
  pub left : take r.kept text_after ≡ line_kept text

-- what was kept with the newline that it lacks; where nothing was kept there is no line
unfoldable pub ended : List ℕ → List ℕ
ended [] = []
ended (c ∷ cs) = (c ∷ cs) ++ (10 ∷ [])

-- the input ended: the row of a last line whose newline is missing stands at the front of the buffer, and nothing goes on
pub record Ends (log : Log) (kept out : List ℕ) (r : Log) (out_after : List ℕ) : Type 0 where
  pub rows : out_after ≡ fronted (rows_of built_in log.number (whole_lines [] (ended kept))) out
  pub none_kept : r.kept ≡ 0
  pub over : r.goes_on ≡ false

-- the reading failed: no row is put, and nothing goes on
pub record Fails (out : List ℕ) (r : Log) (out_after : List ℕ) : Type 0 where
  pub no_rows : out_after ≡ out
  pub none_kept : r.kept ≡ 0
  pub over : r.goes_on ≡ false

-- what a reading brings about, by what it answered and by nothing else: no number is a failure, 0 is the end of the input, and of n characters
-- the n that stand behind what was kept are reported with it
pub record Goes (log : Log) (got : Option ℕ) (text out : List ℕ) (r : Log) (text_after out_after : List ℕ) : Type 0 where
  pub failed : got ≡ None → Fails out r out_after
  pub over : got ≡ Some 0 → Ends log (take log.kept text) out r out_after
  pub came : (n : ℕ) → got ≡ Some n → 1 ≤ n → Reports log (take log.kept text ++ take n (drop log.kept text)) out r text_after out_after

-- one turn: a reading left what was kept as it was, and what it answered was done
pub record Turns (log : Log) (text out : List ℕ) (r : Log) (text_after out_after : List ℕ) : Type 0 where
  pub got : Option ℕ
  pub moved : Moved (length text - log.kept) got
  pub now : List ℕ
  pub same : take log.kept now ≡ take log.kept text
  pub goes : Goes log got now out r text_after out_after

-- before the first reading: "line number (decimal, from 1)", and nothing kept
unfoldable pub started : Log
started = record { number = 1; kept = 0; goes_on = true }

-- n turns, one after the other, each from what the one before left, as long as it goes on
pub data Ran (text out : List ℕ) : ℕ → Log → List ℕ → List ℕ → Type 0 where
  none : Ran text out 0 started text out
  turned : {n : ℕ} {log r : Log} {text_now out_now text_after out_after : List ℕ} → Ran text out n log text_now out_now → log.goes_on ≡ true
      → Turns log text_now out_now r text_after out_after → Ran text out (suc n) r text_after out_after

-- a run: turns from line 1 on until one ends it; no run uses up 2 ^ 64 - 1 of them
pub record Runs (text out text_after out_after : List ℕ) : Type 0 where
  pub turns : ℕ
  pub last : Log
  pub ran : Ran text out turns last text_after out_after
  pub over : (last.goes_on ≡ false) ⊎ (turns ≡ 18446744073709551615)
