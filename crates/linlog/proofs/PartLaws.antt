-- A part of a log is reported and kept, and a last line is reported: the two equations of `in_parts`.
use Rattle.std.proofs.Common.{Ok, ◌≡◌, ℕ, suc, ◌+◌, ◌*◌, ◌%◌, ◌^◌, ◌<◌, ◌≤◌, false, List, [], ◌∷◌, ◌++◌, length, take, drop, set, Option, None, Some, sym, refl, ap, ◌∙◌, append_assoc, arith, take-append-drop, length-take, length-take-le, take_at}
use Rattle.std.proofs.lemmas.Option.{none-some}
use native.Mathlib.Nat.{min-le_left}
use lib.Seq.{take-append-add, set_split}
use Rattle.signal.proofs.Inside.{order}
use Rattle.buslog.specs.declared.report.Written.{Written}
use Rattle.buslog.specs.Row.{longest_row}
use Rattle.buslog.specs.Lines.{whole_lines, last_line}
use Rattle.buslog.specs.Report.{built_in, Outcome, reporting, reported, rows_of, characters_of, fronted, Fronts, Leaves, kept_length, kept_of}
use Rattle.buslog.proofs.Example.{built_in_taken}
use Rattle.buslog.proofs.ReportLaws.{part_reported}
use Rattle.buslog.proofs.PartLaws.{kept_line}
use Rattle.linlog.specs.declared.Log.{Log}
use Rattle.linlog.specs.Part.{line_kept, Reports, ended, Ends, Fails, Goes, Turns}

-- ---- one part

-- the built-in table is taken, so that the report of a part is no refusal
pub is_reported : (n : ℕ) (t text out : List ℕ) → longest_row * length text ≤ length out → t ≡ built_in
    → (reported t n (length out) text).report
    ≡ Ok (record { lines = length (whole_lines [] text); used = characters_of (whole_lines [] text); put = length (rows_of built_in n (whole_lines [] text)) })
unfolding reporting
is_reported n t text out room table = rw (table, part_reported built_in n (length out) text built_in_taken room)

module _ (log r : Log) (t text out : List ℕ) (w : Written) (after : List ℕ)
    (room : longest_row * length text ≤ length out) (table : t ≡ built_in) (leaves : Leaves (reported t log.number (length out) text) out (Ok w) after) where
  -- all whole lines of the part are reported
  whole : reported t log.number (length out) text ≡ reporting built_in log.number (whole_lines [] text)
  whole = rw table (part_reported built_in log.number (length out) text built_in_taken room)

  handed : Ok w ≡ (reporting built_in log.number (whole_lines [] text)).report
  handed = leaves.handed ∙ ap (λ (o : Outcome). o.report) whole

  used : w.used ≡ characters_of (whole_lines [] text)
  unfolding reporting
  used = let h = handed in cc

  lines : w.lines ≡ length (whole_lines [] text)
  unfolding reporting
  lines = let h = handed in cc

  -- what was kept stands before what is behind the part
  pub step : (kept rest : List ℕ) → r.number ≡ (log.number + w.lines) % 2 ^ 64 → Fronts (kept_of text w.used) text r.kept kept
      → Reports log text out r (kept ++ rest) after
  unfolding line_kept fronted reporting
  step kept rest n f =
      let line : kept_of text w.used ≡ line_kept text = rw used in
      record {
        rows = leaves.left ∙ rw whole;
        number = n ∙ rw lines;
        kept = f.count ∙ ap length line;
        left =
            rw (f.left, append_assoc)
            (take_at (kept_of text w.used) (drop (length (kept_of text w.used)) text ++ rest) r.kept (sym f.count))
            ∙ line;
      }

-- ---- what was kept, and what stands behind it

newline_behind : (text : List ℕ) (k : ℕ) → k < length text → take (k + 1) (set text k 10) ≡ take k text ++ (10 ∷ [])
newline_behind text k h =
    rw (set_split text k 10 h)
    (ap (λ (n : ℕ). take (n + 1) (take k text ++ 10 ∷ drop (suc k) text)) (sym (length-take-le k text (omega arith)))
    ∙ take-append-add (take k text) (10 ∷ drop (suc k) text) 1)

part_behind : (text : List ℕ) (k m : ℕ) → k ≤ length text → take (k + m) text ≡ take k text ++ take m (drop k text)
part_behind text k m h =
    ap (λ (xs : List ℕ). take (k + m) xs) (sym (take-append-drop k text))
    ∙ ap (λ (n : ℕ). take (n + m) (take k text ++ drop k text)) (sym (length-take-le k text h))
    ∙ take-append-add (take k text) (drop k text) m

ended_is : (u : List ℕ) → 1 ≤ length u → ended u ≡ u ++ (10 ∷ [])
unfolding ended
ended_is [] h = absurd (omega arith)
ended_is (c ∷ u) h = refl

module _ (log r : Log) (text out : List ℕ) where
  -- where nothing was kept nothing is reported
  pub nothing_left : log.kept ≡ 0 → (r.kept ≡ 0) × (r.goes_on ≡ false) → Ends log (take log.kept text) out r out
  unfolding ended whole_lines rows_of fronted
  nothing_left z e = record { rows = rw z; none_kept = e.0; over = e.1 }

  -- a line that was kept is reported with a newline behind it
  pub line_left : {next : Log} {text_after after : List ℕ} → 1 ≤ log.kept → log.kept < length text
      → Reports log (take (log.kept + 1) (set text log.kept 10)) out next text_after after → (r.kept ≡ 0) × (r.goes_on ≡ false)
      → Ends log (take log.kept text) out r after
  line_left some h reports e =
      let few : 1 ≤ length (take log.kept text) = omega (arith, length-take-le log.kept text (omega arith)) in
      record {
        rows = reports.rows ∙ rw (newline_behind text log.kept h, ended_is (take log.kept text) few);
        none_kept = e.0;
        over = e.1;
      }

-- ---- what a reading brings about, by its three answers

module _ (log : Log) (text out : List ℕ) (r : Log) (text_after out_after : List ℕ) where
  pub goes_failed : Fails out r out_after → Goes log None text out r text_after out_after
  goes_failed fails =
      record {
        failed = λ _. fails;
        over = λ none. absurd (none-some _ none);
        came = λ n some _. absurd (none-some _ some);
      }

  pub goes_on : (n : ℕ) → 1 ≤ n → log.kept ≤ length text
      → Reports log (take (log.kept + n) text) out r text_after out_after → Goes log (Some n) text out r text_after out_after
  goes_on n h within reports =
      record {
        failed = λ bad. absurd (none-some _ (sym bad));
        over = λ none. let z : n ≡ 0 = cc in absurd (omega arith);
        came = λ m e _. let q : n ≡ m = cc in rw (part_behind text log.kept n within, q) at reports;
      }

-- at most 30 characters are kept
pub few_kept : (log : Log) (text out : List ℕ) (r : Log) (text_after out_after : List ℕ) → Turns log text out r text_after out_after → r.kept ≤ kept_length
unfolding line_kept kept_of
few_kept log text out r text_after out_after t = by t.got refl where
  by : (g : Option ℕ) → t.got ≡ g → r.kept ≤ kept_length
  by None e = omega (arith, (t.goes.failed e).none_kept)
  by (Some n) e =
      order n 1
      (λ none. let z : n ≡ 0 = omega arith in omega (arith, (t.goes.over (rw z at e)).none_kept))
      (λ some.
      let part : List ℕ = take log.kept t.now ++ take n (drop log.kept t.now) in
      let rest : List ℕ = drop (characters_of (whole_lines [] part)) part in
      omega (arith, (t.goes.came n e some).kept, length-take kept_length rest, min-le_left kept_length (length rest)))

-- of a text that was reported, what was kept is the last line of `in_parts`
ended_line : (u : List ℕ) → whole_lines [] (u ++ (10 ∷ [])) ≡ u ∷ [] → whole_lines [] (ended u) ≡ last_line u
unfolding ended last_line whole_lines
ended_line [] h = refl
ended_line (c ∷ u) h = h

pub last_line_lem : (text : List ℕ) → whole_lines [] (ended (line_kept text)) ≡ last_line (line_kept text)
unfolding line_kept
last_line_lem text = ended_line (kept_of text (characters_of (whole_lines [] text))) (kept_line text)
