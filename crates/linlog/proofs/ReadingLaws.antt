-- What is done after a reading, by the number that it answered: each answer with the rows that it puts and with what it keeps.
use Rattle.std.proofs.Common.{◌≡◌, ℕ, suc, ◌+◌, ◌-◌, ◌%◌, ◌^◌, ◌≤◌, true, false, ◌⊎◌, ◌↔◌, List, [], ◌∷◌, ◌++◌, length, take, drop, Option, None, Some, refl, ap, ◌∙◌, arith}
use Rattle.streams.specs.Counts.{Moved}
use Rattle.buslog.specs.Lines.{whole_lines, unfinished, last_line}
use Rattle.buslog.specs.Report.{built_in, rows_of, fronted, kept_of}
use Rattle.buslog.proofs.LinesExactly.{OneLine, line_then}
use Rattle.buslog.proofs.PartLaws.{left_over}
use Rattle.linlog.specs.declared.Log.{Log}
use Rattle.linlog.specs.Part.{line_kept, ended, Goes, Turns, started, Ran, none, turned, Runs}

-- the first line is line 1, and nothing was kept before it
pub starts_at_1 : (started.number ≡ 1) × (started.kept ≡ 0) × (started.goes_on ≡ true)
unfolding started
starts_at_1 = (refl, refl, refl)

-- a last line whose newline is missing is one line
ended_line : (u : List ℕ) → OneLine u → whole_lines [] (ended u) ≡ last_line u
unfolding ended last_line whole_lines
ended_line [] h = refl
ended_line (c ∷ u) h = line_then [] (c ∷ u) (10 ∷ []) h

module _ (log : Log) (text out : List ℕ) (r : Log) (text_after out_after : List ℕ) where
  -- no number: no row is put, and nothing goes on
  pub failed_reading : Goes log None text out r text_after out_after → (out_after ≡ out) × (r.kept ≡ 0) × (r.goes_on ≡ false)
  failed_reading g = let f = g.failed refl in (f.no_rows, f.none_kept, f.over)

  -- 0 is the end: the row of the line that was kept is put, if there is one, and nothing goes on
  pub end_of_input : OneLine (take log.kept text) → Goes log (Some 0) text out r text_after out_after
      → (out_after ≡ fronted (rows_of built_in log.number (last_line (take log.kept text))) out) × (r.kept ≡ 0) × (r.goes_on ≡ false)
  end_of_input one g = let e = g.over refl in (e.rows ∙ rw (ended_line (take log.kept text) one), e.none_kept, e.over)

  -- n characters: the rows of the whole lines are put, of the text that was kept with the n characters behind it, the lines are counted, and what
  -- stands behind the last newline is kept, cut to 30 characters
  pub characters_read : (n : ℕ) → 1 ≤ n → Goes log (Some n) text out r text_after out_after
      → (out_after ≡ fronted (rows_of built_in log.number (whole_lines [] (take log.kept text ++ take n (drop log.kept text)))) out)
      × (r.number ≡ (log.number + length (whole_lines [] (take log.kept text ++ take n (drop log.kept text)))) % 2 ^ 64)
      × (take r.kept text_after ≡ take 30 (unfinished [] (take log.kept text ++ take n (drop log.kept text))))
  unfolding line_kept kept_of
  characters_read n h g =
      let c = g.came n refl h in
      let part = take log.kept text ++ take n (drop log.kept text) in
      (c.rows, c.number, c.left ∙ ap (take 30) (left_over [] part))

-- ---- a run, turn by turn

-- one turn is what some answer of a reading brings about, and what was kept stays before what was read
pub turn_exactly : (log : Log) (text out : List ℕ) (r : Log) (text_after out_after : List ℕ) → Turns log text out r text_after out_after
    ↔ ((got : Option ℕ) × (now : List ℕ) × Moved (length text - log.kept) got × (take log.kept now ≡ take log.kept text)
    × Goes log got now out r text_after out_after)
turn_exactly log text out r text_after out_after = (
  (λ t. (t.got, t.now, t.moved, t.same, t.goes)),
  (λ h. record { got = h.0; now = h.1; moved = h.2; same = h.3; goes = h.4 }),
)

is_started : (log : Log) → (log ≡ started) ↔ ((log.number ≡ 1) × (log.kept ≡ 0) × (log.goes_on ≡ true))
unfolding started
is_started log = ((λ e. rw e (refl, refl, refl)), (λ h. rw (← h.0, ← h.1, ← h.2)))

module _ (text out : List ℕ) where
  before_turns : {k : ℕ} {log : Log} {text_now out_now : List ℕ} → Ran text out k log text_now out_now → k ≡ 0
      → (log ≡ started) × (text_now ≡ text) × (out_now ≡ out)
  before_turns none e = (refl, refl, refl)
  before_turns (turned r g t) e = absurd (omega arith)

  last_turn : {k : ℕ} {r : Log} {text_after out_after : List ℕ} → Ran text out k r text_after out_after → (n : ℕ) → k ≡ suc n
      → (log : Log) × (text_now out_now : List ℕ) × Ran text out n log text_now out_now × (log.goes_on ≡ true)
      × Turns log text_now out_now r text_after out_after
  last_turn none n e = absurd (omega arith)
  last_turn (turned {n = m} {log = l} {text_now = x} {out_now = y} r g t) n e = let q : m ≡ n = omega arith in (l, x, y, rw q at r, g, t)

  -- no turn yet: the first line is line 1, nothing was kept, and the buffers are as they were
  pub no_turn : (log : Log) (text_now out_now : List ℕ) → Ran text out 0 log text_now out_now
      ↔ ((log.number ≡ 1) × (log.kept ≡ 0) × (log.goes_on ≡ true) × (text_now ≡ text) × (out_now ≡ out))
  no_turn log text_now out_now = (
    (λ r. let h = before_turns r refl in let s = (is_started log).0 h.0 in (s.0, s.1, s.2, h.1, h.2)),
    (λ h. rw ((is_started log).1 (h.0, h.1, h.2), h.3, h.4) none),
  )

  -- one turn more: from what the turns before it left, which goes on
  pub next_turn : (n : ℕ) (r : Log) (text_after out_after : List ℕ) → Ran text out (suc n) r text_after out_after
      ↔ ((log : Log) × (text_now out_now : List ℕ) × Ran text out n log text_now out_now × (log.goes_on ≡ true)
      × Turns log text_now out_now r text_after out_after)
  next_turn n r text_after out_after = ((λ h. last_turn h n refl), (λ h. turned h.3 h.4 h.5))

  -- a run is over where a turn ended it; 18,446,744,073,709,551,615 turns are more than any run has
  pub run_exactly : (text_after out_after : List ℕ) → Runs text out text_after out_after
      ↔ ((n : ℕ) × (last : Log) × Ran text out n last text_after out_after × ((last.goes_on ≡ false) ⊎ (n ≡ 18446744073709551615)))
  run_exactly text_after out_after = (
    (λ h. (h.turns, h.last, h.ran, h.over)),
    (λ h. record { turns = h.0; last = h.1; ran = h.2; over = h.3 }),
  )
