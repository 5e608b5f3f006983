-- How far the report of a text has come, line by line.
use Rattle.std.proofs.Common.{◌≡◌, ℕ, suc, ◌+◌, ◌-◌, ◌%◌, ◌^◌, ◌<◌, ◌≤◌, List, [], ◌∷◌, ◌++◌, length, take, drop, sym, refl, ap, ◌∙◌, add-zero, zero-add, arith, length-append, length-drop, length-take-le}
use native.Mathlib.Nat.{sub-zero}
use borrow.Rule.Slice.PartMut.{put_mid}
use lib.Seq.{append_snoc, take-append_seam}
use Rattle.scan.specs.Bytes.{index_of, slice}
use Rattle.refusal.specs.declared.Refusal.{Refusal}
use Rattle.cluster.specs.Check.{taken_of}
use Rattle.buslog.specs.declared.judge.Verdict.{Verdict}
use Rattle.buslog.specs.declared.report.Written.{Written}
use Rattle.buslog.specs.Verdict.{line_verdict}
use Rattle.buslog.specs.Row.{row_of, longest_row}
use Rattle.buslog.specs.Lines.{whole_lines}
use Rattle.buslog.specs.Report.{rows_of, characters_of, reportable, reported_lines, reporting, reported_by, reported, fronted, Leaves, Fronts}
use Rattle.buslog.specs.Parts.{so_far}
use Rattle.buslog.proofs.Fronting.{behind, behind_within, fronted_length}
use Rattle.buslog.proofs.Rows.{row_number, rows_more, has_room, no_room, characters_more}
use Rattle.buslog.proofs.Splitting.{line_at, none_at}
use Rattle.std.specs.Prelude.{Result, Ok, Err}

-- some lines are reported, and what is left is the rest of the text and the rest of the room
pub record Done (t : List ℕ) (n : ℕ) (text empty : List ℕ) (lines used put : ℕ) (out : List ℕ) : Type 0 where
  pub reported : List (List ℕ)
  pub split : whole_lines [] text ≡ reported ++ whole_lines [] (drop used text)
  pub count : lines ≡ length reported
  pub passed : used ≡ characters_of reported
  pub within : used ≤ length text
  pub fewer : lines ≤ used
  pub fronts : Fronts (rows_of t n reported) empty put out
  pub bound : put ≤ length empty
  pub size : length out ≡ length empty
  pub rest : reportable t n (length empty) (whole_lines [] text) ≡ lines + reportable t (n + lines) (length empty - put) (whole_lines [] (drop used text))

module _ (t : List ℕ) (n : ℕ) (text empty : List ℕ) where
  pub begun : Done t n text empty 0 0 0 empty
  unfolding characters_of rows_of fronted
  begun = record {
    reported = [];
    split = refl;
    count = refl;
    passed = refl;
    within = omega arith;
    fewer = omega arith;
    fronts = record { count = refl; left = refl };
    bound = omega arith;
    size = refl;
    rest = rw (add-zero, sub-zero, zero-add);
  }

  module _ (lines used put : ℕ) (out : List ℕ) (d : Done t n text empty lines used put out) where
    -- nothing more is reported
    finished : reportable t (n + lines) (length empty - put) (whole_lines [] (drop used text)) ≡ 0 → reported_lines t n (length empty) text ≡ d.reported
    unfolding reported_lines
    finished z =
        let k : reportable t n (length empty) (whole_lines [] text) ≡ length d.reported = omega (arith, d.rest, d.count) in
        rw (k, d.split) (take-append_seam d.reported (whole_lines [] (drop used text)))

    leaves : reportable t (n + lines) (length empty - put) (whole_lines [] (drop used text)) ≡ 0
        → Leaves (reporting t n (reported_lines t n (length empty) text)) empty (Ok (so_far lines used put)) out
    unfolding reporting so_far
    leaves z = rw (finished z) record { handed = rw (d.count, d.passed, d.fronts.count); left = d.fronts.left }

    pub full : length empty - put < longest_row → Leaves (reporting t n (reported_lines t n (length empty) text)) empty (Ok (so_far lines used put)) out
    full h = leaves (no_room t (n + lines) (length empty - put) (whole_lines [] (drop used text)) h)

    module _ (end : ℕ) (e : end ≡ used + index_of 10 (slice used (length text) text)) where
      pub ended : end ≡ length text → Leaves (reporting t n (reported_lines t n (length empty) text)) empty (Ok (so_far lines used put)) out
      unfolding reportable
      ended h = leaves (rw (none_at text used end d.within e h))

      -- one line more
      module _ (h : end < length text) (room : longest_row ≤ length empty - put) where
        line_there : whole_lines [] (drop used text) ≡ take (end - used) (drop used text) ∷ whole_lines [] (drop (end + 1) text)
        line_there = line_at text used end d.within e h

        line_length : length (take (end - used) (drop used text)) ≡ end - used
        line_length = length-take-le (end - used) (drop used text) (simp length-drop (omega arith))

        not_before : used ≤ end
        not_before = omega (arith, e)

        module _ (r m : ℕ) (v : Verdict) (part after : List ℕ) (vs : v ≡ line_verdict t (take (end - used) (drop used text))) (ms : m ≡ (n + lines) % 2 ^ 64)
            (row : Fronts (row_of m v) (take (length out - put) (drop put out)) r part)
            (kept : length part ≡ length (take (length out - put) (drop put out)))
            (back : after ≡ put_mid put (length out - put) out part) where
          same_row : row_of m v ≡ row_of (n + lines) (line_verdict t (take (end - used) (drop used text)))
          same_row = rw (ms, vs) (row_number (n + lines) (line_verdict t (take (end - used) (drop used text))))

          more_rows : rows_of t n d.reported ++ row_of m v ≡ rows_of t n (d.reported ++ (take (end - used) (drop used text) ∷ []))
          more_rows = rw same_row (sym (rows_more t n d.reported (take (end - used) (drop used text)) ∙ rw (← d.count)))

          row_within : put + r ≤ length empty
          row_within = omega (arith, behind_within (row_of m v) out put (omega (arith, d.bound, d.size)) row kept, d.size)

          row_length : length (row_of (n + lines) (line_verdict t (take (end - used) (drop used text)))) ≡ r
          row_length = sym (row.count ∙ ap length same_row)

          more_fronts : Fronts (rows_of t n (d.reported ++ (take (end - used) (drop used text) ∷ []))) empty (put + r) after
          more_fronts = rw (← more_rows) (behind (rows_of t n d.reported) (row_of m v) empty d.fronts row back)

          more_rest :
              reportable t n (length empty) (whole_lines [] text)
              ≡ lines + 1 + reportable t (n + (lines + 1)) (length empty - (put + r)) (whole_lines [] (drop (end + 1) text))
          more_rest =
              let a : n + lines + 1 ≡ n + (lines + 1) = omega arith in
              let b : length empty - put - length (row_of (n + lines) (line_verdict t (take (end - used) (drop used text)))) ≡ length empty - (put + r) = omega (arith, row_length) in
              let s : reportable t (n + lines) (length empty - put) (whole_lines [] (drop used text)) ≡ suc
              (reportable t (n + (lines + 1)) (length empty - (put + r)) (whole_lines [] (drop (end + 1) text)))
              = rw line_there (has_room t (n + lines) (length empty - put) (take (end - used) (drop used text)) (whole_lines [] (drop (end + 1) text)) room ∙ rw (a, b)) in
              omega (arith, d.rest)

          pub one_more : Done t n text empty (lines + 1) (end + 1) (put + r) after
          one_more = record {
            reported = d.reported ++ (take (end - used) (drop used text) ∷ []);
            split = d.split ∙ rw line_there (sym (append_snoc d.reported (take (end - used) (drop used text)) (whole_lines [] (drop (end + 1) text))));
            count = omega (arith, d.count, length-append d.reported (take (end - used) (drop used text) ∷ []));
            passed = omega (arith, d.passed, characters_more d.reported (take (end - used) (drop used text)), line_length, not_before);
            within = omega arith;
            fewer = omega (arith, not_before, d.fewer);
            fronts = more_fronts;
            bound = row_within;
            size = ap length more_fronts.left ∙ fronted_length (rows_of t n (d.reported ++ (take (end - used) (drop used text) ∷ []))) empty (omega (arith, more_fronts.count, row_within));
            rest = more_rest;
          }

-- ---- the call

module _ (t : List ℕ) (n : ℕ) (text before : List ℕ) where
  pub refuses : (r : Refusal) → taken_of t ≡ Err r
      → Leaves (reported t n (length before) text) before (Err r) before
  unfolding reported reported_by fronted
  refuses r e = rw e record { handed = refl; left = refl }

  pub accepts : {r : Result Written Refusal} {after : List ℕ} → taken_of t ≡ Ok tt → Leaves (reporting t n (reported_lines t n (length before) text)) before r after
      → Leaves (reported t n (length before) text) before r after
  unfolding reported reported_by
  accepts e l = rw e l
