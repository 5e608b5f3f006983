-- The check goes section by section: the header, the frames, the signals, the placements and whether one is missing, the members, the entries, and
-- what is behind them.
use Prim.Native.Nat.{ℕ, suc, ◌+◌, ◌*◌, ◌≤◌, ◌<◌}
use mathlib.Core.Path.{◌≡◌, refl, ◌∙◌}
use mathlib.Core.Bool.{Bool, true, false, ◌&&◌, and-false}
use mathlib.Core.List.{List, [], ◌∷◌, ◌++◌}
use native.Mathlib.Omega.{arith}
use lib.Dec.{ltb}
use lib.ListN.{length, length-append}
use Rattle.wire.proofs.Tests.{whether}
use Rattle.cluster.specs.Check.{fault, faults, header_faults, frame_faults, signal_faults, placement_faults, unplaced, member_faults}
use Rattle.cluster.specs.Check.{entry_faults, then}
use Rattle.cluster.specs.Check.{surplus, judged}
use Rattle.cluster.specs.Columns.{header_columns, frame_columns, signal_columns, placement_columns, member_columns, width_right}
use Rattle.cluster.specs.Read.{InLimits, RecordsBefore}
use Rattle.cluster.specs.Right.{records, header_right, frame_right, signal_right, placement_right, all_placed, member_right, entry_right}
use Rattle.cluster.specs.Right.{front_right, back_right, words_right}
use Rattle.cluster.specs.Table.{header_words, frame_words}
use Rattle.cluster.specs.Table.{signal_words, member_words}
use Rattle.cluster.specs.Table.{frame_count, signal_count, placement_count, member_count, entry_count, frame_length, is_array, signal_width}
use Rattle.cluster.specs.Table.{frame_at, signal_at, placement_at, member_at, entry_at}
use Rattle.cluster.proofs.Accepted.{all_records, length_records, faults_true, faults_length, front_words, placed_words, unplaced_words}
use Rattle.cluster.proofs.HeaderLaws.{header_counts}
use Rattle.cluster.proofs.Clauses.{within_high}
use Rattle.std.specs.Prelude.{Ok, Err}
use Rattle.cluster.specs.Check.{Verdict}

-- ---- one section after another

faults_append : (t : List ℕ) (i j : ℕ) (xs ys : List Bool) → i + length xs ≡ j
    → faults t i (xs ++ ys) ≡ then (faults t i xs) (faults t j ys)
unfolding faults
faults_append t i j [] ys e = let here : i ≡ j = omega arith in rw here
faults_append t i j (x ∷ xs) ys e =
    whether (ltb i (length t) && x)
    (λ h. rw h (faults_append t (suc i) j xs ys (omega arith)))
    (λ h. rw h)

then_then : (u v w : Verdict) → then (then u v) w ≡ then u (then v w)
then_then (Ok tt) v w = refl
then_then (Err r) v w = refl

module _ (t : List ℕ) where
  -- the words of each section, in order, and where the next one begins
  module _ (h f s p : List Bool) (hl : length h ≡ header_words) (fl : length f ≡ frame_words * frame_count t)
      (sl : length s ≡ signal_words * signal_count t) where
    front_order : faults t 0 (h ++ f ++ s ++ p)
        ≡ then (then (then (faults t 0 h) (faults t (frame_at 0) f)) (faults t (signal_at t 0) s)) (faults t (placement_at t 0) p)
    front_order =
        rw (
          faults_append t 0 (placement_at t 0) (h ++ f ++ s) p (simp length-append (omega arith)),
          faults_append t 0 (signal_at t 0) (h ++ f) s (simp length-append (omega arith)),
          faults_append t 0 (frame_at 0) h f (omega arith),
        )

  front_faults : faults t 0 (front_right t) ≡ then (then (then (header_faults t) (frame_faults t)) (signal_faults t)) (placement_faults t)
  unfolding front_right header_right frame_right signal_right placement_right header_columns frame_columns signal_columns placement_columns
  front_faults =
      front_order
      (header_right t)
      (records 0 (frame_count t) (frame_right t))
      (records 0 (signal_count t) (signal_right t))
      (records 0 (placement_count t) (placement_right t))
      refl
      (length_records (frame_right t) frame_words (λ j. refl) 0 (frame_count t))
      (length_records (signal_right t) signal_words (λ j. refl) 0 (signal_count t))

  back_faults : faults t (member_at t 0) (back_right t) ≡ then (member_faults t) (entry_faults t)
  unfolding back_right member_right member_columns
  back_faults =
      faults_append t (member_at t 0) (entry_at t 0) (records 0 (member_count t) (member_right t)) (records 0 (entry_count t) (entry_right t))
      (omega (arith, length_records (member_right t) member_words (λ j. refl) 0 (member_count t)))

  -- a wrong word that stands for the placements that are missing
  none_there : (i : ℕ) → faults t i (false ∷ []) ≡ fault i
  unfolding faults
  none_there i = rw (and-false (ltb i (length t)))

  -- the placements are missing, or the members and the entries follow
  all_faults : faults t 0 (words_right t) ≡ then (faults t 0 (front_right t)) (then (unplaced t) (faults t (member_at t 0) (back_right t)))
  unfolding unplaced
  all_faults =
      let at : 0 + length (front_right t) ≡ placement_at t (placement_count t) = omega (arith, front_words t) in
      let same : placement_at t (placement_count t) ≡ member_at t 0 = omega arith in
      whether (all_placed t)
      (λ h. rw (placed_words t h, h) (rw same at (faults_append t 0 (placement_at t (placement_count t)) (front_right t) (back_right t) at)))
      (λ h. rw (unplaced_words t h, h)
      (faults_append t 0 (placement_at t (placement_count t)) (front_right t) (false ∷ []) at
      ∙ rw (none_there (placement_at t (placement_count t)))))

  -- what is judged from each section on

  abbrev pub from_entries : Verdict
  from_entries = then (entry_faults t) (surplus t)

  abbrev pub from_members : Verdict
  from_members = then (member_faults t) from_entries

  abbrev pub from_placements : Verdict
  from_placements = then (then (placement_faults t) (unplaced t)) from_members

  abbrev pub from_signals : Verdict
  from_signals = then (signal_faults t) from_placements

  abbrev pub from_frames : Verdict
  from_frames = then (frame_faults t) from_signals

  pub judged_sections : judged t ≡ then (header_faults t) from_frames
  unfolding judged
  judged_sections = rw (all_faults, front_faults, back_faults) (simp then_then)

  -- where the sections before accept, the answer is that of those from the next one on

  pub after_header : header_faults t ≡ Ok tt → judged t ≡ from_frames
  after_header h = judged_sections ∙ rw h

  pub after_frames : header_faults t ≡ Ok tt → frame_faults t ≡ Ok tt → judged t ≡ from_signals
  after_frames h f = after_header h ∙ rw f

  pub after_signals : header_faults t ≡ Ok tt → frame_faults t ≡ Ok tt → signal_faults t ≡ Ok tt → judged t ≡ from_placements
  after_signals h f s = after_frames h f ∙ rw s

  pub after_placements : header_faults t ≡ Ok tt → frame_faults t ≡ Ok tt → signal_faults t ≡ Ok tt → then (placement_faults t) (unplaced t) ≡ Ok tt
      → judged t ≡ from_members
  after_placements h f s p = after_signals h f s ∙ rw p

  pub after_members : judged t ≡ from_members → member_faults t ≡ Ok tt → judged t ≡ from_entries
  after_members before m = before ∙ rw m

  pub after_entries : judged t ≡ from_entries → entry_faults t ≡ Ok tt → judged t ≡ surplus t
  after_entries before e = before ∙ rw e

  -- ---- what each section leaves to the next

  pub header_passed : header_faults t ≡ Ok tt → InLimits t
  header_passed h =
      let counts = header_counts t (faults_true t 0 (header_right t) h) in
      record { frames = counts.0; signals = counts.1; members = counts.2; entries = counts.3; placements = counts.4 }

  frames_passed : frame_faults t ≡ Ok tt → (f : ℕ) → f < frame_count t → frame_length t f ≤ 8
  unfolding frame_right frame_columns
  frames_passed h f b =
      within_high 1 8 (frame_length t f)
      (all_records (frame_right t) 0 (frame_count t) (faults_true t (frame_at 0) (records 0 (frame_count t) (frame_right t)) h) f (omega arith)
      (omega arith)).1.0

  signals_passed : signal_faults t ≡ Ok tt → (s : ℕ) → s < signal_count t → width_right (is_array t s) (signal_width t s) ≡ true
  unfolding signal_right signal_columns is_array
  signals_passed h s b =
      (all_records (signal_right t) 0 (signal_count t) (faults_true t (signal_at t 0) (records 0 (signal_count t) (signal_right t)) h) s
      (omega arith) (omega arith)).1.0

  -- where a section accepts, its words are there
  words_there : header_faults t ≡ Ok tt → frame_faults t ≡ Ok tt → signal_faults t ≡ Ok tt → placement_at t 0 ≤ length t
  unfolding header_right frame_right signal_right header_columns frame_columns signal_columns
  words_there h f s =
      let header : header_words ≤ length t = faults_length t 0 (header_right t) h (omega arith) in
      let frames : signal_at t 0 ≤ length t =
      omega (
        arith,
        faults_length t (frame_at 0) (records 0 (frame_count t) (frame_right t)) f (omega arith),
        length_records (frame_right t) frame_words (λ j. refl) 0 (frame_count t),
      ) in
      omega (
        arith,
        faults_length t (signal_at t 0) (records 0 (signal_count t) (signal_right t)) s frames,
        length_records (signal_right t) signal_words (λ j. refl) 0 (signal_count t),
      )

  pub records_passed : header_faults t ≡ Ok tt → frame_faults t ≡ Ok tt → signal_faults t ≡ Ok tt → RecordsBefore t
  records_passed h f s = record {
    all = words_there h f s;
    frames = (header_passed h).frames;
    signals = (header_passed h).signals;
    short = frames_passed f;
    widths = signals_passed s;
  }
