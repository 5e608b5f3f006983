-- Which test of `words_right` stands at which position: that of each word of the header and of each record.
use Prim.Native.Nat.{ℕ, zero, suc, ◌+◌, ◌*◌, ◌<◌}
use mathlib.Core.Path.{◌≡◌, refl, ◌∙◌}
use mathlib.Core.Bool.{Bool, true, false, cond}
use mathlib.Core.List.{List, [], ◌∷◌, ◌++◌}
use native.Mathlib.Nat.{zero-add}
use native.Mathlib.Omega.{arith}
use lib.ListN.{length, get_or, length-append, get_or-append}
use lib.Seq.{get_or-append-add}
use Rattle.cluster.specs.Columns.{header_columns, frame_columns, signal_columns, placement_columns, member_columns, entry_columns}
use Rattle.cluster.specs.Right.{records, header_right, frame_right, signal_right, placement_right, all_placed, member_right, entry_right}
use Rattle.cluster.specs.Right.{front_right, back_right, words_right}
use Rattle.cluster.specs.Table.{frame_count, signal_count, placement_count, member_count, entry_count}
use Rattle.cluster.proofs.Accepted.{length_records, front_words, placed_words, unplaced_words}

module _ (d : Bool) where
  -- in front of the seam and behind it
  front : (xs ys : List Bool) (c i : ℕ) → length xs ≡ c → i < c → get_or (xs ++ ys) i d ≡ get_or xs i d
  front xs ys c i l b = get_or-append xs ys d i (omega arith)

  behind : (xs ys : List Bool) (c i : ℕ) → length xs ≡ c → get_or (xs ++ ys) (c + i) d ≡ get_or ys i d
  behind xs ys c i l = rw (← l) (get_or-append-add xs ys i d)

  -- word i of record j, where each record has c words
  module _ (right : ℕ → List Bool) (c : ℕ) (each : (j : ℕ) → length (right j) ≡ c) where
    test_from : (k n j i : ℕ) → j < n → i < c → get_or (records k n right) (c * j + i) d ≡ get_or (right (k + j)) i d
    unfolding records
    test_from k zero j i h b = absurd (omega arith)
    test_from k (suc n) zero i h b =
        let e : c * 0 + i ≡ i = omega arith in
        let z : k + 0 ≡ k = omega arith in
        rw (e, z) (front (right k) (records (suc k) n right) c i (each k) b)
    test_from k (suc n) (suc j) i h b =
        let e : c * suc j + i ≡ c + (c * j + i) = omega arith in
        let z : k + suc j ≡ suc k + j = omega arith in
        rw (e, z) (behind (right k) (records (suc k) n right) c (c * j + i) (each k) ∙ test_from (suc k) n j i (omega arith) b)

    record_test : (n j i : ℕ) → j < n → i < c → get_or (records 0 n right) (c * j + i) d ≡ get_or (right j) i d
    record_test n j i h b = rw zero-add at (test_from 0 n j i h b)

  module _ (t : List ℕ) where
    abbrev frame_tests : List Bool
    frame_tests = records 0 (frame_count t) (frame_right t)

    abbrev signal_tests : List Bool
    signal_tests = records 0 (signal_count t) (signal_right t)

    abbrev placement_tests : List Bool
    placement_tests = records 0 (placement_count t) (placement_right t)

    abbrev member_tests : List Bool
    member_tests = records 0 (member_count t) (member_right t)

    abbrev entry_tests : List Bool
    entry_tests = records 0 (entry_count t) (entry_right t)

    header_words_lem : length (header_right t) ≡ 5
    unfolding header_right header_columns
    header_words_lem = refl

    frame_words_lem : length frame_tests ≡ 3 * frame_count t
    unfolding frame_right frame_columns
    frame_words_lem = length_records (frame_right t) 3 (λ j. refl) 0 (frame_count t)

    signal_words_lem : length signal_tests ≡ 3 * signal_count t
    unfolding signal_right signal_columns
    signal_words_lem = length_records (signal_right t) 3 (λ j. refl) 0 (signal_count t)

    member_words_lem : length member_tests ≡ 2 * member_count t
    unfolding member_right member_columns
    member_words_lem = length_records (member_right t) 2 (λ j. refl) 0 (member_count t)

    to_frames : length (header_right t ++ frame_tests) ≡ 5 + 3 * frame_count t
    to_frames = length-append (header_right t) frame_tests ∙ omega (arith, header_words_lem, frame_words_lem)

    to_signals : length (header_right t ++ frame_tests ++ signal_tests) ≡ 5 + 3 * frame_count t + 3 * signal_count t
    to_signals = length-append (header_right t ++ frame_tests) signal_tests ∙ omega (arith, to_frames, signal_words_lem)

    to_placements : length (front_right t) ≡ 5 + 3 * frame_count t + 3 * signal_count t + 3 * placement_count t
    to_placements = omega (arith, front_words t)

    -- a position in front of a section is a position of the sections before it
    before_members : (p : ℕ) → p < 5 + 3 * frame_count t + 3 * signal_count t + 3 * placement_count t
        → get_or (words_right t) p d ≡ get_or (front_right t) p d
    unfolding words_right
    before_members p b = front (front_right t) (cond (all_placed t) (back_right t) (false ∷ [])) _ p to_placements b

    before_placements : (p : ℕ) → p < 5 + 3 * frame_count t + 3 * signal_count t
        → get_or (words_right t) p d ≡ get_or (header_right t ++ frame_tests ++ signal_tests) p d
    unfolding front_right
    before_placements p b = before_members p (omega arith) ∙ front (header_right t ++ frame_tests ++ signal_tests) placement_tests _ p to_signals b

    before_signals : (p : ℕ) → p < 5 + 3 * frame_count t → get_or (words_right t) p d ≡ get_or (header_right t ++ frame_tests) p d
    before_signals p b = before_placements p (omega arith) ∙ front (header_right t ++ frame_tests) signal_tests _ p to_frames b

    -- word i of the header, and of the record of a frame, a signal, a placement
    pub header_test : (i : ℕ) → i < 5 → get_or (words_right t) i d ≡ get_or (header_right t) i d
    header_test i b = before_signals i (omega arith) ∙ front (header_right t) frame_tests 5 i header_words_lem b

    pub frame_test : (f i p : ℕ) → f < frame_count t → i < 3 → p ≡ 5 + 3 * f + i → get_or (words_right t) p d ≡ get_or (frame_right t f) i d
    unfolding frame_right frame_columns
    frame_test f i p h b e =
        let at : p ≡ 5 + (3 * f + i) = omega arith in
        before_signals p (omega arith)
        ∙ rw at (behind (header_right t) frame_tests 5 (3 * f + i) header_words_lem)
        ∙ record_test (frame_right t) 3 (λ j. refl) (frame_count t) f i h b

    pub signal_test : (s i p : ℕ) → s < signal_count t → i < 3 → p ≡ 5 + 3 * frame_count t + 3 * s + i
        → get_or (words_right t) p d ≡ get_or (signal_right t s) i d
    unfolding signal_right signal_columns
    signal_test s i p h b e =
        let at : p ≡ (5 + 3 * frame_count t) + (3 * s + i) = omega arith in
        before_placements p (omega arith)
        ∙ rw at (behind (header_right t ++ frame_tests) signal_tests _ (3 * s + i) to_frames)
        ∙ record_test (signal_right t) 3 (λ j. refl) (signal_count t) s i h b

    pub placement_test : (k i p : ℕ) → k < placement_count t → i < 3 → p ≡ 5 + 3 * frame_count t + 3 * signal_count t + 3 * k + i
        → get_or (words_right t) p d ≡ get_or (placement_right t k) i d
    unfolding front_right placement_right placement_columns
    placement_test k i p h b e =
        let at : p ≡ (5 + 3 * frame_count t + 3 * signal_count t) + (3 * k + i) = omega arith in
        before_members p (omega arith)
        ∙ rw at (behind (header_right t ++ frame_tests ++ signal_tests) placement_tests _ (3 * k + i) to_signals)
        ∙ record_test (placement_right t) 3 (λ j. refl) (placement_count t) k i h b

    -- where a signal has no placement, the place behind the placements is wrong
    pub unplaced_test : (p : ℕ) → all_placed t ≡ false → p ≡ 5 + 3 * frame_count t + 3 * signal_count t + 3 * placement_count t
        → get_or (words_right t) p d ≡ false
    unplaced_test p h e =
        let at : p ≡ (5 + 3 * frame_count t + 3 * signal_count t + 3 * placement_count t) + 0 = omega arith in
        rw (unplaced_words t h, at) (behind (front_right t) (false ∷ []) _ 0 to_placements)

    -- where each signal has one, the members and the entries follow
    module _ (placed : all_placed t ≡ true) where
      from_members_lem : (p i : ℕ) → p ≡ (5 + 3 * frame_count t + 3 * signal_count t + 3 * placement_count t) + i
          → get_or (words_right t) p d ≡ get_or (member_tests ++ entry_tests) i d
      unfolding back_right
      from_members_lem p i e = rw (placed_words t placed, e) (behind (front_right t) (back_right t) _ i to_placements)

      pub member_test : (m i p : ℕ) → m < member_count t → i < 2
          → p ≡ 5 + 3 * frame_count t + 3 * signal_count t + 3 * placement_count t + 2 * m + i
          → get_or (words_right t) p d ≡ get_or (member_right t m) i d
      unfolding member_right member_columns
      member_test m i p h b e =
          from_members_lem p (2 * m + i) (omega arith)
          ∙ front member_tests entry_tests _ (2 * m + i) member_words_lem (omega arith)
          ∙ record_test (member_right t) 2 (λ j. refl) (member_count t) m i h b

      pub entry_test : (e i p : ℕ) → e < entry_count t → i < 4
          → p ≡ 5 + 3 * frame_count t + 3 * signal_count t + 3 * placement_count t + 2 * member_count t + 4 * e + i
          → get_or (words_right t) p d ≡ get_or (entry_right t e) i d
      unfolding entry_right entry_columns
      entry_test e i p h b q =
          from_members_lem p (2 * member_count t + (4 * e + i)) (omega arith)
          ∙ behind member_tests entry_tests _ (4 * e + i) member_words_lem
          ∙ record_test (entry_right t) 4 (λ j. refl) (entry_count t) e i h b
