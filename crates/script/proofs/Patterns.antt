-- Texts by a pattern, character by character, and bytes one by one; and one of some patterns.
use Prim.Native.Nat.{ℕ, suc, ◌+◌, ◌<◌, ◌≤◌}
use mathlib.Core.Path.{◌≡◌}
use mathlib.Core.List.{List, [], ◌∷◌, ◌++◌}
use lib.ListN.{length, get_or, drop, drop_of_length-le}
use Rattle.std.proofs.Common.{zero, ◌==◌, Option, Some, None, refl}
use Rattle.std.specs.List.{slice_split, slice_get}
use Rattle.buslog.specs.Pairs.{pair_of}
use Rattle.script.specs.Fields.{fields_of}
use Rattle.script.specs.Print.{shown_by, left_behind, text_by, spaced_pairs}
use Rattle.script.proofs.Reading.{from_place}
use Rattle.script.proofs.Splitting.{split_fields}

pub no_text : (numbers : List ℕ) → text_by [] numbers ≡ []
unfolding text_by
no_text numbers = refl

module _ (pattern numbers : List ℕ) (i : ℕ) where
  pub pattern_next : i < length pattern
      → text_by (drop i pattern) numbers ≡ shown_by (get_or pattern i 0) (get_or numbers 0 0) ++ text_by (drop (i + 1) pattern) (left_behind (get_or pattern i 0) numbers)
  unfolding text_by
  pattern_next h = rw (from_place pattern i h)

  pub pattern_over : length pattern ≤ i → text_by (drop i pattern) numbers ≡ []
  unfolding text_by
  pattern_over h = rw (drop_of_length-le pattern {i = i} h)

module _ (bytes : List ℕ) (i : ℕ) where
  pub pairs_next : i < length bytes → spaced_pairs (drop i bytes) ≡ (32 ∷ pair_of (get_or bytes i 0)) ++ spaced_pairs (drop (i + 1) bytes)
  unfolding spaced_pairs
  pairs_next h = rw (from_place bytes i h)

  pub pairs_over : length bytes ≤ i → spaced_pairs (drop i bytes) ≡ []
  unfolding spaced_pairs
  pairs_over h = rw (drop_of_length-le bytes {i = i} h)

-- ---- one of some patterns

module _ (patterns : List ℕ) (k : ℕ) where
  pub a_pattern : {p : List ℕ} → Some p ≡ slice_get (slice_split (λ b. b == 124) patterns) k → get_or (fields_of 124 patterns) k [] ≡ p
  a_pattern {p} e = by (fields_of 124 patterns) k (rw (split_fields 124 patterns) at e)
    where
      by : (fs : List (List ℕ)) (k : ℕ) → Some p ≡ slice_get fs k → get_or fs k [] ≡ p
      by [] k e = cc
      by (f ∷ fs) zero e = cc
      by (f ∷ fs) (suc k) e = by fs k e

  pub no_pattern : None ≡ slice_get (slice_split (λ b. b == 124) patterns) k → get_or (fields_of 124 patterns) k [] ≡ []
  no_pattern e = by (fields_of 124 patterns) k (rw (split_fields 124 patterns) at e)
    where
      by : (fs : List (List ℕ)) (k : ℕ) → ◌≡◌ {A = Option (List ℕ)} None (slice_get fs k) → get_or fs k [] ≡ []
      by [] k e = refl
      by (f ∷ fs) zero e = cc
      by (f ∷ fs) (suc k) e = by fs k e
