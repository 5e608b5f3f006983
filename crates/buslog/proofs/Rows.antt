-- The rows of lines, one behind the other.
use Rattle.std.proofs.Common.{◌≡◌, ℕ, suc, ◌+◌, ◌-◌, ◌%◌, ◌^◌, ◌<◌, ◌≤◌, List, [], ◌∷◌, ◌++◌, length, sym, refl, ◌∙◌, append_assoc, append-nil, add-zero, arith, le-leb}
use native.Mathlib.Nat.{mod-mod}
use borrow.Author.Tests.{lt-leb}
use Rattle.buslog.specs.declared.judge.Verdict.{Verdict}
use Rattle.buslog.specs.Verdict.{line_verdict}
use Rattle.buslog.specs.Row.{row_of, decimal_of, longest_row}
use Rattle.buslog.specs.Report.{rows_of, characters_of, reportable}

-- a number of 64 bits shows as the number it is the remainder of
pub row_number : (n : ℕ) (v : Verdict) → row_of (n % 2 ^ 64) v ≡ row_of n v
unfolding row_of decimal_of
row_number n v = rw mod-mod

module _ (t : List ℕ) where
  pub rows_append : (n : ℕ) (ks ls : List (List ℕ)) → rows_of t n (ks ++ ls) ≡ rows_of t n ks ++ rows_of t (n + length ks) ls
  unfolding rows_of
  rows_append n [] ls = rw add-zero
  rows_append n (l ∷ ks) ls =
      let e : n + 1 + length ks ≡ n + length (l ∷ ks) = omega arith in
      rw (rows_append (n + 1) ks ls, e) (sym (append_assoc (row_of n (line_verdict t l)) (rows_of t (n + 1) ks) (rows_of t (n + length (l ∷ ks)) ls)))

  pub rows_more : (n : ℕ) (ls : List (List ℕ)) (l : List ℕ) → rows_of t n (ls ++ (l ∷ [])) ≡ rows_of t n ls ++ row_of (n + length ls) (line_verdict t l)
  unfolding rows_of
  rows_more n ls l = rows_append n ls (l ∷ []) ∙ rw append-nil

  pub has_room : (n room : ℕ) (l : List ℕ) (ls : List (List ℕ)) → longest_row ≤ room
      → reportable t n room (l ∷ ls) ≡ suc (reportable t (n + 1) (room - length (row_of n (line_verdict t l))) ls)
  unfolding reportable
  has_room n room l ls h = rw (le-leb longest_row room h)

  pub no_room : (n room : ℕ) (ls : List (List ℕ)) → room < longest_row → reportable t n room ls ≡ 0
  unfolding reportable
  no_room n room [] h = refl
  no_room n room (l ∷ ls) h = rw (lt-leb longest_row room h)

pub characters_more : (ls : List (List ℕ)) (l : List ℕ) → characters_of (ls ++ (l ∷ [])) ≡ characters_of ls + (length l + 1)
unfolding characters_of
characters_more [] l = omega arith
characters_more (k ∷ ls) l = omega (arith, characters_more ls l)
