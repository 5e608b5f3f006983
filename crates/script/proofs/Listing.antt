-- What reading a list comes to, field by field.
use Prim.Native.Nat.{ℕ, suc, ◌+◌, ◌-◌, ◌<◌, ◌≤◌}
use mathlib.Core.Path.{◌≡◌, refl, sym, ◌∙◌}
use mathlib.Core.Bool.{and-false}
use mathlib.Core.List.{List, [], ◌∷◌, ◌++◌}
use native.Mathlib.Numerals.{add-one}
use native.Mathlib.Omega.{arith}
use borrow.Author.Tests.{le-leb, lt-leb}
use lib.ListN.{length, take, drop, set, length-set, take-append-drop}
use Rattle.std.proofs.Common.{Option, Some, None}
use lib.Seq.{take-nil, take-suc-set, drop-set-lt, drop-drop, append_snoc}
use Rattle.scan.specs.Bytes.{index_of, slice}
use Rattle.buslog.specs.Report.{fronted}
use Rattle.script.specs.Lists.{list_at, are_read, leading, count_of, Listed}
use Rattle.script.proofs.Splitting.{from_behind, field_at}

module _ {T : Type 0} where
  -- nothing put behind the first n leaves a buffer as it is
  pub unchanged : (n : ℕ) (before : List T) → before ≡ take n before ++ fronted [] (drop n before)
  unfolding fronted
  unchanged n before = sym (take-append-drop n before)

  module _ (n : ℕ) (before : List T) where
    -- nothing is left to read
    pub listed_all : n ≤ length before → Listed n [] before (Some n) before
    unfolding count_of are_read leading
    listed_all h = record {
      told = let z : n + 0 ≡ n = omega arith in rw (z, le-leb n (length before) h);
      left = rw take-nil (unchanged n before);
    }

    module _ (fs : List (Option T)) where
      -- the next field is not read
      pub listed_wrong : Listed n (None ∷ fs) before None before
      unfolding count_of are_read leading
      listed_wrong = record { told = refl; left = rw take-nil (unchanged n before) }

      -- there is no room for the next field
      pub listed_full : (f : Option T) → length before ≤ n → Listed n (f ∷ fs) before None before
      unfolding count_of
      listed_full f h = record {
        told = rw (lt-leb (n + suc (length fs)) (length before) (omega arith), and-false);
        left = let z : length before - n ≡ 0 = omega arith in rw z (unchanged n before);
      }

      -- the next field is put behind those before it
      module _ (v : T) (h : n < length before) where
        pub next_told : {r : Option ℕ} → r ≡ count_of (n + 1) (length (set before n v)) fs → r ≡ count_of n (length before) (Some v ∷ fs)
        unfolding count_of are_read
        next_told q = let p : n + 1 + length fs ≡ n + suc (length fs) = omega arith in q ∙ simp (length-set, p)

        next_left : (ys : List T)
            → take (n + 1) (set before n v) ++ fronted ys (drop (n + 1) (set before n v))
            ≡ take n before ++ fronted (v ∷ ys) (drop n before)
        unfolding fronted
        next_left ys =
            let p : n + 1 + length ys ≡ n + suc (length ys) = omega arith in
            let first : take (n + 1) (set before n v) ≡ take n before ++ (v ∷ []) = rw add-one (take-suc-set before n v h) in
            let rest : drop (n + 1) (set before n v) ≡ drop (n + 1) before = drop-set-lt (n + 1) before n v (omega arith) in
            rw (first, rest, drop-drop, drop-drop, p) (append_snoc (take n before) v (ys ++ drop (n + suc (length ys)) before))

        pub listed_next : {r : Option ℕ} {after : List T} → Listed (n + 1) fs (set before n v) r after → Listed n (Some v ∷ fs) before r after
        unfolding leading
        listed_next l = record {
          told = next_told l.told;
          left =
              let k : length before - n ≡ suc (length before - (n + 1)) = omega arith in
              l.left ∙ rw (length-set, next_left (take (length before - (n + 1)) (leading fs)), k);
        }

  -- ---- the fields of a list, by how a field is read

  module _ (reads : List ℕ → Option T) (line : List ℕ) where
    pub list_over : (place : ℕ) → length line < place → list_at reads line place ≡ []
    list_over place h = rw (from_behind 32 line place h)

    pub list_next : (place end : ℕ) → place ≤ length line → end ≡ place + index_of 32 (slice place (length line) line) → end ≤ length line
        → list_at reads line place ≡ reads (take (end - place) (drop place line)) ∷ list_at reads line (end + 1)
    list_next place end h e b = rw (field_at 32 line place end h e b)
