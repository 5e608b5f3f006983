-- The steps of the judge over plain numbers and lists: the longest member of each list, an entry's longest frame, and what is answered.
use Prim.Native.Nat.{ℕ, suc, ◌+◌, ◌*◌, ◌^◌, ◌≤◌, ◌<◌, max}
use mathlib.Core.Path.{◌≡◌, refl, sym, ◌∙◌}
use mathlib.Core.Bool.{Bool, true, false, cond, ◌&&◌}
use mathlib.Core.List.{List, [], ◌∷◌}
use native.Mathlib.Decide.{ℕ_discrete}
use native.Mathlib.Nat.{mul-le-mul}
use native.Mathlib.Numerals.{add-one}
use native.Mathlib.Omega.{arith}
use borrow.Author.Tests.{eq-eqb, ne_eqb, lt-ltb, le-ltb}
use lib.Dec.{ltb}
use lib.ListN.{length, get_or, set, replicate, length-replicate, length-set}
use lib.Seq.{get_or-set_same, get_or-set_other}
use Rattle.refusal.specs.Answers.{gives, test, first_failing}
use Rattle.refusal.specs.Numbers.{refused, time}
use Rattle.refusal.specs.declared.Refusal.{Refusal}
use Rattle.cluster.specs.Check as checked
use Rattle.cluster.specs.Answers.{behind_table}
use Rattle.cluster.specs.Check.{taken_of}
use Rattle.cluster.specs.Table.{frame_length, member_count, member_list, member_frame, entry_count, entry_kind, entry_target}
use Rattle.cluster.proofs.UsedMarks.{get_d_same}
use Rattle.timing.specs.Judge.{answered, found_of, judge_of, judgement_told, short_told, judge_told}
use Rattle.timing.specs.Slots.{longest_member, entry_bytes, first_short, time_right}
use Rattle.std.specs.Prelude.{Ok, Err}
use Rattle.std.specs.Prelude.{None, Some}
use Rattle.timing.specs.Judge.{Judgement}

-- a product of the two sides of the comparison fits 64 bits
pub product_fits : (a b : ℕ) → a ≤ 9175516 → b < 2 ^ 32 → a * b < 2 ^ 64
product_fits a b h k = omega (arith, mul-le-mul {n₁ = a} {m₁ = b} {n₂ = 9175516} {m₂ = 4294967295} h (omega arith))

-- ---- the longest member of each list

-- sixty numbers are those of the longest member of each list among the first m members
abbrev pub LongestOf : List ℕ → ℕ → List ℕ → Type 0
LongestOf t m ns = (length ns ≡ 60) × ((l : ℕ) → get_or ns l 0 ≡ longest_member t l m)

module _ (t : List ℕ) where
  -- before the first member
  pub none_yet : LongestOf t 0 (replicate {A = ℕ} 60 0)
  unfolding longest_member
  none_yet = (length-replicate {A = ℕ} 60 0, get_d_same {A = ℕ} 60 0)

  pub member_in : (l m : ℕ) → member_list t m ≡ l → longest_member t l (suc m) ≡ max (longest_member t l m) (frame_length t (member_frame t m))
  unfolding longest_member
  member_in l m h = rw (eq-eqb (member_list t m) l h)

  pub member_out : (l m : ℕ) → (member_list t m ≡ l → ⊥) → longest_member t l (suc m) ≡ longest_member t l m
  unfolding longest_member
  member_out l m h = rw (ne_eqb (member_list t m) l h)

  -- the longer of a member and its list's longest one so far is the list's longest
  pub longest_next : (m : ℕ) (ns : List ℕ) (l n : ℕ) → LongestOf t m ns → l ≡ member_list t m → n ≡ frame_length t (member_frame t m)
      → l < 60 → LongestOf t (m + 1) (set ns l (max (get_or ns l 0) n))
  longest_next m ns l n so_far e f b = (simp length-set so_far.0, λ k. rw (add-one m) (by k))
    where
      by : (k : ℕ) → get_or (set ns l (max (get_or ns l 0) n)) k 0 ≡ longest_member t k (suc m)
      by k =
          elim (ℕ_discrete k l) [
            | yes p ↦ rw (p, get_or-set_same ns l (max (get_or ns l 0) n) 0 (omega (arith, so_far.0)), so_far.1 l, f) (sym (member_in l m (sym e)))
            | no d ↦ rw (get_or-set_other ns l k (max (get_or ns l 0) n) 0 d) (so_far.1 k ∙ sym (member_out k m (λ q. d (sym (e ∙ q)))))
          ]

  -- ---- an entry's longest frame

  pub frame_bytes : (e : ℕ) → entry_kind t e ≡ 0 → entry_bytes t e ≡ frame_length t (entry_target t e)
  unfolding entry_bytes
  frame_bytes e k = rw k

  pub list_bytes : (e : ℕ) → entry_kind t e ≡ 1 → entry_bytes t e ≡ longest_member t (entry_target t e) (member_count t)
  unfolding entry_bytes
  list_bytes e k = rw k

  pub other_bytes : (e : ℕ) → (entry_kind t e ≡ 0 → ⊥) → (entry_kind t e ≡ 1 → ⊥) → entry_bytes t e ≡ 8
  unfolding entry_bytes
  other_bytes e a b = rw (ne_eqb (entry_kind t e) 0 a, ne_eqb (entry_kind t e) 1 b)

  -- ---- what is answered

  module _ (tick bit : ℕ) where
    pub table_refused : (r : Refusal) → taken_of t ≡ Err r → judge_of t tick bit ≡ Err r
    unfolding judge_of
    table_refused r h = rw h

    pub time_refused : taken_of t ≡ Ok tt → (time_right tick && time_right bit) ≡ false → judge_of t tick bit ≡ Err (refused time)
    unfolding judge_of
    time_refused h b = rw (h, b)

    pub short_told_lem : taken_of t ≡ Ok tt → (time_right tick && time_right bit) ≡ true → first_short t tick bit < entry_count t
        → judge_of t tick bit ≡ Ok (Some (first_short t tick bit))
    unfolding judge_of found_of
    short_told_lem h b l = rw (h, b, lt-ltb (first_short t tick bit) (entry_count t) l)

    pub none_short : taken_of t ≡ Ok tt → (time_right tick && time_right bit) ≡ true → entry_count t ≤ first_short t tick bit
        → judge_of t tick bit ≡ Ok None
    unfolding judge_of found_of
    none_short h b l = rw (h, b, le-ltb (first_short t tick bit) (entry_count t) l)

    pub found_told : taken_of t ≡ Ok tt → (time_right tick && time_right bit) ≡ true
        → judge_of t tick bit ≡ found_of t (first_short t tick bit)
    unfolding judge_of
    found_told h b = rw (h, b)

    -- what is answered is told in the paper's terms
    pub judge_told_lem : (r : Judgement) → r ≡ judge_of t tick bit → (r ≡ judge_of t tick bit) × (judgement_told r ≡ judge_told t tick bit)
    unfolding judge_of judge_told found_of first_failing
    judge_told_lem r e = (e, rw e (by (taken_of t)))
      where
        found : (b : Bool) → judgement_told (cond b (Ok (Some (first_short t tick bit))) (Ok None)) ≡ gives (cond b (first_short t tick bit ∷ []) [])
        found true = refl
        found false = refl

        times : (b : Bool) → judgement_told (cond b (found_of t (first_short t tick bit)) (Err (refused time)))
            ≡ first_failing (test 13 b ∷ []) (short_told t (first_short t tick bit))
        times true = found (ltb (first_short t tick bit) (entry_count t))
        times false = refl

        by : (v : checked.Verdict)
            → judgement_told (answered v (cond (time_right tick && time_right bit) (found_of t (first_short t tick bit)) (Err (refused time))))
            ≡ behind_table v (first_failing (test 13 (time_right tick && time_right bit) ∷ []) (short_told t (first_short t tick bit)))
        by (Ok tt) = times (time_right tick && time_right bit)
        by (Err q) = refl
