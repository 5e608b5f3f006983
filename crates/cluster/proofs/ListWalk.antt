-- The frames of a list from a member on, and how a walk over the members, or from one member of the list to the next, meets them all.
use Prim.Native.Nat.{ℕ, zero, suc, ◌+◌, ◌-◌, ◌≤◌, ◌<◌}
use mathlib.Core.Path.{◌≡◌, refl, sym, ◌∙◌}
use mathlib.Core.Bool.{Bool}
use mathlib.Core.List.{List, [], ◌∷◌}
use native.Mathlib.Decide.{ℕ_discrete}
use native.Mathlib.Nat.{sub-zero}
use native.Mathlib.Omega.{arith}
use borrow.Author.Tests.{eq-eqb, ne_eqb}
use lib.Dec.{eqb}
use Rattle.cluster.specs.Lists.{first_from, members_from, members, next_member}
use Rattle.cluster.specs.Table.{member_count, member_list, member_frame}
use Rattle.cluster.proofs.Searching.{turn_right, turn_wrong, first_from_lem}

-- the frames of list l from member m on
unfoldable pub left_from : List ℕ → ℕ → ℕ → List ℕ
left_from t l m = members_from t l m (member_count t - m)

module _ (t : List ℕ) (l : ℕ) where
  pub turn_in : (m n : ℕ) → member_list t m ≡ l → members_from t l m (suc n) ≡ member_frame t m ∷ members_from t l (suc m) n
  unfolding members_from
  turn_in m n h = rw (eq-eqb (member_list t m) l h)

  pub turn_out : (m n : ℕ) → (member_list t m ≡ l → ⊥) → members_from t l m (suc n) ≡ members_from t l (suc m) n
  unfolding members_from
  turn_out m n h = rw (ne_eqb (member_list t m) l h)

  abbrev of_list : ℕ → Bool
  of_list m = eqb (member_list t m) l

  none : (m n : ℕ) → m + n ≤ first_from of_list m n → members_from t l m n ≡ []
  unfolding members_from
  none m zero h = refl
  none m (suc n) h =
      elim (ℕ_discrete (member_list t m) l) [
        | yes p ↦ absurd (omega (arith, turn_right of_list m n (eq-eqb (member_list t m) l p)))
        | no p ↦
            turn_out m n p
            ∙ none (suc m) n (omega (arith, turn_wrong of_list m n (ne_eqb (member_list t m) l p)))
      ]

  some : (m n k : ℕ) → first_from of_list m n ≡ k → k < m + n
      → members_from t l m n ≡ member_frame t k ∷ members_from t l (suc k) (m + n - suc k)
  unfolding first_from
  some m zero k e h = absurd (omega arith)
  some m (suc n) k e h =
      elim (ℕ_discrete (member_list t m) l) [
        | yes p ↦
            let same : k ≡ m = sym e ∙ turn_right of_list m n (eq-eqb (member_list t m) l p) in
            let rest : m + suc n - suc m ≡ n = omega arith in
            rw (same, rest) (turn_in m n p)
        | no p ↦
            let end : suc m + n ≡ m + suc n = omega arith in
            let later = sym (turn_wrong of_list m n (ne_eqb (member_list t m) l p)) ∙ e in
            turn_out m n p ∙ (rw end at (some (suc m) n k later (omega arith)))
      ]

  -- the next member of the list is not before the place where the search begins
  pub next_member_from : (m : ℕ) → m ≤ next_member t l m
  unfolding next_member
  next_member_from m = first_from_lem of_list m (member_count t - m)

  -- at the start all frames of the list are left
  pub left_all : left_from t l 0 ≡ members t l
  unfolding left_from members
  left_all = rw sub-zero

  -- the first frame left is that of the next member, and behind it the frames behind that member are left
  pub left_next : (m : ℕ) → next_member t l m < member_count t
      → left_from t l m ≡ member_frame t (next_member t l m) ∷ left_from t l (suc (next_member t l m))
  unfolding left_from next_member
  left_next m h =
      let end : m + (member_count t - m) ≡ member_count t = omega (arith, next_member_from m) in
      rw end at (some m (member_count t - m) (next_member t l m) refl (omega arith))

  -- where there is no next member, no frame is left
  pub left_none : (m : ℕ) → member_count t ≤ next_member t l m → left_from t l m ≡ []
  unfolding left_from next_member
  left_none m h = none m (member_count t - m) (omega (arith, next_member_from m))
