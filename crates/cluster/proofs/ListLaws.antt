-- Laws of the lists of an accepted table, each over `members t l`, the list's frames in priority order.
use Prim.Native.Nat.{ℕ, zero, suc, ◌+◌, ◌≤◌, ◌<◌}
use mathlib.Core.Path.{◌≡◌, refl, sym, ◌∙◌, ap}
use mathlib.Core.Logic.{◌↔◌}
use mathlib.Core.Bool.{true, true≢false}
use mathlib.Core.List.{List, [], ◌∷◌}
use native.Mathlib.Decide.{ℕ_discrete}
use native.Mathlib.Nat.{zero-add}
use native.Mathlib.Omega.{arith}
use borrow.Author.Tests.{eqb-true, eq-eqb, ne_eqb}
use lib.Dec.{eqb}
use lib.ListN.{length, get_or}
use Rattle.wire.proofs.Tests.{whether}
use Rattle.cluster.specs.Check.{RightTable}
use Rattle.cluster.specs.Lists.{members_from, members, is_one_of}
use Rattle.cluster.specs.Table.{frame_count, published, member_count, member_list, member_frame, list_count}
use Rattle.cluster.proofs.ListWalk.{turn_in, turn_out}
use Rattle.cluster.proofs.MemberLaws.{member_frame_below, member_published, members_distinct, list_member}

-- a number stands in a list
abbrev pub Stands : List ℕ → ℕ → Type 0
Stands xs x = (i : ℕ) × (i < length xs) × (get_or xs i 0 ≡ x)

stands_later : (x y : ℕ) (xs : List ℕ) → Stands xs x → Stands (y ∷ xs) x
stands_later x y xs w = (suc w.0, omega (arith, w.1), w.2)

one_of_stands : (f : ℕ) (fs : List ℕ) → is_one_of f fs ≡ true → Stands fs f
unfolding is_one_of
one_of_stands f [] e = absurd (true≢false (sym e))
one_of_stands f (g ∷ gs) e =
    whether (eqb g f)
    (λ y. (0, omega arith, eqb-true g f y))
    (λ n. stands_later f g gs (one_of_stands f gs (rw n at e)))

stands_one_of : (f : ℕ) (fs : List ℕ) → Stands fs f → is_one_of f fs ≡ true
unfolding is_one_of
stands_one_of f [] w = absurd (omega (arith, w.1))
stands_one_of f (g ∷ gs) w =
    elim (ℕ_discrete g f) [
      | yes p ↦ rw (eq-eqb g f p)
      | no p ↦ rw (ne_eqb g f p) (stands_one_of f gs (behind w.0 w.1 w.2 p))
    ]
  where
    behind : (i : ℕ) → i < length (g ∷ gs) → get_or (g ∷ gs) i 0 ≡ f → (g ≡ f → ⊥) → Stands gs f
    behind zero b e p = absurd (p e)
    behind (suc i) b e p = (i, omega arith, e)

-- the elements of a list are all different
abbrev pub Different : List ℕ → Type 0
Different xs = (i j : ℕ) → i < length xs → j < length xs → get_or xs i 0 ≡ get_or xs j 0 → i ≡ j

one_more : (x : ℕ) (xs : List ℕ) → ((i : ℕ) → i < length xs → get_or xs i 0 ≡ x → ⊥) → Different xs → Different (x ∷ xs)
one_more x xs new d zero zero a b e = refl
one_more x xs new d zero (suc j) a b e = absurd (new j (omega arith) (sym e))
one_more x xs new d (suc i) zero a b e = absurd (new i (omega arith) e)
one_more x xs new d (suc i) (suc j) a b e = ap suc (d i j (omega arith) (omega arith) e)

-- a frame is that of a member of list l, from member m on and below n
pub record Listed (t : List ℕ) (l m n frame : ℕ) : Type 0 where
  pub member : ℕ
  pub from : m ≤ member
  pub below : member < n
  pub list : member_list t member ≡ l
  pub same : frame ≡ member_frame t member

abbrev pub Each : List ℕ → ℕ → ℕ → ℕ → List ℕ → Type 0
Each t l m n xs = (i : ℕ) → i < length xs → Listed t l m n (get_or xs i 0)

module _ (t : List ℕ) (l : ℕ) where
  sooner : (m n x : ℕ) → Listed t l (suc m) n x → Listed t l m n x
  sooner m n x w =
      record { member = w.member; from = omega arith; below = w.below; list = w.list; same = w.same }

  each_in : (m n : ℕ) (xs : List ℕ) → m < n → member_list t m ≡ l → Each t l (suc m) n xs → Each t l m n (member_frame t m ∷ xs)
  each_in m n xs h p each zero b = record { member = m; from = omega arith; below = h; list = p; same = refl }
  each_in m n xs h p each (suc i) b = sooner m n (get_or xs i 0) (each i (omega arith))

  pub each : (m n : ℕ) → Each t l m (m + n) (members_from t l m n)
  unfolding members_from
  each m zero = λ i b. absurd (omega arith)
  each m (suc n) =
      let end : suc m + n ≡ m + suc n = omega arith in
      let rest : Each t l (suc m) (m + suc n) (members_from t l (suc m) n) = rw end at (each (suc m) n) in
      elim (ℕ_discrete (member_list t m) l) [
        | yes p ↦ rw (turn_in t l m n p) (each_in m (m + suc n) (members_from t l (suc m) n) (omega arith) p rest)
        | no p ↦ rw (turn_out t l m n p) (λ i b. sooner m (m + suc n) (get_or (members_from t l (suc m) n) i 0) (rest i b))
      ]

  stands : (m n k : ℕ) → m ≤ k → k < m + n → member_list t k ≡ l → Stands (members_from t l m n) (member_frame t k)
  stands m zero k a b e = absurd (omega arith)
  stands m (suc n) k a b e =
      elim (ℕ_discrete (member_list t m) l) [
        | yes p ↦ rw (turn_in t l m n p) (elim (ℕ_discrete k m) [
          | yes q ↦ (0, omega arith, ap (member_frame t) (sym q))
          | no q ↦ stands_later (member_frame t k) (member_frame t m) (members_from t l (suc m) n) (stands (suc m) n k (omega arith) (omega arith) e)
        ])
        | no p ↦ rw (turn_out t l m n p) (stands (suc m) n k (before p) (omega arith) e)
      ]
    where
      before : (member_list t m ≡ l → ⊥) → m < k
      before p = elim (ℕ_discrete m k) [
        | yes q ↦ absurd (p (ap (member_list t) q ∙ e))
        | no q ↦ omega arith
      ]

  -- each element of a list is the frame of one of its members
  pub listed : (i : ℕ) → i < length (members t l) → Listed t l 0 (member_count t) (get_or (members t l) i 0)
  unfolding members
  listed i b = rw zero-add at (each 0 (member_count t) i b)

  -- each member of a list stands in it
  pub member_listed : (m : ℕ) → m < member_count t → member_list t m ≡ l → Stands (members t l) (member_frame t m)
  unfolding members
  member_listed m h e = stands 0 (member_count t) m (omega arith) (omega arith) e

-- a frame is in a list exactly when it is the frame of a member of that list
pub in_list : (t : List ℕ) (l f : ℕ)
    → (is_one_of f (members t l) ≡ true) ↔ ((m : ℕ) × (m < member_count t) × (member_list t m ≡ l) × (member_frame t m ≡ f))
in_list t l f = (
  (λ e.
      let s = one_of_stands f (members t l) e in
      let w = listed t l s.0 s.1 in
      (w.member, w.below, w.list, sym w.same ∙ s.2)),
  (λ w. stands_one_of f (members t l) (rw w.3 at (member_listed t l w.0 w.1 w.2))),
)

module _ (t : List ℕ) (ok : RightTable t) (l : ℕ) where
  different : (m n : ℕ) → m + n ≤ member_count t → Different (members_from t l m n)
  unfolding members_from
  different m zero h = λ i j a b e. absurd (omega arith)
  different m (suc n) h =
      elim (ℕ_discrete (member_list t m) l) [
        | yes p ↦ rw (turn_in t l m n p)
            (one_more (member_frame t m) (members_from t l (suc m) n) (new m n h) (different (suc m) n (omega arith)))
        | no p ↦ rw (turn_out t l m n p) (different (suc m) n (omega arith))
      ]
    where
      new : (m n : ℕ) → m + suc n ≤ member_count t → (i : ℕ) → i < length (members_from t l (suc m) n)
          → get_or (members_from t l (suc m) n) i 0 ≡ member_frame t m → ⊥
      new m n h i b e =
          let w = each t l (suc m) n i b in
          omega (
            arith,
            w.from,
            members_distinct t ok w.member m (omega (arith, w.below)) (omega arith) (sym w.same ∙ e),
          )

  -- each element of a list is a frame of the table
  pub listed_below : (i : ℕ) → i < length (members t l) → get_or (members t l) i 0 < frame_count t
  listed_below i b =
      let w = listed t l i b in
      rw w.same (member_frame_below t ok w.member w.below)

  -- the master publishes each element of a list
  pub listed_published : (i : ℕ) → i < length (members t l) → published t (get_or (members t l) i 0) ≡ true
  listed_published i b =
      let w = listed t l i b in
      rw w.same (member_published t ok w.member w.below)

  -- the elements of a list are all different
  pub listed_distinct : (i j : ℕ) → i < length (members t l) → j < length (members t l)
      → get_or (members t l) i 0 ≡ get_or (members t l) j 0 → i ≡ j
  unfolding members
  listed_distinct = different 0 (member_count t) (omega arith)

  -- a list of the table is not empty
  pub list_not_empty : l < list_count t → 0 < length (members t l)
  list_not_empty h =
      let m = list_member t ok l h in
      let w = member_listed t l m.0 m.1 m.2 in
      omega (arith, w.1)
