-- The member that a frame is, and the frames ahead of a frame in its list.
use Prim.Native.Nat.{ℕ, zero, suc, ◌+◌, ◌-◌, ◌≤◌, ◌<◌}
use mathlib.Core.Path.{◌≡◌, refl, sym, ◌∙◌, ap}
use mathlib.Core.Logic.{◌↔◌}
use mathlib.Core.List.{List, ◌∷◌, ◌++◌}
use native.Mathlib.Decide.{ℕ_discrete}
use native.Mathlib.Omega.{arith}
use borrow.Author.Tests.{eqb-true, eq-eqb}
use lib.Dec.{eqb}
use lib.ListN.{length, get_or, take, length-append}
use lib.Seq.{take_at, get_or_at}
use Rattle.cluster.specs.Check.{RightTable}
use Rattle.cluster.specs.Lists.{members_from, members, member_of, frames_ahead}
use Rattle.cluster.specs.Table.{member_count, member_list, member_frame}
use Rattle.cluster.proofs.ListLaws.{listed, listed_distinct}
use Rattle.cluster.proofs.ListWalk.{turn_in, turn_out}
use Rattle.cluster.proofs.MemberLaws.{members_distinct}
use Rattle.cluster.proofs.Searching.{first_holds, first_least, first_within}

-- the members of a list, first some and then the others
members_parts : (t : List ℕ) (l m a b : ℕ) → members_from t l m (a + b) ≡ members_from t l m a ++ members_from t l (m + a) b
unfolding members_from
members_parts t l m zero b =
    let e : 0 + b ≡ b = omega arith in let f : m + 0 ≡ m = omega arith in rw (e, f)
members_parts t l m (suc a) b =
    let e : suc a + b ≡ suc (a + b) = omega arith in
    let f : m + suc a ≡ suc m + a = omega arith in
    elim (ℕ_discrete (member_list t m) l) [
      | yes p ↦ rw (e, f, turn_in t l m (a + b) p, turn_in t l m a p, members_parts t l (suc m) a b)
      | no p ↦ rw (e, f, turn_out t l m (a + b) p, turn_out t l m a p, members_parts t l (suc m) a b)
    ]

module _ (t : List ℕ) (f : ℕ) (h : member_of t f < member_count t) where
  -- a frame in a list is that of its member
  pub member_of_frame : member_frame t (member_of t f) ≡ f
  unfolding member_of
  member_of_frame =
      eqb-true (member_frame t (member_of t f)) f (first_holds (λ m. eqb (member_frame t m) f) 0 (member_count t) (omega arith))

  -- the frames ahead of a frame, the frame, and those behind it are its list
  pub ahead_parts : (behind : List ℕ) × (members t (member_list t (member_of t f)) ≡ frames_ahead t f ++ (f ∷ behind))
  unfolding members frames_ahead
  ahead_parts =
      let k = member_of t f in
      let l = member_list t k in
      let n = member_count t - suc k in
      let e : member_count t ≡ k + suc n = omega arith in
      let z : 0 + k ≡ k = omega arith in
      let own : members_from t l (0 + k) (suc n) ≡ f ∷ members_from t l (suc k) n = rw (z, turn_in t l k n refl, member_of_frame) in (
        members_from t l (suc k) n,
        ap (members_from t l 0) e ∙ members_parts t l 0 k (suc n) ∙ ap (λ (r : List ℕ). members_from t l 0 k ++ r) own,
      )

module _ (t : List ℕ) (ok : RightTable t) (f : ℕ) (h : member_of t f < member_count t) where
  abbrev list : List ℕ
  list = members t (member_list t (member_of t f))

  -- the frames ahead are the only ones in front of the frame
  pub same_ahead : (fs gs : List ℕ) → list ≡ fs ++ (f ∷ gs) → fs ≡ frames_ahead t f
  same_ahead fs gs e =
      let cs = frames_ahead t f in
      let ds = (ahead_parts t f h).0 in
      let q = (ahead_parts t f h).1 in
      let la : length fs < length list = rw e (omega (arith, length-append fs (f ∷ gs))) in
      let lc : length cs < length list = rw q (omega (arith, length-append cs (f ∷ ds))) in
      let ga : get_or list (length fs) 0 ≡ f = rw e (get_or_at fs f gs 0 (length fs) refl) in
      let gc : get_or list (length cs) 0 ≡ f = rw q (get_or_at cs f ds 0 (length cs) refl) in
      let same : length cs ≡ length fs =
      listed_distinct t ok (member_list t (member_of t f)) (length cs) (length fs) lc la (gc ∙ sym ga) in
      sym (take_at fs (f ∷ gs) (length fs) refl) ∙ ap (take (length fs)) (sym e ∙ q) ∙ take_at cs (f ∷ ds) (length fs) same

-- a frame is found at its member or before it
found : (t : List ℕ) (f m : ℕ) → member_frame t m ≡ f → member_of t f ≤ m
unfolding member_of
found t f m e = first_least (λ k. eqb (member_frame t k) f) 0 (member_count t) m (omega arith) (eq-eqb (member_frame t m) f e)

-- a frame is in a list exactly when it is the frame of some member
pub member_exactly : (t : List ℕ) (f : ℕ) → (member_of t f < member_count t) ↔ ((m : ℕ) × (m < member_count t) × (member_frame t m ≡ f))
member_exactly t f = (λ h. (member_of t f, h, member_of_frame t f h), λ w. omega (arith, w.1, found t f w.0 w.2))

-- and where it is in none the number of members is told
pub member_none : (t : List ℕ) (f : ℕ) → (member_of t f < member_count t → ⊥) → member_of t f ≡ member_count t
unfolding member_of
member_none t f n =
    elim (ℕ_discrete (member_of t f) (member_count t)) [
      | yes p ↦ p
      | no p ↦ absurd (n (omega (arith, p, first_within (λ m. eqb (member_frame t m) f) 0 (member_count t))))
    ]

-- each member of the table is found by its frame
pub member_of_lem : (t : List ℕ) → RightTable t → (m : ℕ) → m < member_count t → member_of t (member_frame t m) ≡ m
member_of_lem t ok m h =
    let f = member_frame t m in
    let b : member_of t f < member_count t = omega (arith, found t f m refl) in
    members_distinct t ok (member_of t f) m b h (member_of_frame t f b)

-- a frame that stands in a list is the frame of a member of that list
pub listed_member : (t : List ℕ) → RightTable t → (l f : ℕ) (ahead behind : List ℕ) → members t l ≡ ahead ++ (f ∷ behind)
    → (member_of t f < member_count t) × (member_list t (member_of t f) ≡ l)
listed_member t ok l f ahead behind e =
    let b : length ahead < length (members t l) = rw e (omega (arith, length-append ahead (f ∷ behind))) in
    let w = listed t l (length ahead) b in
    let g : get_or (members t l) (length ahead) 0 ≡ f = rw e (get_or_at ahead f behind 0 (length ahead) refl) in
    let q : member_of t f ≡ w.member = ap (member_of t) (sym g ∙ w.same) ∙ member_of_lem t ok w.member w.below in
    (rw q w.below, ap (member_list t) q ∙ w.list)
