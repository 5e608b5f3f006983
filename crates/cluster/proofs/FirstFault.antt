-- What a refusal says: every word before the position is there and right, and the one at the position is not.
use Prim.Native.Nat.{ℕ, zero, suc, ◌+◌, ◌≤◌, ◌<◌}
use mathlib.Core.Path.{◌≡◌, refl, sym, ◌∙◌, ap}
use mathlib.Core.Bool.{Bool, true, false, ◌&&◌}
use mathlib.Core.List.{List, [], ◌∷◌}
use mathlib.Core.Logic.{◌⊎◌, inl, inr, ⊎_elim}
use native.Mathlib.Omega.{arith}
use borrow.Author.Tests.{ltb-true, lt-ltb}
use lib.Dec.{ltb}
use lib.ListN.{length, get_or}
use Rattle.refusal.specs.declared.Refusal.{Refusal}
use Rattle.refusal.specs.Numbers.{table, refused_at}
use Rattle.wire.proofs.Tests.{whether, and_left, and_right}
use Rattle.signal.proofs.Inside.{order}
use Rattle.cluster.specs.Check.{fault, faults, then, surplus, judged, RightTable}
use Rattle.cluster.specs.Right.{all_placed, words_right}
use Rattle.cluster.specs.Table.{size}
use Rattle.cluster.proofs.Accepted.{words, faults_true, none_missing, then_first, AllTrue}
use Rattle.std.specs.Prelude.{Ok, Err}
use Rattle.cluster.specs.Check.{Verdict}

all_true : (bs : List Bool) → AllTrue bs → (j : ℕ) → j < length bs → get_or bs j false ≡ true
all_true [] a j h = absurd (omega arith)
all_true (b ∷ bs) a zero h = a.0
all_true (b ∷ bs) a (suc j) h = all_true bs a.1 j (omega arith)

then_refused : (v w : Verdict) (r : Refusal) → then v w ≡ Err r → (v ≡ Err r) ⊎ ((v ≡ Ok tt) × (w ≡ Err r))
then_refused (Ok tt) w r h = inr (refl, h)
then_refused (Err x) w r h = inl h

by_verdict : (v : Verdict) → ((r : Refusal) → v ≡ Err r → ⊥) → v ≡ Ok tt
by_verdict (Ok tt) h = refl
by_verdict (Err r) h = absurd (h r refl)

-- the words from position i on, of which k are there and right, and the next is missing or wrong
pub record FirstOf (t : List ℕ) (i : ℕ) (rights : List Bool) (r : Refusal) : Type 0 where
  pub count : ℕ
  pub place : r ≡ refused_at table (i + count)
  pub within : count < length rights
  pub before : (j : ℕ) → j < count → (i + j < length t) × (get_or rights j false ≡ true)
  pub there : (length t ≡ i + count) ⊎ (get_or rights count true ≡ false)

module _ (t : List ℕ) where
  -- the first of the words is missing or wrong
  here : (i : ℕ) (right : Bool) (rights : List Bool) (r : Refusal) → i ≤ length t → fault i ≡ Err r
      → (ltb i (length t) && right) ≡ false → FirstOf t i (right ∷ rights) r
  here i right rights r a e h = record {
    count = 0;
    place = let z : i + 0 ≡ i = omega arith in rw z (cc);
    within = omega arith;
    before = λ j b. absurd (omega arith);
    there = order i (length t) (λ b. inr (rw (lt-ltb i (length t) b) at h)) (λ b. inl (omega arith));
  }

  -- the first of the words is there and right
  behind : (i : ℕ) (right : Bool) (rights : List Bool) (r : Refusal) → i < length t → right ≡ true
      → FirstOf t (suc i) rights r → FirstOf t i (right ∷ rights) r
  behind i right rights r b e f =
      let z : suc i + f.count ≡ i + suc f.count = omega arith in
      record {
        count = suc f.count;
        place = rw z at f.place;
        within = omega (arith, f.within);
        before = earlier;
        there = ⊎_elim (λ l. inl (omega arith)) (λ w. inr w) f.there;
      }
    where
      earlier : (j : ℕ) → j < suc f.count → (i + j < length t) × (get_or (right ∷ rights) j false ≡ true)
      earlier zero l = (omega arith, e)
      earlier (suc j) l = (omega (arith, (f.before j (omega arith)).0), (f.before j (omega arith)).1)

  first_of : (i : ℕ) (rights : List Bool) (r : Refusal) → i ≤ length t → faults t i rights ≡ Err r → FirstOf t i rights r
  unfolding faults
  first_of i [] r a h = absurd (let z : ◌≡◌ {A = ℕ} 0 1 = cc in omega arith)
  first_of i (right ∷ rights) r a h =
      whether (ltb i (length t) && right)
      (λ e. let b : i < length t = ltb-true i (length t) (and_left (ltb i (length t)) right e) in
      behind i right rights r b (and_right (ltb i (length t)) right e) (first_of (suc i) rights r b (rw e at h)))
      (λ e. here i right rights r a (rw e at h) e)

  -- ---- the whole table

  -- the word at a position is missing, wrong or surplus; where a signal has no placement, the place behind the placements counts as a word
  abbrev pub AtFault : ℕ → Type 0
  AtFault p =
      ((length t ≡ p) × (p < length (words_right t)))
      ⊎ ((p < length (words_right t)) × (get_or (words_right t) p true ≡ false))
      ⊎ ((p ≡ size t) × (p < length t) × (all_placed t ≡ true))

  -- "the position of the first word that is wrong, missing or surplus"
  pub record FirstFault (r : Refusal) : Type 0 where
    pub number : r.number ≡ table
    pub before : (j : ℕ) → j < r.place → (j < length t) × (j < length (words_right t)) × (get_or (words_right t) j false ≡ true)
    pub fault : AtFault r.place
    pub within : r.place ≤ length t

  -- a word that is due is missing or wrong
  in_words : (r : Refusal) → FirstOf t 0 (words_right t) r → FirstFault r
  in_words r f =
      let p : r.place ≡ f.count = ap (λ x. x.place) f.place ∙ omega arith in
      let l : f.count < length (words_right t) = f.within in
      let b : (j : ℕ) → j < f.count → j < length t = (λ j h. omega (arith, (f.before j h).0)) in
      record {
        number = ap (λ x. x.number) f.place;
        before = λ j h. (b j (omega arith), omega arith, (f.before j (omega arith)).1);
        fault = rw p (⊎_elim (λ m. inl (omega arith, l)) (λ w. inr (inl (l, w))) f.there);
        within = rw p (reached f.count b);
      }
    where
      reached : (k : ℕ) → ((j : ℕ) → j < k → j < length t) → k ≤ length t
      reached zero h = omega arith
      reached (suc k) h = h k (omega arith)

  -- a word is surplus
  behind_words : (r : Refusal) → faults t 0 (words_right t) ≡ Ok tt → surplus t ≡ Err r → FirstFault r
  unfolding surplus
  behind_words r a h =
      whether (ltb (size t) (length t))
      (λ e. let b : size t < length t = ltb-true (size t) (length t) e in
      let s : fault (size t) ≡ Err r = rw e at h in
      let p : r.place ≡ size t = cc in
      let placed = none_missing t a in
      let due : length (words_right t) ≡ size t = words t placed in
      record {
        number = cc;
        before = λ j l. (omega arith, omega arith, all_true (words_right t) (faults_true t 0 (words_right t) a) j (omega arith));
        fault = inr (inr (p, omega arith, placed));
        within = omega arith;
      })
      (λ e. let s : (Ok tt) ≡ Err r = rw e at h in absurd (let z : ◌≡◌ {A = ℕ} 0 1 = cc in omega arith))

  pub first_fault : (r : Refusal) → judged t ≡ Err r → FirstFault r
  unfolding judged
  first_fault r h =
      ⊎_elim
      (λ e. in_words r (first_of 0 (words_right t) r (omega arith) e))
      (λ e. behind_words r e.0 e.1)
      (then_refused (faults t 0 (words_right t)) (surplus t) r h)

  -- of an accepted table every word is right
  pub words_right_lem : RightTable t → (j : ℕ) → j < size t → get_or (words_right t) j false ≡ true
  unfolding judged
  words_right_lem ok j h =
      let a = then_first (faults t 0 (words_right t)) (surplus t) ok in
      all_true (words_right t) (faults_true t 0 (words_right t) a) j (omega (arith, words t (none_missing t a)))

  -- and conversely: a table of the right length of which every word is right is accepted
  pub all_right : length t ≡ size t → all_placed t ≡ true → ((j : ℕ) → j < size t → get_or (words_right t) j true ≡ true) → RightTable t
  all_right e placed right = by_verdict (judged t) (λ r h. never r.place (first_fault r h).fault)
    where
      never : (p : ℕ) → AtFault p → ⊥
      never p =
          ⊎_elim
          (λ m. omega (arith, m, words t placed))
          (⊎_elim
          (λ w. let z : ◌≡◌ {A = Bool} true false = sym (right p (omega (arith, w.0, words t placed))) ∙ w.1 in
          let n : ◌≡◌ {A = ℕ} 0 1 = cc in omega arith)
          (λ l. omega (arith, l)))
