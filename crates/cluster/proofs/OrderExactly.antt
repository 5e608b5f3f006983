-- What comes first and what comes next, in the order of the records: the entries of a schedule and the members of a list.
use Prim.Native.Nat.{ℕ, zero, suc, ◌+◌, ◌-◌, ◌≤◌, ◌<◌}
use mathlib.Core.Path.{◌≡◌, refl, sym, ◌∙◌, ap}
use mathlib.Core.Bool.{Bool, true}
use mathlib.Core.List.{List, ◌∷◌}
use mathlib.Core.Logic.{◌↔◌, ◌≢◌, ◌⊎◌, inl, inr, ⊎_elim}
use native.Mathlib.Decide.{ℕ_discrete}
use native.Mathlib.Numerals.{add-one}
use native.Mathlib.Omega.{arith}
use borrow.Author.Tests.{eqb-true, eqb-false, eq-eqb}
use lib.Dec.{eqb}
use lib.ListN.{length, get_or}
use Rattle.signal.proofs.Inside.{order}
use Rattle.cluster.specs.Lists.{first_from, first_entry, next_entry, members_from, members, next_member}
use Rattle.cluster.specs.Table.{placement_count, word, frame_count, signal_count, member_count, member_list, member_frame, entry_count}
use Rattle.cluster.specs.Table.{entry_schedule}
use Rattle.cluster.proofs.InWords.{M, E, list_word, member_word, schedule_word}
use Rattle.cluster.proofs.ListLaws.{Each, each}
use Rattle.cluster.proofs.ListWalk.{turn_in, turn_out}
use Rattle.cluster.proofs.NextEntry.{next_behind, next_first}
use Rattle.cluster.proofs.ScheduleLaws.{first_entry_least}
use Rattle.cluster.proofs.Searching.{first_from_lem, first_within, first_holds, first_before, first_least}

-- a search finds a number exactly where it is the least, from k on, with the number looked for
found_exactly : (number : ℕ → ℕ) (x k n d : ℕ) → d < k + n
    → (first_from (λ j. eqb (number j) x) k n ≡ d) ↔ ((k ≤ d) × (number d ≡ x) × ((j : ℕ) → k ≤ j → j < d → number j ≢ x))
found_exactly number x k n d b =
    let test : ℕ → Bool = (λ j. eqb (number j) x) in (
      (λ e.
          let holds : test d ≡ true = rw e at (first_holds test k n (omega arith)) in (
            omega (arith, first_from_lem test k n),
            eqb-true (number d) x holds,
            (λ j a c. eqb-false (number j) x (first_before test k n j a (omega arith))),
          )),
      (λ w.
          let high : first_from test k n ≤ d = first_least test k n d w.0 (eq-eqb (number d) x w.1) in
          order (first_from test k n) d
          (λ c. absurd (w.2 (first_from test k n) (first_from_lem test k n) c
          (eqb-true (number (first_from test k n)) x (first_holds test k n (omega arith)))))
          (λ c. omega arith)),
    )

-- and it ends behind the numbers exactly where none of them is the one looked for
none_exactly : (number : ℕ → ℕ) (x k n : ℕ)
    → (first_from (λ j. eqb (number j) x) k n ≡ k + n) ↔ ((j : ℕ) → k ≤ j → j < k + n → number j ≢ x)
none_exactly number x k n =
    let test : ℕ → Bool = (λ j. eqb (number j) x) in (
      (λ e j a b. eqb-false (number j) x (first_before test k n j a (omega arith))),
      (λ none.
          order (first_from test k n) (k + n)
          (λ b. absurd (none (first_from test k n) (first_from_lem test k n) b (eqb-true (number (first_from test k n)) x (first_holds test k n b))))
          (λ b. omega (arith, first_within test k n))),
    )

module _ (t : List ℕ) where
  -- ---- the entries of a schedule

  -- entry d is the first with schedule number n
  abbrev pub FirstOf : ℕ → ℕ → Type 0
  FirstOf n d = (d < E t) × (schedule_word t d ≡ n) × ((c : ℕ) → c < d → schedule_word t c ≢ n)

  -- a schedule's first entry is the least with its number
  pub first_entry_exactly : (n d : ℕ) → d < E t → (first_entry t n ≡ d) ↔ FirstOf n d
  unfolding first_entry entry_count entry_schedule frame_count signal_count placement_count member_count word
  first_entry_exactly n d b =
      let found = found_exactly (schedule_word t) n 0 (E t) d (omega arith) in (
        (λ e. let w = found.0 e in (b, w.1, λ c l. w.2 c (omega arith) l)),
        (λ w. found.1 (omega arith, w.1, λ c _ l. w.2 c l)),
      )

  -- where no entry has the number, the number of entries is told
  pub first_entry_none : (n : ℕ) → (first_entry t n ≡ E t) ↔ ((e : ℕ) → e < E t → schedule_word t e ≢ n)
  unfolding first_entry entry_count entry_schedule frame_count signal_count placement_count member_count word
  first_entry_none n =
      let none = none_exactly (schedule_word t) n 0 (E t) in (
        (λ h e b. none.0 (omega arith) e (omega arith) (omega arith)),
        (λ h. omega (arith, none.1 (λ e _ b. h e (omega arith)))),
      )

  -- "the next entry follows, cyclically": the one behind where that has the same schedule number, otherwise the schedule's first
  pub next_entry_exactly : (e d : ℕ) → e < E t
      → (next_entry t e ≡ d)
      ↔ (((e + 1 < E t) × (schedule_word t (e + 1) ≡ schedule_word t e) × (d ≡ e + 1))
      ⊎ ((e + 1 < E t → schedule_word t (e + 1) ≢ schedule_word t e) × FirstOf (schedule_word t e) d))
  unfolding entry_count entry_schedule frame_count signal_count placement_count member_count word
  next_entry_exactly e d b =
      order (e + 1) (E t)
      (λ l. elim (ℕ_discrete (schedule_word t (e + 1)) (schedule_word t e)) [
        | yes p ↦ inside l p
        | no p ↦ last (λ c. p)
      ])
      (λ l. last (λ c. absurd (omega arith)))
    where
      inside : e + 1 < E t → schedule_word t (e + 1) ≡ schedule_word t e
          → (next_entry t e ≡ d)
          ↔ (((e + 1 < E t) × (schedule_word t (e + 1) ≡ schedule_word t e) × (d ≡ e + 1))
          ⊎ ((e + 1 < E t → schedule_word t (e + 1) ≢ schedule_word t e) × FirstOf (schedule_word t e) d))
      inside l p =
          let next : next_entry t e ≡ e + 1 =
          next_behind t e (omega arith) (ap (entry_schedule t) (sym (add-one e)) ∙ p) ∙ sym (add-one e) in
          ((λ h. inl (l, p, sym h ∙ next)), ⊎_elim (λ w. next ∙ sym w.2) (λ w. absurd (w.0 l p)))

      last : (e + 1 < E t → schedule_word t (e + 1) ≢ schedule_word t e)
          → (next_entry t e ≡ d)
          ↔ (((e + 1 < E t) × (schedule_word t (e + 1) ≡ schedule_word t e) × (d ≡ e + 1))
          ⊎ ((e + 1 < E t → schedule_word t (e + 1) ≢ schedule_word t e) × FirstOf (schedule_word t e) d))
      last n =
          let next : next_entry t e ≡ first_entry t (schedule_word t e) =
          next_first t e (λ l q. n (omega arith) (ap (entry_schedule t) (add-one e) ∙ q)) in
          let low = first_entry_least t (schedule_word t e) e refl in (
            (λ h. inr (n, (first_entry_exactly (schedule_word t e) d (omega arith)).0 (sym next ∙ h))),
            ⊎_elim
                (λ w. absurd (n w.0 w.1))
                (λ w. next ∙ (first_entry_exactly (schedule_word t e) d w.1.0).1 w.1),
          )

  -- ---- the members of a list

  -- the first member of a list from member m on is the least there with its number
  pub next_member_exactly : (l m d : ℕ) → d < M t
      → (next_member t l m ≡ d) ↔ ((m ≤ d) × (list_word t d ≡ l) × ((k : ℕ) → m ≤ k → k < d → list_word t k ≢ l))
  unfolding next_member member_count member_list frame_count signal_count placement_count word
  next_member_exactly l m d b = found_exactly (list_word t) l m (M t - m) d (omega arith)

  -- where there is none, the number of members is told
  pub next_member_none : (l m : ℕ) → m ≤ M t → (next_member t l m ≡ M t) ↔ ((k : ℕ) → m ≤ k → k < M t → list_word t k ≢ l)
  unfolding next_member member_count member_list frame_count signal_count placement_count word
  next_member_none l m b =
      let none = none_exactly (list_word t) l m (M t - m) in (
        (λ h k a c. none.0 (omega arith) k a (omega arith)),
        (λ h. omega (arith, none.1 (λ k a c. h k a (omega arith)))),
      )

  -- x is the frame of a member of list l and y that of a later one, from member m on and below n
  abbrev Ordered : ℕ → ℕ → ℕ → ℕ → ℕ → Type 0
  Ordered l m n x y =
      (a : ℕ) × (b : ℕ) × (m ≤ a) × (a < b) × (b < n)
      × (member_list t a ≡ l) × (member_list t b ≡ l) × (x ≡ member_frame t a) × (y ≡ member_frame t b)

  module _ (l : ℕ) where
    sooner : (m n x y : ℕ) → Ordered l (suc m) n x y → Ordered l m n x y
    sooner m n x y w = (w.0, w.1, omega (arith, w.2), w.3, w.4, w.5, w.6, w.7, w.8)

    abbrev AllOrdered : ℕ → ℕ → List ℕ → Type 0
    AllOrdered m n xs = (i j : ℕ) → i < j → j < length xs → Ordered l m n (get_or xs i 0) (get_or xs j 0)

    one_more : (m n : ℕ) (xs : List ℕ) → member_list t m ≡ l → Each t l (suc m) n xs → AllOrdered (suc m) n xs
        → AllOrdered m n (member_frame t m ∷ xs)
    one_more m n xs p e all i zero b h = absurd (omega arith)
    one_more m n xs p e all zero (suc j) b h =
        let w = e j (omega arith) in (m, w.member, omega arith, w.from, w.below, p, w.list, refl, w.same)
    one_more m n xs p e all (suc i) (suc j) b h = sooner m n (get_or xs i 0) (get_or xs j 0) (all i j (omega arith) (omega arith))

    none_ordered : (m : ℕ) → AllOrdered m (m + 0) (members_from t l m 0)
    unfolding members_from
    none_ordered m i j b h = absurd (omega arith)

    turn_ordered : (m n : ℕ) → AllOrdered (suc m) (suc m + n) (members_from t l (suc m) n) → AllOrdered m (m + suc n) (members_from t l m (suc n))
    turn_ordered m n all =
        let xs = members_from t l (suc m) n in
        let end : suc m + n ≡ m + suc n = omega arith in
        let rest : AllOrdered (suc m) (m + suc n) xs = rw end at all in
        let listed : Each t l (suc m) (m + suc n) xs = rw end at (each t l (suc m) n) in
        elim (ℕ_discrete (member_list t m) l) [
          | yes p ↦ rw (turn_in t l m n p) (one_more m (m + suc n) xs p listed rest)
          | no p ↦ rw (turn_out t l m n p) (λ i j b h. sooner m (m + suc n) (get_or xs i 0) (get_or xs j 0) (rest i j b h))
        ]

    all_ordered : (m n : ℕ) → AllOrdered m (m + n) (members_from t l m n)
    all_ordered m zero = none_ordered m
    all_ordered m (suc n) = turn_ordered m n (all_ordered (suc m) n)

  -- "Member order is priority order": of two frames of a list the one ahead is that of the earlier member
  pub members_in_order : (l i j : ℕ) → i < j → j < length (members t l)
      → (a : ℕ) × (b : ℕ) × (a < b) × (b < M t)
      × (list_word t a ≡ l) × (list_word t b ≡ l) × (get_or (members t l) i 0 ≡ member_word t a) × (get_or (members t l) j 0 ≡ member_word t b)
  unfolding members member_count member_list member_frame frame_count signal_count placement_count word
  members_in_order l i j b h =
      let w = all_ordered l 0 (M t) i j b h in
      (w.0, w.1, w.3, omega (arith, w.4), w.5, w.6, w.7, w.8)
