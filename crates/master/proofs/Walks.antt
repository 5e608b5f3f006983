-- The walks over the members of a table: the search in a list for a pending frame, and the count of its pending frames.
use Rattle.std.proofs.Common.{ℕ, zero, suc, ◌+◌, ◌≤◌, ◌<◌, ◌≡◌, ◌∙◌, refl, Bool, true, false, ◌&&◌, List, length, get_or, eqb, ap, arith, Option, Some, None, MatchOption}
use mathlib.Core.Bool.{true≢false, false≢true}
use native.Mathlib.Decide.{ℕ_discrete}
use native.Mathlib.Numerals.{add-one}
use Rattle.std.specs.List.{filter, range_with_len}
use Rattle.transport.proofs.Tests.{whether}
use Rattle.cluster.specs.Table.{member_list, member_frame}
use Rattle.cluster.specs.Lists.{members_from}
use Rattle.master.specs.declared.state.Opened.TheVariants.{Nothing, Frame}
use Rattle.master.specs.Tick.{first_pending}
use Rattle.master.specs.Ahead.{pending_count}

module _ (t : List ℕ) (bits : List Bool) (l : ℕ) where
  -- a member is of the list and its frame is pending
  abbrev pub Pends : ℕ → Bool
  Pends m = eqb (member_list t m) l && get_or bits (member_frame t m) false

  -- a pending member is the first pending frame of those from it on, and another one is passed over
  pending_here : (m k : ℕ) → Pends m ≡ true → first_pending bits (members_from t l m (suc k)) ≡ Frame (member_frame t m)
  unfolding first_pending members_from
  pending_here m k e =
      whether (eqb (member_list t m) l)
      (λ a. whether (get_or bits (member_frame t m) false) (λ b. rw (a, b)) (λ b. absurd (false≢true (rw (a, b) at e))))
      (λ a. absurd (false≢true (rw a at e)))

  pending_later : (m k : ℕ) → Pends m ≡ false → first_pending bits (members_from t l m (suc k)) ≡ first_pending bits (members_from t l (suc m) k)
  unfolding first_pending members_from
  pending_later m k e =
      whether (eqb (member_list t m) l)
      (λ a. whether (get_or bits (member_frame t m) false) (λ b. absurd (true≢false (rw (a, b) at e))) (λ b. rw (a, b)))
      (λ a. rw a)

  -- where none is pending, nothing is found
  pending_none : (m k : ℕ) → ((j : ℕ) → m ≤ j → j < m + k → Pends j ≡ false) → first_pending bits (members_from t l m k) ≡ Nothing
  unfolding first_pending members_from
  pending_none m zero none = refl
  pending_none m (suc k) none =
      pending_later m k (none m (omega arith) (omega arith)) ∙ pending_none (suc m) k (λ j a b. none j (omega arith) (omega arith))

  -- the first one that is pending is found
  pending_first : (m k i : ℕ) → m ≤ i → i < m + k → Pends i ≡ true → ((j : ℕ) → m ≤ j → j < i → Pends j ≡ false)
      → first_pending bits (members_from t l m k) ≡ Frame (member_frame t i)
  pending_first m zero i low high is before = absurd (omega arith)
  pending_first m (suc k) i low high is before =
      elim (ℕ_discrete m i) [
        | yes p ↦ pending_here m k (ap Pends p ∙ is) ∙ ap (λ j. Frame (member_frame t j)) p
        | no p ↦
            pending_later m k (before m (omega arith) (omega (arith, p)))
            ∙ pending_first (suc m) k i (omega (arith, p)) (omega arith) is (λ j a b. before j (omega arith) b)
      ]

  -- what `find` answers over the first k members is what the search finds
  pub pending_found : (k : ℕ) (r : Option ℕ)
      → MatchOption r ((j : ℕ) → 0 ≤ j → j < k → Pends j ≡ false)
      (λ i. (0 ≤ i) × (i < k) × (Pends i ≡ true) × ((j : ℕ) → 0 ≤ j → j < i → Pends j ≡ false))
      → MatchOption r (first_pending bits (members_from t l 0 k) ≡ Nothing) (λ i. first_pending bits (members_from t l 0 k) ≡ Frame (member_frame t i))
  pending_found k None none = pending_none 0 k (λ j a b. none j a (omega arith))
  pending_found k (Some i) found = pending_first 0 k i found.0 (omega (arith, found.1)) found.2 found.3

  -- those that pass are as many as the list's pending frames
  pub pending_counted : (m k : ℕ) → length (filter Pends (range_with_len m k)) ≡ pending_count bits (members_from t l m k)
  unfolding pending_count members_from
  pending_counted m zero = refl
  pending_counted m (suc k) =
      let more = pending_counted (suc m) k in
      whether (eqb (member_list t m) l)
      (λ a. whether (get_or bits (member_frame t m) false) (λ b. rw (a, b, add-one) (ap suc more)) (λ b. rw (a, b, add-one) more))
      (λ a. rw (a, add-one) more)
