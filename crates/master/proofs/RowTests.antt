-- The lowest of some rows, and tests 1, 2 and 3 at the head of the calls.
use Prim.Native.Nat.{ℕ, zero, suc, ◌*◌, ◌≤◌, ◌<◌}
use mathlib.Core.Path.{◌≡◌, refl, sym, ◌∙◌}
use mathlib.Core.Logic.{◌⊎◌, inl, inr, ⊎_elim}
use mathlib.Core.Bool.{Bool, true, false}
use mathlib.Core.List.{List}
use native.Mathlib.Decide.{ℕ_discrete}
use native.Mathlib.Omega.{arith}
use lib.Dec.{eqb}
use lib.ListN.{length}
use borrow.Author.Tests.{eqb-true, eqb-false}
use Rattle.refusal.specs.declared.Refusal.{Refusal}
use Rattle.cluster.specs.Check.{judged, taken_of, then, RightTable}
use Rattle.cluster.specs.Table.{frame_count}
use Rattle.cluster.proofs.TakenLaws.{taken_right, taken_refused}
use Rattle.cluster.proofs.FirstFault.{first_fault}
use Rattle.transport.proofs.Tests.{whether}
use Rattle.master.specs.Fits.{state_fits, lent_fits}
use Rattle.master.specs.Admit.{unless, buffer_size, admitted}
use Rattle.master.specs.Calls as call
use Rattle.master.specs.Calls.{Call}
use Rattle.master.specs.Run.{Held}
use Rattle.master.proofs.FitsExactly.{Clauses, fits_exactly}
use Rattle.master.proofs.Tests.{never}
use Rattle.master.proofs.Rows.{lent, Row, table_fault, buffer_size_lem, state_unfit, lent_length}
use Rattle.std.specs.Prelude.{Ok, Err}
use Rattle.cluster.specs.Check.{Verdict}

-- ---- the lowest of some rows

module _ (R : ℕ → Type 0) where
  abbrev pub NoneBelow : ℕ → Type 0
  NoneBelow n = (k : ℕ) → k < n → ¬ R k

  pub one_more : (n : ℕ) → NoneBelow n → ¬ R n → NoneBelow (suc n)
  one_more n h here k b r = elim (ℕ_discrete k n) [
    | yes p ↦ here (rw p at r)
    | no p ↦ h k (omega arith) r
  ]

  -- no row applies from a up to b
  pub skip : (a b : ℕ) → NoneBelow a → ((k : ℕ) → R k → (k < a) ⊎ (b ≤ k)) → NoneBelow b
  skip a b h gap k l r = ⊎_elim (λ q. h k q r) (λ q. omega arith) (gap k r)

  -- no row is above the last one
  pub all_none : (a : ℕ) → NoneBelow a → ((k : ℕ) → R k → k < a) → (k : ℕ) → ¬ R k
  all_none a h high k r = h k (high k r) r

-- a refusal tells no place, or is that of the table check
abbrev pub Placed : List ℕ → Refusal → Type 0
Placed t r = (r.place ≡ 0) ⊎ (judged t ≡ Err r)

module _ (t : List ℕ) (x : Held) (c : Call) where
  -- the row of a refusal is the lowest that applies, and where all is accepted none does
  abbrev pub Lowest : Verdict → Type 0
  Lowest (Ok tt) = (k : ℕ) → ¬ Row t x c k
  Lowest (Err r) = Row t x c r.number × NoneBelow (Row t x c) r.number × Placed t r

  -- a test in front of a verdict: its row applies where it fails
  pub tested : (b : Bool) (n : ℕ) (v : Verdict) → NoneBelow (Row t x c) n → (b ≡ false → Row t x c n) → (b ≡ true → Lowest v) → Lowest (unless b n v)
  tested true n v h row rest = rest refl
  tested false n v h row rest = (row refl, h, inl refl)

-- ---- tests 1, 2 and 3

module _ (t : List ℕ) (x : Held) where
  abbrev R : Call → ℕ → Type 0
  R c = Row t x c

  pub not_0 : (c : Call) → NoneBelow (R c) 1
  not_0 c k b r = absurd (by c k b r)
    where
      by : (c : Call) (k : ℕ) → k < 1 → R c k → ⊥
      by c zero b r = elim r [ ]
      by c (suc k) b r = omega arith

  not_1 : (c : Call) → RightTable t → ¬ R c 1
  not_1 c ok (table_fault r e) = let q : (Ok tt) ≡ Err r = sym ok ∙ e in let z : ◌≡◌ {A = ℕ} 0 1 = cc in omega arith

  not_2 : (c : Call) → (lent c ≡ true → length x.bytes ≡ 8 * frame_count t) → ¬ R c 2
  not_2 c h (buffer_size_lem l n) = n (h l)

  pub not_3 : (c : Call) → Clauses t x.state → ((m : List ℕ) → c ≡ call.tick m → lent_fits x.state.message (length m) ≡ true) → ¬ R c 3
  not_3 c w h (state_unfit n) = n w
  not_3 c w h (lent_length y e n) = n (eqb-true _ y.length (rw e at (h _ refl)))

  -- behind tests 1 and 2, and the state's own part of 3, comes the rest; a call that is lent no frame bytes asks with the right number of them
  pub head : (c : Call) (n : ℕ) (v : Verdict) → (lent c ≡ true → n ≡ length x.bytes) → (lent c ≡ false → n ≡ buffer_size t)
      → (RightTable t → Clauses t x.state → NoneBelow (R c) 3 → Lowest t x c v) → Lowest t x c (then (admitted t n x.state) v)
  unfolding admitted buffer_size
  head c n v given else rest = by (taken_of t) refl
    where
      lends : ¬ (n ≡ 8 * frame_count t) → lent c ≡ true
      lends differs = whether (lent c) (λ y. y) (λ q. absurd (differs (else q)))

      by : (w : Verdict) → taken_of t ≡ w → Lowest t x c (then (admitted t n x.state) v)
      by (Err r) e =
          let q = (taken_refused t r).0 e in
          let i = (first_fault t r q).number in
          rw e (rw i (table_fault r q), rw i (not_0 c), inr q)
      by (Ok tt) e =
          let ok = taken_right t e in
          let none_1 = one_more (R c) 1 (not_0 c) (not_1 c ok) in
          whether (eqb n (8 * frame_count t))
          (λ y.
          let size = eqb-true n (8 * frame_count t) y in
          let none_2 = one_more (R c) 2 none_1 (not_2 c (λ l. sym (given l) ∙ size)) in
          whether (state_fits t x.state)
          (λ f. rw (e, y, f) (rest ok ((fits_exactly t ok x.state).0 f) none_2))
          (λ f. rw (e, y, f) (state_unfit (λ w. never (sym f ∙ (fits_exactly t ok x.state).1 w)), none_2, inl refl)))
          (λ y.
          let differs = eqb-false n (8 * frame_count t) y in
          rw (e, y) (buffer_size_lem (lends differs) (λ q. differs (given (lends differs) ∙ q)), none_1, inl refl))
