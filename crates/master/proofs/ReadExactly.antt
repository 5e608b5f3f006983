-- Document 02, Req 03, of every state, also one that no history has: where a read takes its value, "the placement received last; before any reception, the
-- start value; of a published one, its first placement".
use Prim.Native.Nat.{ℕ, ◌<◌}
use mathlib.Core.Path.{◌≡◌, refl, sym, ◌∙◌, ap}
use mathlib.Core.Logic.{◌↔◌, ◌⊎◌, inl, inr, ⊎_elim}
use mathlib.Core.Bool.{Bool, true, false}
use mathlib.Core.List.{List}
use native.Mathlib.Omega.{arith}
use lib.ListN.{length, get_or}
use Rattle.refusal.specs.declared.Refusal.{Refusal}
use Rattle.cluster.specs.declared.values.Array.{Array}
use Rattle.cluster.specs.Check.{RightTable}
use Rattle.cluster.specs.Table.{signal_count, signal_start, published, placement_count, placement_signal, placement_frame}
use Rattle.cluster.specs.Values.{first_placement, signal_published, scalar_at, array_read, start_read}
use Rattle.cluster.proofs.PlacementLaws.{has_placement, first_there, published_as}
use Rattle.cluster.proofs.SomePlacement.{first_low, first_only}
use Rattle.transport.proofs.Tests.{whether}
use Rattle.master.specs.declared.state.Reception.{Reception}
use Rattle.master.specs.declared.state.State.{State}
use Rattle.master.specs.Admit.{answered}
use Rattle.master.specs.Read.{read_verdict, read_scalar_of, read_array_of}
use Rattle.master.specs.Received.{last_of, source_of, scalar_from, array_from}
use Rattle.master.proofs.Answered.{by_verdict}
use Rattle.master.proofs.Verdicts.{read_table, read_signal}
use Rattle.std.specs.Prelude.{Ok}
use Rattle.std.specs.Prelude.{Err}
use Rattle.std.specs.Prelude.{Some, None, Option}

-- ---- the paper's sentences

-- a published signal: the master publishes each frame that has it
abbrev pub Published : List ℕ → ℕ → Type 0
Published t s = (k : ℕ) → k < placement_count t → placement_signal t k ≡ s → published t (placement_frame t k) ≡ true

-- "a received signal": it publishes none of them
abbrev pub Received : List ℕ → ℕ → Type 0
Received t s = (k : ℕ) → k < placement_count t → placement_signal t k ≡ s → published t (placement_frame t k) ≡ false

-- "its first placement": none before it is one of the signal
abbrev pub First : List ℕ → ℕ → ℕ → Type 0
First t s k = (k < placement_count t) × (placement_signal t k ≡ s) × ((j : ℕ) → j < k → ¬ (placement_signal t j ≡ s))

-- what the state keeps of a signal: never, or the placement received last
abbrev pub kept : List Reception → ℕ → Option ℕ
kept rs s = (get_or rs s (record { last = None })).last

-- "A read of a received signal gives the placement received last; before any reception, the start value; of a published one, its first placement.": the
-- table, what is kept of the receptions, the signal, its start value, what it reads as in each placement, and what is given
abbrev pub Gives : {A : Type 0} → List ℕ → List Reception → ℕ → A → (ℕ → A) → A → Type 0
Gives t rs s start at v =
    (Received t s × ((k : ℕ) × (kept rs s ≡ Some k) × (v ≡ at k)))
    ⊎ ((Received t s × (kept rs s ≡ None) × (v ≡ start))
    ⊎ (Published t s × ((k : ℕ) × First t s k × (v ≡ at k))))

-- ---- a value of either kind, by where it is taken

module _ {A : Type 0} (t : List ℕ) (rs : List Reception) (s : ℕ) (from : Option ℕ → A) (v : A) (ok : RightTable t) (below : s < signal_count t) where
  -- the frames of a signal's placements are published or not
  abbrev Each : Bool → Type 0
  Each b = (k : ℕ) → k < placement_count t → placement_signal t k ≡ s → published t (placement_frame t k) ≡ b

  publishes : (b : Bool) → signal_published t s ≡ b → Each b
  publishes b e k h q = sym (published_as t ok s k (record { there = h; is = q })) ∙ e

  published_by : (b : Bool) → Each b → signal_published t s ≡ b
  published_by b p = let w = has_placement t ok s below in published_as t ok s w.0 w.1 ∙ p w.0 w.1.there w.1.is

  to_gives : v ≡ from (source_of t rs s) → Gives t rs s (from None) (λ k. from (Some k)) v
  unfolding source_of last_of
  to_gives e =
      whether (signal_published t s)
      (λ y. let o = first_there t ok s below in
      inr (inr (publishes true y, (first_placement t s, (o.there, o.is, none_before), rw y at e))))
      (λ n. by (kept rs s) refl (publishes false n) (rw n at e))
    where
      none_before : (j : ℕ) → j < first_placement t s → ¬ (placement_signal t j ≡ s)
      none_before j b q = let o = first_there t ok s below in omega (arith, first_low t s j (record { there = omega arith; is = q }))

      by : (l : Option ℕ) → kept rs s ≡ l → Received t s → v ≡ from l → Gives t rs s (from None) (λ k. from (Some k)) v
      by None q p e = inr (inl (p, q, e))
      by (Some k) q p e = inl (p, (k, q, e))

  from_gives : Gives t rs s (from None) (λ k. from (Some k)) v → v ≡ from (source_of t rs s)
  unfolding source_of last_of
  from_gives = ⊎_elim
      (λ w. rw (published_by false w.0, w.1.1) w.1.2)
      (⊎_elim
      (λ w. rw (published_by false w.0, w.1) w.2)
      (λ w. rw (published_by true w.0, first_only t s w.1.0 (record { there = w.1.1.0; is = w.1.1.1 }) w.1.1.2) w.1.2))

-- ---- every read

module _ (t : List ℕ) (x : State) (bs : List ℕ) (s : ℕ) where
  -- a read of either kind, with how it answers a refusal and a value
  module _ {A B : Type 0} (kind : Bool) (refuse : Refusal → B) (value : A → B) (from : Option ℕ → A) where
    abbrev Exactly : B → A → Type 0
    Exactly b v = (b ≡ value v) ↔ ((read_verdict t (length bs) x s kind ≡ Ok tt) × Gives t x.received s (from None) (λ k. from (Some k)) v)

    answers : ((r : Refusal) (v : A) → ¬ (refuse r ≡ value v)) → ((u v : A) → value u ≡ value v → u ≡ v) → (v : A)
        → Exactly (answered (read_verdict t (length bs) x s kind) refuse (value (from (source_of t x.received s)))) v
    answers apart one v = by_verdict (λ b. Exactly b v) (read_verdict t (length bs) x s kind) refuse _
        (λ r e. (λ k. absurd (apart r v k), λ w. let z = w.0 in let q : ◌≡◌ {A = ℕ} 0 1 = cc in absurd (omega arith)))
        (λ a. let ok = read_table t (length bs) x s kind a in let below = read_signal t (length bs) x s kind a in (
          (λ k. (a, to_gives t x.received s from v ok below (sym (one _ v k)))),
          (λ w. ap value (sym (from_gives t x.received s from v ok below w.1))),
        ))

  -- a read of a scalar answers a value if and only if it is accepted and the value is the one that the paper gives
  pub read_exactly : (v : ℕ) → (read_scalar_of t x bs s ≡ Ok v)
      ↔ ((read_verdict t (length bs) x s false ≡ Ok tt) × Gives t x.received s (signal_start t s) (scalar_at t bs s) v)
  unfolding read_scalar_of scalar_from
  read_exactly = answers false (λ r. Err r) (λ v. Ok v) (scalar_from t bs s)
      (λ r v e. let z : ◌≡◌ {A = ℕ} 0 1 = cc in omega arith) (λ u v e. cc)

  -- and so does a read of an array
  pub read_array_exactly : (v : Array) → (read_array_of t x bs s ≡ Ok v)
      ↔ ((read_verdict t (length bs) x s true ≡ Ok tt) × Gives t x.received s (start_read t s) (array_read t bs s) v)
  unfolding read_array_of array_from
  read_array_exactly = answers true (λ r. Err r) (λ v. Ok v) (array_from t bs s)
      (λ r v e. let z : ◌≡◌ {A = ℕ} 0 1 = cc in omega arith) (λ u v e. cc)
