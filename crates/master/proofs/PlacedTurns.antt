-- A walk over the placements of a signal, from the first one on: what is put into them, and whether one stands in a frame.
use Prim.Native.Nat.{ℕ, suc, ◌+◌, ◌-◌, ◌<◌, ◌≤◌}
use mathlib.Core.Path.{◌≡◌, refl, sym, ◌∙◌}
use mathlib.Core.Bool.{Bool, true, false, cond, ◌&&◌}
use mathlib.Core.List.{List}
use native.Mathlib.Nat.{sub-zero}
use native.Mathlib.Numerals.{add-one}
use native.Mathlib.Omega.{arith}
use borrow.Author.Tests.{eq-eqb, ne_eqb}
use lib.Dec.{eqb}
use Rattle.cluster.specs.Check.{RightTable}
use Rattle.cluster.specs.Places.{any_below, places, some_placement, at_each}
use Rattle.cluster.specs.Table.{placement_count, placement_signal, placement_frame}
use Rattle.cluster.specs.Values.{first_placement, touches}
use Rattle.cluster.proofs.SomePlacement.{Of, placed, some_at}
use Rattle.cluster.proofs.Together.{Walk, walk_begins, walk_on, walk_ends}
use Rattle.master.specs.Parts.{OfSignal}

-- ---- the placements of a signal, one after the other

-- those before are gone through, and P holds; those from one number up to another are left
pub record Left (t : List ℕ) (s : ℕ) (P : ℕ → Type 0) (from end : ℕ) : Type 0 where
  pub walk : Walk t s P from
  pub ordered : from ≤ end
  pub each : (k : ℕ) → from ≤ k → k < end → Of t s k
  pub stop : Of t s end → ⊥

module _ (t : List ℕ) (s : ℕ) (P : ℕ → Type 0) (from end : ℕ) where
  pub all_left : OfSignal t s from end → Walk t s P (first_placement t s) → Left t s P from end
  all_left o w = record {
    walk = rw o.first w;
    ordered = o.ordered;
    each = λ k a b. record { there = omega (arith, o.within); is = o.each k a b };
    stop = λ e. o.behind e.there e.is;
  }

  module _ (left : Left t s P from end) where
    pub one_less : (Q : ℕ → Type 0) → from < end → (Walk t s P from → Of t s from → Walk t s Q (from + 1)) → Left t s Q (from + 1) end
    one_less Q h turn = record {
      walk = turn left.walk (left.each from (omega arith) h);
      ordered = omega (arith, h);
      each = λ k a b. left.each k (omega arith) b;
      stop = left.stop;
    }

    pub none_left : end - from ≡ 0 → Walk t s P end
    none_left e = let q : from ≡ end = omega (arith, e, left.ordered) in rw q at left.walk

-- ---- a step at each placement of a signal

-- the steps from placement k on make the whole of what is there
abbrev pub Whole : List ℕ → ℕ → (ℕ → List ℕ → List ℕ) → List ℕ → List ℕ → ℕ → Type 0
Whole t s step whole bs k = whole ≡ at_each t s step k (placement_count t - k) bs

module _ (t : List ℕ) (ok : RightTable t) (s : ℕ) (step : ℕ → List ℕ → List ℕ) (whole : List ℕ) where
  turn : (k : ℕ) (bs : List ℕ) → k < placement_count t
      → at_each t s step k (placement_count t - k) bs ≡ at_each t s step (k + 1) (placement_count t - (k + 1)) (cond (places t s k) (step k bs) bs)
  unfolding at_each
  turn k bs h = let l : placement_count t - k ≡ suc (placement_count t - (k + 1)) = omega arith in rw (l, add-one)

  pass : (bs : List ℕ) (k : ℕ) → k < placement_count t → (placement_signal t k ≡ s → ⊥) → Whole t s step whole bs k → Whole t s step whole bs (k + 1)
  pass bs k h d left = left ∙ turn k bs h ∙ rw (ne_eqb (placement_signal t k) s d)

  pub each_begins : (bs : List ℕ) → whole ≡ at_each t s step 0 (placement_count t) bs → Walk t s (Whole t s step whole bs) (first_placement t s)
  each_begins bs e = walk_begins t ok s (Whole t s step whole bs) (pass bs) (rw sub-zero e)

  pub each_on : (k : ℕ) (bs cs : List ℕ) → Walk t s (Whole t s step whole bs) k → Of t s k → cs ≡ step k bs
      → Walk t s (Whole t s step whole cs) (k + 1)
  each_on k bs cs w o e =
      walk_on t s (Whole t s step whole bs) (Whole t s step whole cs) k w o (w.holds ∙ turn k bs o.there ∙ rw (placed t s k o, e))

  pub each_ends : (k : ℕ) (bs : List ℕ) → Walk t s (Whole t s step whole bs) k → (Of t s k → ⊥) → bs ≡ whole
  unfolding at_each
  each_ends k bs w stop =
      let l : placement_count t - placement_count t ≡ 0 = omega arith in
      sym (rw l at (walk_ends t ok s (Whole t s step whole bs) (pass bs) k w stop))

-- ---- a placement of a signal in a frame

-- one of the first k placements is one of signal s in frame f
abbrev pub placed_in : List ℕ → ℕ → ℕ → ℕ → Bool
placed_in t s k f = any_below k (λ j. places t s j && eqb (placement_frame t j) f)

-- none of them is
abbrev pub Unmet : List ℕ → ℕ → ℕ → ℕ → Type 0
Unmet t s f k = placed_in t s k f ≡ false

module _ (t : List ℕ) (ok : RightTable t) (s f : ℕ) where
  unmet : (k : ℕ) → k < placement_count t → (placement_signal t k ≡ s → ⊥) → Unmet t s f k → Unmet t s f (k + 1)
  unfolding any_below
  unmet k h d none = rw (add-one, ne_eqb (placement_signal t k) s d) none

  pub touch_begins : Walk t s (Unmet t s f) (first_placement t s)
  unfolding any_below
  touch_begins = walk_begins t ok s (Unmet t s f) unmet refl

  pub touch_on : (k : ℕ) → Walk t s (Unmet t s f) k → Of t s k → (placement_frame t k ≡ f → ⊥) → Walk t s (Unmet t s f) (k + 1)
  unfolding any_below
  touch_on k w o d = walk_on t s (Unmet t s f) (Unmet t s f) k w o (rw (add-one, placed t s k o, ne_eqb (placement_frame t k) f d) w.holds)

  pub touch_ends : (k : ℕ) → Walk t s (Unmet t s f) k → (Of t s k → ⊥) → false ≡ touches t s f
  unfolding touches some_placement
  touch_ends k w stop = sym (walk_ends t ok s (Unmet t s f) unmet k w stop)

  pub touch_found : (k : ℕ) → Of t s k → placement_frame t k ≡ f → true ≡ touches t s f
  unfolding touches
  touch_found k o e = sym (some_at t s (λ j. eqb (placement_frame t j) f) k o (eq-eqb (placement_frame t k) f e))
