-- To mark the frames that a signal touches is to set the bit of each of its placements' frames, one after another.
use Prim.Native.Nat.{ℕ, zero, suc, ◌+◌, ◌<◌, ◌≤◌}
use mathlib.Core.Path.{◌≡◌, refl, sym, ◌∙◌}
use mathlib.Core.Bool.{Bool, true, false, ◌||◌}
use mathlib.Core.List.{List, [], ◌∷◌}
use native.Mathlib.Decide.{ℕ_discrete}
use native.Mathlib.Numerals.{add-one}
use native.Mathlib.Omega.{arith}
use borrow.Author.Tests.{eq-eqb, ne_eqb}
use lib.Dec.{eqb}
use lib.ListN.{length, get_or, set, length-set}
use lib.Seq.{ext_get_or, get_or-set_same, get_or-set_other}
use Rattle.cluster.specs.Check.{RightTable}
use Rattle.cluster.specs.Places.{any_below, some_placement}
use Rattle.cluster.specs.Table.{placement_count, placement_signal, placement_frame}
use Rattle.cluster.specs.Values.{first_placement, touches}
use Rattle.cluster.proofs.SomePlacement.{Of}
use Rattle.cluster.proofs.Together.{Walk, walk_begins, walk_on, walk_ends}
use Rattle.master.specs.Write.{marked_from}
use Rattle.master.proofs.PendingLaws.{marked_bit}
use Rattle.master.proofs.PendingLength.{marked_length}
use Rattle.master.proofs.PlacedTurns.{placed_in}
use Rattle.master.proofs.Tests.{or_true, or_false}

-- the bits of the frames of the first k placements of a signal are set, and every other bit is as it was
pub record Set (t : List ℕ) (s k : ℕ) (old bits : List Bool) : Type 0 where
  pub same_length : length bits ≡ length old
  pub each : (f : ℕ) → f < length old → get_or bits f false ≡ (get_or old f false || placed_in t s k f)

module _ (t : List ℕ) (s : ℕ) (old : List Bool) where
  none_set : Set t s 0 old old
  unfolding any_below
  none_set = record { same_length = refl; each = λ f h. sym (or_false (get_or old f false)) }

  module _ (k : ℕ) (bits : List Bool) (w : Set t s k old bits) where
    -- placement k is one of the signal: its frame's bit is set, where it has one
    set_here : placement_signal t k ≡ s → Set t s (k + 1) old (set bits (placement_frame t k) true)
    unfolding any_below
    set_here e = record {
      same_length = length-set bits (placement_frame t k) true ∙ w.same_length;
      each = λ f h. rw (add-one k, eq-eqb (placement_signal t k) s e) (bit f h);
    }
      where
        bit : (f : ℕ) → f < length old → get_or (set bits (placement_frame t k) true) f false ≡ (get_or old f false || (eqb (placement_frame t k) f || placed_in t s k f))
        bit f h =
            elim (ℕ_discrete f (placement_frame t k)) [
              | yes p ↦ rw (p, get_or-set_same bits (placement_frame t k) true false (omega (arith, w.same_length)), eq-eqb (placement_frame t k) (placement_frame t k) refl)
                  (sym (or_true (get_or old (placement_frame t k) false)))
              | no d ↦ rw (get_or-set_other bits (placement_frame t k) f true false d, ne_eqb (placement_frame t k) f (λ p. d (sym p))) (w.each f h)
            ]

    -- placement k is not
    set_not : (placement_signal t k ≡ s → ⊥) → Set t s (k + 1) old bits
    unfolding any_below
    set_not d = record { same_length = w.same_length; each = λ f h. rw (add-one k, ne_eqb (placement_signal t k) s d) (w.each f h) }

  -- behind the last placement all frames that the signal touches are marked
  all_set : (bits : List Bool) → Set t s (placement_count t) old bits → bits ≡ marked_from t s 0 old
  unfolding touches some_placement
  all_set bits w =
      ext_get_or false bits (marked_from t s 0 old) (w.same_length ∙ sym (marked_length t s 0 old))
      (λ f h. let b : f < length old = omega (arith, w.same_length) in
      w.each f b ∙ sym (marked_bit t s f old b))

-- a walk over the placements of a signal, from the first one on, marks all frames that it touches
module _ (t : List ℕ) (ok : RightTable t) (s : ℕ) (old : List Bool) where
  abbrev SetAt : List Bool → ℕ → Type 0
  SetAt bits k = Set t s k old bits

  pub marks_begin : Walk t s (SetAt old) (first_placement t s)
  marks_begin = walk_begins t ok s (SetAt old) (λ k h d w. set_not t s old k old w d) (none_set t s old)

  module _ (k : ℕ) (bits : List Bool) (w : Walk t s (SetAt bits) k) where
    pub marks_on : Of t s k → (after : List Bool) → after ≡ set bits (placement_frame t k) true → Walk t s (SetAt after) (k + 1)
    marks_on o after e = walk_on t s (SetAt bits) (SetAt after) k w o (rw e (set_here t s old k bits w.holds o.is))

    pub marks_end : (Of t s k → ⊥) → bits ≡ marked_from t s 0 old
    marks_end stop = all_set t s old bits (walk_ends t ok s (SetAt bits) (λ j h d v. set_not t s old j bits v d) k w stop)

-- a bit that is not there is not set
pub set_none : (bits : List Bool) (f : ℕ) (v : Bool) → length bits ≤ f → set bits f v ≡ bits
set_none [] f v h = refl
set_none (b ∷ bits) zero v h = absurd (omega arith)
set_none (b ∷ bits) (suc f) v h = rw (set_none bits f v (omega arith))
