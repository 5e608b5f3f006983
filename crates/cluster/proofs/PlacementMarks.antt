-- Marks of the placements' check: of each frame the signal placed there last, and the frame of the last placement. They tell whether
-- a signal stands in a frame twice, and whether its frames have two publishers.
use Prim.Native.Nat.{ℕ, zero, suc, ◌+◌, ◌≤◌, ◌<◌}
use mathlib.Core.Path.{◌≡◌, refl, sym, ◌∙◌}
use mathlib.Core.Bool.{Bool, false, not, ◌&&◌, beq, and-false}
use mathlib.Core.List.{List}
use native.Mathlib.Decide.{ℕ_discrete}
use native.Mathlib.Numerals.{add-one}
use native.Mathlib.Omega.{arith}
use borrow.Author.Tests.{eq-eqb, ne_eqb, eqb-true}
use lib.Dec.{eqb}
use Rattle.wire.proofs.Tests.{whether}
use Rattle.cluster.specs.Places.{any_below, places}
use Rattle.cluster.specs.Right.{earlier_placement, again, mixed}
use Rattle.cluster.specs.Table.{counted, published, placement_signal, placement_frame}
use Rattle.cluster.proofs.Any.{any_none}
use Rattle.cluster.proofs.CountingUp.{up_monotone}
use Rattle.cluster.specs.Passed.{CountsUp, last_in, frame_before}
use Rattle.cluster.proofs.EarlierPlacement.{same_test, none_earlier}

pub frame_next : (t : List ℕ) (k : ℕ) → frame_before t (k + 1) ≡ placement_frame t k
unfolding frame_before
frame_next t k = rw (add-one k)

-- one placement more, by cases of the frame asked about
pub last_marked : (t : List ℕ) (k : ℕ) (last next : ℕ → ℕ) → ((f : ℕ) → last f ≡ last_in t k f)
    → next (placement_frame t k) ≡ placement_signal t k + 1 → ((f : ℕ) → (f ≡ placement_frame t k → ⊥) → next f ≡ last f)
    → (f : ℕ) → next f ≡ last_in t (k + 1) f
unfolding last_in
last_marked t k last next m here other f =
    elim (ℕ_discrete f (placement_frame t k)) [
      | yes p ↦ rw (p, here, add-one k, eq-eqb (placement_frame t k) (placement_frame t k) refl) (add-one (placement_signal t k))
      | no d ↦ rw (other f d, add-one k, ne_eqb (placement_frame t k) f (λ p. d (sym p))) (m f)
    ]

-- placement j is one of the signal of placement k, and its frame has the other publisher
abbrev differs : List ℕ → ℕ → ℕ → Bool
differs t k j = not (beq (published t (placement_frame t j)) (published t (placement_frame t k)))

abbrev other : List ℕ → ℕ → ℕ → Bool
other t k j = places t (placement_signal t k) j && differs t k j

-- where the last placement is one of the same signal with the same publisher, so are those before it
alike : (t : List ℕ) (k : ℕ) → mixed t k ≡ false → placement_signal t k ≡ placement_signal t (suc k) → differs t (suc k) k ≡ false
    → (j : ℕ) → j < k → other t (suc k) j ≡ false
unfolding mixed
alike t k one e same j l =
    whether (places t (placement_signal t (suc k)) j)
    (λ y.
    let s : placement_signal t j ≡ placement_signal t k = eqb-true (placement_signal t j) (placement_signal t (suc k)) y ∙ sym e in
    let p = same_test (published t (placement_frame t j)) (published t (placement_frame t k)) (none_earlier t k (differs t k) one j l s) in
    rw (y, p) same)
    (λ z. rw z)

module _ (t : List ℕ) (n : ℕ) (up : CountsUp (placement_signal t) n) where
  -- a signal that is not below those before stands in a frame already exactly where it is the last one there
  twice : (k x f : ℕ) → k ≤ n → ((j : ℕ) → j < k → placement_signal t j ≤ x)
      → any_below k (λ j. eqb (placement_signal t j) x && eqb (placement_frame t j) f) ≡ eqb (last_in t k f) (suc x)
  unfolding any_below last_in
  twice zero x f b low = sym (ne_eqb 0 (suc x) (λ e. omega arith))
  twice (suc k) x f b low =
      whether (eqb (placement_frame t k) f)
      (λ y. rw y (elim (ℕ_discrete (placement_signal t k) x) [
        | yes e ↦ rw (eq-eqb (placement_signal t k) x e) (sym (eq-eqb (suc (placement_signal t k)) (suc x) (omega arith)))
        | no d ↦
            rw (ne_eqb (placement_signal t k) x d, ne_eqb (suc (placement_signal t k)) (suc x) (λ e. d (omega arith)))
            (none k x f b (omega (arith, low k (omega arith))))
      ]))
      (λ z. rw (z, and-false (eqb (placement_signal t k) x)) (twice k x f (omega arith) (λ j h. low j (omega arith))))
    where
      none : (k x f : ℕ) → suc k ≤ n → placement_signal t k < x
          → any_below k (λ j. eqb (placement_signal t j) x && eqb (placement_frame t j) f) ≡ false
      none k x f b l =
          any_none k (λ j. eqb (placement_signal t j) x && eqb (placement_frame t j) f)
          (λ j h. let m = up_monotone (placement_signal t) n up j k (omega arith) (omega arith) in
          rw (ne_eqb (placement_signal t j) x (λ e. omega arith)))

  pub again_is : (k : ℕ) → k < n → again t k ≡ eqb (last_in t k (placement_frame t k)) (placement_signal t k + 1)
  unfolding again earlier_placement
  again_is k h =
      rw (add-one (placement_signal t k))
      (twice k (placement_signal t k) (placement_frame t k) (omega arith) (λ j b. up_monotone (placement_signal t) n up j k (omega arith) h))

  -- no frame is marked with a signal behind those so far
  pub last_high : (k f : ℕ) → k ≤ n → last_in t k f ≤ counted (placement_signal t) k
  unfolding last_in counted
  last_high zero f b = omega arith
  last_high (suc k) f b =
      whether (eqb (placement_frame t k) f)
      (λ y. rw y (omega arith))
      (λ z. rw z (omega (arith, last_high k f (omega arith), before k b)))
    where
      before : (k : ℕ) → k < n → counted (placement_signal t) k ≤ suc (placement_signal t k)
      before zero h = omega arith
      before (suc k) h = omega (arith, up_monotone (placement_signal t) n up k (suc k) (omega arith) h)

  -- the frames of a signal that had one publisher so far have two exactly where this one differs from the last one
  pub mixed_is : (k : ℕ) → k < n → ((j : ℕ) → j < k → mixed t j ≡ false)
      → mixed t k ≡ (eqb (placement_signal t k + 1) (counted (placement_signal t) k) && not
      (beq (published t (frame_before t k)) (published t (placement_frame t k))))
  unfolding mixed earlier_placement any_below counted frame_before
  mixed_is zero h one = rw (ne_eqb (placement_signal t 0 + 1) 0 (λ e. omega arith))
  mixed_is (suc k) h one =
      elim (ℕ_discrete (placement_signal t k) (placement_signal t (suc k))) [
        | yes e ↦
            rw (
              eq-eqb (placement_signal t k) (placement_signal t (suc k)) e,
              eq-eqb (placement_signal t (suc k) + 1) (suc (placement_signal t k)) (omega arith),
            )
            (whether (differs t (suc k) k)
            (λ y. rw y)
            (λ z. rw z (any_none k (other t (suc k)) (alike t k (one k (omega arith)) e z))))
        | no d ↦
            let b = up_monotone (placement_signal t) n up k (suc k) (omega arith) h in
            rw (
              ne_eqb (placement_signal t k) (placement_signal t (suc k)) d,
              ne_eqb (placement_signal t (suc k) + 1) (suc (placement_signal t k)) (λ q. d (omega arith)),
            )
            (any_none k (other t (suc k)) (λ j l.
            let m = up_monotone (placement_signal t) n up j k (omega arith) (omega arith) in
            rw (ne_eqb (placement_signal t j) (placement_signal t (suc k)) (λ q. d (omega arith)))))
      ]
