-- Bits put into each placement of a signal: how many bytes are left, and what becomes of each bit.
use Prim.Native.Nat.{ℕ, zero, suc, ◌+◌, ◌*◌, ◌≤◌, ◌<◌}
use mathlib.Core.Path.{◌≡◌, refl, sym, ◌∙◌}
use mathlib.Core.Bool.{Bool, cond}
use mathlib.Core.List.{List}
use native.Mathlib.Decide.{ℕ_discrete}
use native.Mathlib.Omega.{arith}
use borrow.Author.Tests.{eqb-true, eq-eqb}
use lib.ListN.{length, get_or}
use Rattle.wire.specs.Bits.{Bytes}
use Rattle.wire.proofs.Tests.{whether}
use Rattle.signal.specs.Signal.{bit_at, put_bits}
use Rattle.signal.proofs.Laws.{Apart, bit_stays, bit_put_inside, put_alike}
use Rattle.signal.proofs.PutBits.{put_length, put_bytes}
use Rattle.cluster.specs.Places.{place_of, places, at_each}
use Rattle.cluster.specs.Table.{placement_signal}

module _ (t : List ℕ) (s w : ℕ) (g : ℕ → Bool) where
  -- w bits, g 0, g 1, .., put at placement k
  abbrev pub put_at : ℕ → List ℕ → List ℕ
  put_at k bs = put_bits bs (place_of t k) w g

  -- what placement k does to the buffer
  step : ℕ → List ℕ → List ℕ
  step k bs = cond (places t s k) (put_at k bs) bs

  -- a property of what placement k leaves, where it is one of the signal and where it is not
  by_step : (Q : List ℕ → Type 0) (k : ℕ) (bs : List ℕ) → (placement_signal t k ≡ s → Q (put_at k bs)) → Q bs
      → Q (cond (places t s k) (put_at k bs) bs)
  by_step Q k bs y n =
      whether (places t s k)
      (λ e. rw e (y (eqb-true (placement_signal t k) s e)))
      (λ e. rw e n)

  pub each_length : (k n : ℕ) (bs : List ℕ) → length (at_each t s put_at k n bs) ≡ length bs
  unfolding at_each
  each_length k zero bs = refl
  each_length k (suc n) bs =
      each_length (suc k) n (cond (places t s k) (put_at k bs) bs)
      ∙ by_step (λ cs. length cs ≡ length bs) k bs (λ _. put_length bs (place_of t k) w g) refl

  pub each_bytes : (k n : ℕ) (bs : List ℕ) → Bytes bs → Bytes (at_each t s put_at k n bs)
  unfolding at_each
  each_bytes k zero bs h = h
  each_bytes k (suc n) bs h =
      each_bytes (suc k) n (cond (places t s k) (put_at k bs) bs) (by_step Bytes k bs (λ _. put_bytes bs (place_of t k) w g) h)

  -- a byte goes by what that byte was before
  pub each_alike : (k n : ℕ) (bs cs : List ℕ) (i : ℕ) → length bs ≡ length cs → get_or bs i 0 ≡ get_or cs i 0
      → get_or (at_each t s put_at k n bs) i 0 ≡ get_or (at_each t s put_at k n cs) i 0
  unfolding at_each
  each_alike k zero bs cs i l e = e
  each_alike k (suc n) bs cs i l e =
      whether (places t s k)
      (λ p. rw p
      (each_alike (suc k) n (put_at k bs) (put_at k cs) i
      (put_length bs (place_of t k) w g ∙ l ∙ sym (put_length cs (place_of t k) w g))
      (put_alike bs cs (place_of t k) w g i l e)))
      (λ p. rw p (each_alike (suc k) n bs cs i l e))

  -- bit j is no bit of placement m
  abbrev pub Beside : ℕ → ℕ → Type 0
  Beside j m = placement_signal t m ≡ s → Apart j 1 (place_of t m) w

  -- a bit that none of the placements has stays
  pub each_outside : (k n : ℕ) (bs : List ℕ) (j : ℕ) → ((m : ℕ) → k ≤ m → m < k + n → Beside j m)
      → bit_at (at_each t s put_at k n bs) j ≡ bit_at bs j
  unfolding at_each
  each_outside k zero bs j out = refl
  each_outside k (suc n) bs j out =
      each_outside (suc k) n (cond (places t s k) (put_at k bs) bs) j (λ m a b. out m (omega arith) (omega arith))
      ∙ by_step (λ cs. bit_at cs j ≡ bit_at bs j) k bs
      (λ e. bit_stays bs (place_of t k) w g j (out k (omega arith) (omega arith) e)) refl

  -- bit i of a placement of the signal is g i, where no other placement of it has that bit
  pub each_inside : (k n : ℕ) (bs : List ℕ) (m i : ℕ) → k ≤ m → m < k + n → placement_signal t m ≡ s
      → i < w → place_of t m + w ≤ 8 * length bs
      → ((p : ℕ) → k ≤ p → p < k + n → (p ≡ m → ⊥) → Beside (place_of t m + i) p)
      → bit_at (at_each t s put_at k n bs) (place_of t m + i) ≡ g i
  unfolding at_each
  each_inside k zero bs m i a b e l end out = absurd (omega arith)
  each_inside k (suc n) bs m i a b e l end out =
      elim (ℕ_discrete k m) [
        | yes q ↦
            rw (q, eq-eqb (placement_signal t m) s e)
            (each_outside (suc m) n (put_at m bs) (place_of t m + i) (λ p x y. out p (omega arith) (omega arith) (λ z. omega arith))
            ∙ bit_put_inside bs (place_of t m) w g i end l)
        | no d ↦
            each_inside (suc k) n (cond (places t s k) (put_at k bs) bs) m i (omega arith) (omega arith) e l
            (by_step (λ cs. place_of t m + w ≤ 8 * length cs) k bs (λ _. omega (arith, put_length bs (place_of t k) w g)) end)
            (λ p x y. out p (omega arith) (omega arith))
      ]
