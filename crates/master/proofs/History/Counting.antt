-- Counting the frames of a list that have a property.
use Prim.Native.Nat.{ℕ, suc, ◌≤◌, ◌<◌}
use mathlib.Core.Path.{◌≡◌, refl}
use mathlib.Core.Logic.{◌↔◌, ⊎_elim}
use mathlib.Core.Bool.{Bool, true, false, cond}
use mathlib.Core.List.Memᴰ
use mathlib.Core.List.{List, [], ◌∷◌, Memᴰ}
use native.Mathlib.Omega.{arith}
use Rattle.transport.proofs.Tests.{whether}
use Rattle.master.specs.Replies.{Count, none_left, one_more, not_this}
use Rattle.master.proofs.Tests.{never, false_unless}

unfoldable pub count_if : (ℕ → Bool) → List ℕ → ℕ
count_if p [] = 0
count_if p (f ∷ fs) = cond (p f) (suc (count_if p fs)) (count_if p fs)

-- `count_if` computes `Count`, where p decides P
module _ (p : ℕ → Bool) (P : ℕ → Type 0) (decides : (f : ℕ) → (p f ≡ true) ↔ P f) where
  pub count_is : {fs : List ℕ} {n : ℕ} → Count P fs n → count_if p fs ≡ n
  unfolding count_if
  count_is none_left = refl
  count_is (one_more {f = f} x c) = rw ((decides f).1 x, count_is c)
  count_is (not_this {f = f} x c) = rw (false_unless (p f) (λ t. x ((decides f).0 t)), count_is c)

  pub count_holds : (fs : List ℕ) → Count P fs (count_if p fs)
  unfolding count_if
  count_holds [] = none_left
  count_holds (f ∷ fs) =
      whether (p f)
      (λ b. rw b (one_more ((decides f).0 b) (count_holds fs)))
      (λ b. rw b (not_this (λ x. never (rw b at ((decides f).1 x))) (count_holds fs)))

-- what has q has p: no more frames have q, and fewer if one has p and not q
module _ (q p : ℕ → Bool) where
  pub count_le : (fs : List ℕ) → ((g : ℕ) → Memᴰ g fs → q g ≡ true → p g ≡ true) → count_if q fs ≤ count_if p fs
  unfolding count_if
  count_le [] s = omega arith
  count_le (f ∷ fs) s =
      let r = count_le fs (λ g i. s g (Memᴰ.tail i)) in
      whether (q f)
      (λ x. rw (x, s f (Memᴰ.head refl) x) (omega arith))
      (λ x. whether (p f) (λ y. rw (x, y) (omega arith)) (λ y. rw (x, y) r))

  pub count_lt : (fs : List ℕ) (g : ℕ) → ((g : ℕ) → Memᴰ g fs → q g ≡ true → p g ≡ true) → Memᴰ g fs → q g ≡ false → p g ≡ true
      → count_if q fs < count_if p fs
  unfolding count_if
  count_lt [] g s i a b = absurd (Memᴰ.not-nil i)
  count_lt (f ∷ fs) g s i a b =
      let rest : (k : ℕ) → Memᴰ k fs → q k ≡ true → p k ≡ true = λ k j. s k (Memᴰ.tail j) in
      ⊎_elim
      (λ e. rw (← e, a, b) (omega (arith, count_le fs rest)))
      (λ j.
      let r = count_lt fs g rest j a b in
      whether (q f)
      (λ x. rw (x, s f (Memᴰ.head refl) x) (omega arith))
      (λ x. whether (p f) (λ y. rw (x, y) (omega arith)) (λ y. rw (x, y) r)))
      (Memᴰ.cases_cons i)
