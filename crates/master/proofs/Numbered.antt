-- What `all` says of the elements with their numbers: a test that goes over the list from a number on holds just where each of them passes.
use Rattle.std.proofs.Common.{ℕ, zero, suc, ◌+◌, ◌<◌, ◌≡◌, ◌∙◌, sym, Bool, true, false, ◌&&◌, List, [], ◌∷◌, length, arith}
use Rattle.std.specs.Bool.{MatchBool}
use Rattle.std.specs.List.{AllWithin, HoldsAt, enumerate_from}
use Rattle.transport.proofs.Tests.{whether}

module _ {X : Type 0} (test : ℕ → X → Bool) where
  abbrev pub Passes : ℕ × X → Type 0
  Passes p = test p.0 p.1 ≡ true

  abbrev pub Fails : ℕ × X → Type 0
  Fails p = test p.0 p.1 ≡ false

  module _ (whole : ℕ → List X → Bool) (none : (n : ℕ) → whole n [] ≡ true)
      (more : (n : ℕ) (x : X) (xs : List X) → whole n (x ∷ xs) ≡ (test n x && whole (n + 1) xs)) where
    each : (n : ℕ) (xs : List X) → AllWithin Passes (enumerate_from n xs) 0 (length (enumerate_from n xs)) → whole n xs ≡ true
    each n [] h = none n
    each n (x ∷ xs) h =
        more n x xs ∙ rw (h 0 (n, x) (omega arith) (omega arith)) (each (n + 1) xs (λ k d a b. h (suc k) d (omega arith) (omega arith)))

    one : (n : ℕ) (xs : List X) (k : ℕ) → k < length (enumerate_from n xs) → HoldsAt Fails (enumerate_from n xs) k → whole n xs ≡ false
    one n [] k h f = absurd (omega arith)
    one n (x ∷ xs) zero h f = more n x xs ∙ rw (f (n, x))
    one n (x ∷ xs) (suc k) h f =
        let rest = one (n + 1) xs k (omega arith) f in
        whether (test n x) (λ e. more n x xs ∙ rw e rest) (λ e. more n x xs ∙ rw e)

    pub whole_is : (n : ℕ) (xs : List X) (r : Bool)
        → MatchBool r (AllWithin Passes (enumerate_from n xs) 0 (length (enumerate_from n xs)))
        ((k : ℕ) × (k < length (enumerate_from n xs)) × HoldsAt Fails (enumerate_from n xs) k)
        → r ≡ whole n xs
    whole_is n xs true h = sym (each n xs h)
    whole_is n xs false h = sym (one n xs h.0 h.1 h.2)
