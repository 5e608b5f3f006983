-- Numbers taken from the desk and put on it, one after the other.
use Prim.Native.Nat.{ℕ, ◌+◌, ◌<◌, ◌≤◌}
use mathlib.Core.Path.{◌≡◌, refl, sym, ◌∙◌}
use mathlib.Core.List.{List, []}
use native.Mathlib.Numerals.{add-one}
use native.Mathlib.Omega.{arith}
use lib.ListN.{length, take, set}
use lib.Seq.{take-suc-set, take_all}
use Rattle.desk.specs.Taken.{each}
use Rattle.desk.specs.Put.{with_each}

-- one more is taken
module _ {A : Type 0} (f : ℕ → A) where
  pub taken_none : [] ≡ each f 0
  unfolding each
  taken_none = refl

  pub taken_next : (a : List A) (i : ℕ) (v : A) → i < length a → take i a ≡ each f i → v ≡ f i → take (i + 1) (set a i v) ≡ each f (i + 1)
  unfolding each
  taken_next a i v h e q = rw (add-one, take-suc-set a i v h, e, q)

  pub taken_all : (a : List A) (i n : ℕ) → length a ≤ i → i ≡ n → take i a ≡ each f i → a ≡ each f n
  taken_all a i n h q e = sym (take_all i a h) ∙ e ∙ rw q

-- one more is put
module _ (f : ℕ → ℕ) (place : ℕ) (d : List ℕ) where
  pub put_none : d ≡ with_each f place 0 d
  unfolding with_each
  put_none = refl

  pub put_next : (a : List ℕ) (i v : ℕ) → a ≡ with_each f place i d → v ≡ f i → set a (place + i) v ≡ with_each f place (i + 1) d
  unfolding with_each
  put_next a i v e q = rw (add-one, e, q)

  pub put_all : {a : List ℕ} {i n : ℕ} → i ≡ n → a ≡ with_each f place i d → a ≡ with_each f place n d
  put_all q e = e ∙ rw q

-- from the front on
module _ (f : ℕ → ℕ) (d : List ℕ) where
  pub put_next_first : (a : List ℕ) (i v : ℕ) → a ≡ with_each f 0 i d → v ≡ f i → set a i v ≡ with_each f 0 (i + 1) d
  put_next_first a i v e q = let z : 0 + i ≡ i = omega arith in rw z at (put_next f 0 d a i v e q)
