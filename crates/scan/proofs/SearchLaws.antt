-- The place of a byte and a part of some bytes in plain words: what determines each.
use Rattle.std.proofs.Common.{◌≡◌, ℕ, zero, suc, ◌+◌, ◌-◌, ◌<◌, ◌≤◌, ◌↔◌, List, [], ◌∷◌, length, take, min, get_or, refl, ◌∙◌, arith, eq-eqb, ne_eqb}
use Rattle.std.proofs.lemmas.List.{length-take, length-drop, get_or-take, get_or-drop}
use native.Mathlib.Decide.{ℕ_discrete}
use Rattle.scan.specs.Bytes.{index_of, index_after, slice}

-- a place is at most the length, no byte before it is the one, and a byte that stands there is
pub record First (byte : ℕ) (bs : List ℕ) (i : ℕ) : Type 0 where
  pub at_most : i ≤ length bs
  pub before : (k : ℕ) → k < i → get_or bs k 0 ≡ byte → ⊥
  pub there : i < length bs → get_or bs i 0 ≡ byte

module _ (byte b : ℕ) (bs : List ℕ) where
  here : b ≡ byte → index_of byte (b ∷ bs) ≡ 0
  unfolding index_of index_after
  here e = rw (eq-eqb b byte e) refl

  further : (b ≡ byte → ⊥) → index_of byte (b ∷ bs) ≡ suc (index_of byte bs)
  unfolding index_of index_after
  further n = rw (ne_eqb b byte n) refl

  first_here : b ≡ byte → First byte (b ∷ bs) 0
  first_here e = record { at_most = omega arith; before = λ k h q. omega arith; there = λ h. e }

  first_further : (b ≡ byte → ⊥) → (i : ℕ) → First byte bs i → First byte (b ∷ bs) (suc i)
  first_further n i f = record { at_most = omega (arith, f.at_most); before = before; there = λ h. f.there (omega arith) }
    where
      before : (k : ℕ) → k < suc i → get_or (b ∷ bs) k 0 ≡ byte → ⊥
      before zero h q = n q
      before (suc k) h q = f.before k (omega arith) q

first : (byte : ℕ) (bs : List ℕ) → First byte bs (index_of byte bs)
unfolding index_of
first byte [] = record { at_most = omega arith; before = λ k h e. omega arith; there = λ h. absurd (omega arith) }
first byte (b ∷ bs) =
    elim (ℕ_discrete b byte) [
      | yes p ↦ rw (here byte b bs p) (first_here byte b bs p)
      | no p ↦ rw (further byte b bs p) (first_further byte b bs p (index_of byte bs) (first byte bs))
    ]

-- of two such places neither is before the other
not_before : (byte : ℕ) (bs : List ℕ) (i j : ℕ) → First byte bs i → First byte bs j → i < j → ⊥
not_before byte bs i j f g h = g.before i h (f.there (omega (arith, g.at_most)))

-- the place of the first byte is the one place with these three facts
pub index_exactly : (byte : ℕ) (bs : List ℕ) (i : ℕ) → (i ≡ index_of byte bs) ↔ First byte bs i
index_exactly byte bs i = (
  (λ e. rw e (first byte bs)),
  (λ f.
      let a : i < index_of byte bs → ⊥ = not_before byte bs i (index_of byte bs) f (first byte bs) in
      let b : index_of byte bs < i → ⊥ = not_before byte bs (index_of byte bs) i (first byte bs) f in
      omega arith),
)

-- a part has the bytes from one place up to another, as far as there are some, and no others
pub slice_length : (from to : ℕ) (bs : List ℕ) → length (slice from to bs) ≡ min to (length bs) - from
unfolding slice
slice_length from to bs = simp (length-drop, length-take) refl

pub slice_at : (from to : ℕ) (bs : List ℕ) (k : ℕ) → from + k < to → get_or (slice from to bs) k 0 ≡ get_or bs (from + k) 0
unfolding slice
slice_at from to bs k h = get_or-drop from (take to bs) k 0 ∙ get_or-take to bs (from + k) 0 h
