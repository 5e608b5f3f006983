-- Which PCI makes which kind of frame.
use Prim.Native.Nat.{ℕ, ◌≤◌, ◌<◌}
use mathlib.Core.Path.{◌≡◌}
use mathlib.Core.Bool.{true, false, and-false}
use mathlib.Core.Logic.{◌↔◌, ◌⊎◌, inl, inr, ⊎_elim}
use native.Mathlib.Omega.{arith}
use borrow.Author.Tests.{le-leb, lt-leb}
use lib.Dec.{leb}
use Rattle.transport.specs.Reassembly.{between, kind_of, Kind, single, first, next, other}
use Rattle.transport.proofs.Tests.{order}

-- a number between the two, below them and above them
pub between_true : (a b n : ℕ) → a ≤ n → n ≤ b → between a b n ≡ true
between_true a b n h k = rw (le-leb a n h, le-leb n b k)

between_low : (a b n : ℕ) → n < a → between a b n ≡ false
between_low a b n h = rw (lt-leb a n h)

between_high : (a b n : ℕ) → b < n → between a b n ≡ false
between_high a b n h = rw (lt-leb n b h) (and-false (leb a n))

-- "PCI 0, 7..15 or 48 and above"
abbrev pub NoKind : ℕ → Type 0
NoKind p = (p ≡ 0) ⊎ ((7 ≤ p) × (p ≤ 15)) ⊎ (48 ≤ p)

-- the PCIs of a kind
abbrev pub Pci : Kind → ℕ → Type 0
Pci single p = (1 ≤ p) × (p ≤ 6)
Pci first p = (16 ≤ p) × (p ≤ 31)
Pci next p = (32 ≤ p) × (p ≤ 47)
Pci other p = NoKind p

-- the PCIs of a kind make that kind
module _ (p : ℕ) where
  pub kind_single : 1 ≤ p → p ≤ 6 → kind_of p ≡ single
  unfolding kind_of
  kind_single h k = rw (between_true 1 6 p h k)

  pub kind_first : 16 ≤ p → p ≤ 31 → kind_of p ≡ first
  unfolding kind_of
  kind_first h k = rw (between_high 1 6 p (omega arith), between_true 16 31 p h k)

  pub kind_next : 32 ≤ p → p ≤ 47 → kind_of p ≡ next
  unfolding kind_of
  kind_next h k = rw (between_high 1 6 p (omega arith), between_high 16 31 p (omega arith), between_true 32 47 p h k)

  other_low : p ≡ 0 → kind_of p ≡ other
  unfolding kind_of
  other_low h = rw h

  other_middle : 7 ≤ p → p ≤ 15 → kind_of p ≡ other
  unfolding kind_of
  other_middle h k =
      rw (between_high 1 6 p (omega arith), between_low 16 31 p (omega arith), between_low 32 47 p (omega arith))

  other_high : 48 ≤ p → kind_of p ≡ other
  unfolding kind_of
  other_high h =
      rw (between_high 1 6 p (omega arith), between_high 16 31 p (omega arith), between_high 32 47 p (omega arith))

  -- and the other numbers make none of the three
  pub kind_other : NoKind p → kind_of p ≡ other
  kind_other = ⊎_elim other_low (⊎_elim (λ h. other_middle h.0 h.1) other_high)

  -- every PCI is one of its kind's
  pub pci_of_kind : Pci (kind_of p) p
  pci_of_kind =
      order p 0 (λ h. let e : p ≡ 0 = omega arith in rw (other_low e) (inl e))
      (λ h₀. order p 6 (λ h. rw (kind_single h₀ h) (h₀, h))
      (λ h₁. order p 15 (λ h. rw (other_middle h₁ h) (inr (inl (h₁, h))))
      (λ h₂. order p 31 (λ h. rw (kind_first h₂ h) (h₂, h))
      (λ h₃. order p 47 (λ h. rw (kind_next h₃ h) (h₃, h))
      (λ h₄. rw (other_high h₄) (inr (inr h₄)))))))

  -- a frame is of no kind exactly when its PCI is 0, 7..15 or 48 and above
  pub other_exactly : (kind_of p ≡ other) ↔ NoKind p
  other_exactly = (λ e. rw e at pci_of_kind, kind_other)
