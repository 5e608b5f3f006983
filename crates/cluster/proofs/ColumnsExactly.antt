-- Each column over plain numbers: its clause is true exactly where the paper's sentence holds.
use Prim.Native.Nat.{ℕ, zero, suc, ◌+◌, ◌%◌, ◌^◌, ◌≤◌, ◌<◌}
use mathlib.Core.Path.{◌≡◌, refl, sym, ◌∙◌}
use mathlib.Core.Bool.{Bool, true, false, not, ◌&&◌}
use mathlib.Core.Logic.{◌↔◌, ◌⊎◌, inl, inr, ⊎_elim}
use native.Mathlib.Numerals.{add-one}
use native.Mathlib.Omega.{arith}
use borrow.Author.Tests.{ltb-true, lt-ltb, leb-true, le-leb, eqb-true, eqb-false, eq-eqb, ne_eqb, not-true}
use lib.Dec.{ltb, leb, eqb}
use Rattle.wire.proofs.Tests.{and_left, and_right, whether}
use Rattle.cluster.specs.Columns.{within, identifier_right, offset_right, width_right, start_limit, start_right, follows, target_right}
use Rattle.cluster.specs.Right.{earlier, counts_up}
use Rattle.cluster.specs.Table.{counted}
use Rattle.cluster.proofs.Any.{none_below, any_none}
use Rattle.cluster.proofs.InWords.{CountsOn, NotEarlier}

-- ---- tests

pub le_exactly : (a b : ℕ) → (leb a b ≡ true) ↔ (a ≤ b)
le_exactly a b = (leb-true a b, le-leb a b)

pub lt_exactly : (a b : ℕ) → (ltb a b ≡ true) ↔ (a < b)
lt_exactly a b = (ltb-true a b, lt-ltb a b)

pub eq_exactly : (a b : ℕ) → (eqb a b ≡ true) ↔ (a ≡ b)
eq_exactly a b = (eqb-true a b, eq-eqb a b)

pub and_true : (a b : Bool) → a ≡ true → b ≡ true → (a && b) ≡ true
and_true true b p q = q
and_true false b p q = p

pub and_exactly : {A B : Type 0} (a b : Bool) → (a ≡ true) ↔ A → (b ≡ true) ↔ B → ((a && b) ≡ true) ↔ (A × B)
and_exactly a b p q = (λ h. (p.0 (and_left a b h), q.0 (and_right a b h)), λ w. and_true a b (p.1 w.0) (q.1 w.1))

pub within_exactly : (a b x : ℕ) → (within a b x ≡ true) ↔ ((a ≤ x) × (x ≤ b))
within_exactly a b x = and_exactly (leb a x) (leb x b) (le_exactly a x) (le_exactly x b)

-- ---- numbers of records

pub new_exactly : (number : ℕ → ℕ) (k : ℕ) → (not (earlier number k) ≡ true) ↔ NotEarlier number k
new_exactly number k =
    let same : ℕ → Bool = (λ j. eqb (number j) (number k)) in (
      (λ h j b. eqb-false (number j) (number k) (none_below k same (not-true (earlier number k) h) j b)),
      (λ new. rw (any_none k same (λ j b. ne_eqb (number j) (number k) (new j b)))),
    )

pub counts_exactly : (number : ℕ → ℕ) (k : ℕ) → (counts_up number k ≡ true) ↔ CountsOn number k
unfolding counted follows
counts_exactly number zero = (
  (λ h. ((λ z. eqb-true (number 0) 0 h), λ j e. absurd (omega arith))),
  (λ w. eq-eqb (number 0) 0 (w.0 refl)),
)
counts_exactly number (suc k) = (
  (λ h. ((λ z. absurd (omega arith)), λ j e. let q : j ≡ k = omega arith in rw q (step h))),
  (λ w. back (w.1 k (omega arith))),
)
  where
    step : follows (suc (number k)) (number (suc k)) ≡ true → (number (suc k) ≡ number k) ⊎ (number (suc k) ≡ number k + 1)
    step h =
        whether (eqb (number (suc k)) (number k))
        (λ e. inl (eqb-true (number (suc k)) (number k) e))
        (λ e. inr (eqb-true (number (suc k)) (suc (number k)) (rw e at h) ∙ sym (add-one (number k))))

    back : (number (suc k) ≡ number k) ⊎ (number (suc k) ≡ number k + 1) → follows (suc (number k)) (number (suc k)) ≡ true
    back =
        ⊎_elim
        (λ e. rw (eq-eqb (number (suc k)) (number k) e))
        (λ e. rw (eq-eqb (number (suc k)) (suc (number k)) (e ∙ add-one (number k)), ne_eqb (number (suc k)) (number k) (λ q. omega arith)))

-- ---- a frame

pub identifier_exactly : (number : ℕ → ℕ) (f : ℕ)
    → (identifier_right (earlier number f) (number f) ≡ true) ↔ ((number f ≤ 59) × NotEarlier number f)
identifier_exactly number f =
    and_exactly (ltb (number f) 60) (not (earlier number f))
    ((λ h. omega (arith, ltb-true (number f) 60 h)), λ b. lt-ltb (number f) 60 (omega arith))
    (new_exactly number f)

-- ---- a signal, of kind 0 or 1

pub offset_exactly : (kind bits offset : ℕ) → kind ≤ 1
    → (offset_right (eqb kind 1) bits offset ≡ true) ↔ ((offset < bits) × (kind ≡ 1 → offset % 8 ≡ 0))
unfolding offset_right
offset_exactly zero bits offset h =
    and_exactly (ltb offset bits) true (lt_exactly offset bits) ((λ _ e. absurd (omega arith)), λ _. refl)
offset_exactly (suc zero) bits offset h =
    and_exactly (ltb offset bits) (eqb (offset % 8) 0) (lt_exactly offset bits)
    ((λ e _. eqb-true (offset % 8) 0 e), λ w. eq-eqb (offset % 8) 0 (w refl))
offset_exactly (suc (suc kind)) bits offset h = absurd (omega arith)

pub width_exactly : (kind width : ℕ) → kind ≤ 1
    → (width_right (eqb kind 1) width ≡ true)
    ↔ ((kind ≡ 0 → (1 ≤ width) × (width ≤ 16)) × (kind ≡ 1 → (8 ≤ width) × (width ≤ 64) × (width % 8 ≡ 0)))
unfolding width_right
width_exactly zero width h =
    let scalar = within_exactly 1 16 width in
    ((λ e. ((λ _. scalar.0 e), λ q. absurd (omega arith))), λ w. scalar.1 (w.0 refl))
width_exactly (suc zero) width h =
    let array = and_exactly (within 8 64 width) (eqb (width % 8) 0) (within_exactly 8 64 width) (eq_exactly (width % 8) 0) in (
      (λ e. ((λ q. absurd (omega arith)), λ _. let a = array.0 e in (a.0.0, a.0.1, a.1))),
      (λ w. let a = w.1 refl in array.1 ((a.0, a.1), a.2)),
    )
width_exactly (suc (suc kind)) width h = absurd (omega arith)

pub start_exactly : (kind width start : ℕ) → kind ≤ 1
    → (start_right (eqb kind 1) width start ≡ true) ↔ ((kind ≡ 0 → start < 2 ^ width) × (kind ≡ 1 → start ≤ 255))
unfolding start_limit
start_exactly zero width start h =
    ((λ e. ((λ _. ltb-true start (2 ^ width) e), λ q. absurd (omega arith))), λ w. lt-ltb start (2 ^ width) (w.0 refl))
start_exactly (suc zero) width start h = (
  (λ e. ((λ q. absurd (omega arith)), λ _. omega (arith, ltb-true start 256 e))),
  (λ w. lt-ltb start 256 (omega (arith, w.1 refl))),
)
start_exactly (suc (suc kind)) width start h = absurd (omega arith)

-- ---- an entry, of kind 0 to 3

pub target_exactly : (frames lists kind target : ℕ) → kind ≤ 3
    → (target_right frames lists kind target ≡ true)
    ↔ ((kind ≡ 0 → target < frames) × (kind ≡ 1 → target < lists) × (kind ≡ 2 → target ≡ 0) × (kind ≡ 3 → target ≡ 0))
unfolding target_right
target_exactly frames lists zero target h = (
  (λ e. ((λ _. ltb-true target frames e), (λ q. absurd (omega arith)), (λ q. absurd (omega arith)), λ q. absurd (omega arith))),
  (λ w. lt-ltb target frames (w.0 refl)),
)
target_exactly frames lists (suc zero) target h = (
  (λ e. ((λ q. absurd (omega arith)), (λ _. ltb-true target lists e), (λ q. absurd (omega arith)), λ q. absurd (omega arith))),
  (λ w. lt-ltb target lists (w.1 refl)),
)
target_exactly frames lists (suc (suc zero)) target h = (
  (λ e. ((λ q. absurd (omega arith)), (λ q. absurd (omega arith)), (λ _. eqb-true target 0 e), λ _. eqb-true target 0 e)),
  (λ w. eq-eqb target 0 (w.2 refl)),
)
target_exactly frames lists (suc (suc (suc zero))) target h = (
  (λ e. ((λ q. absurd (omega arith)), (λ q. absurd (omega arith)), (λ _. eqb-true target 0 e), λ _. eqb-true target 0 e)),
  (λ w. eq-eqb target 0 (w.3 refl)),
)
target_exactly frames lists (suc (suc (suc (suc kind)))) target h = absurd (omega arith)
