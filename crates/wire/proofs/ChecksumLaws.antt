-- Laws of checksums: the sum stays a byte, and what the receiver's test of 001, Annex A.3, tells.
use Prim.Native.Nat.{ℕ, zero, suc, ◌+◌, ◌<◌, ◌≤◌}
use mathlib.Core.Path.{◌≡◌, refl}
use mathlib.Core.Logic.{◌↔◌, ◌⊎◌, inl, inr, ⊎_elim}
use mathlib.Core.List.{List, [], ◌∷◌}
use mathlib.Core.Bool.{Bool, true, not, beq}
use native.Mathlib.Omega.{arith}
use borrow.Author.Tests.{ltb-true, ltb-false}
use lib.Dec.{ltb}
use Rattle.wire.specs.Bits.{bit, Bytes}
use Rattle.wire.specs.Checksum.{with_carry, sum, covered, model_of, inverted, checksum_byte}
use Rattle.wire.specs.declared.checksum.Model.{Model}
use Rattle.wire.specs.declared.checksum.Model.TheVariants.{Classic, Enhanced}
use Rattle.wire.proofs.Below.{all_below, below}
use Rattle.wire.proofs.IdentifierLaws.{protected_below}
use Rattle.wire.proofs.Sums.{no_carry, carry}
use Rattle.wire.proofs.Tests.{beq_true, whether}

-- one more byte leaves the sum in 0..255
pub carry_below : (s b : ℕ) → s < 256 → b < 256 → with_carry s b < 256
carry_below s b hs hb =
    whether (ltb (s + b) 256)
    (λ t. let h : s + b < 256 = ltb-true _ _ t in omega (arith, no_carry s b h))
    (λ t. let h : 256 ≤ s + b = ltb-false _ _ t in omega (arith, carry s b h))

-- the sum never leaves 0..255
pub sum_below : (s : ℕ) (bs : List ℕ) → s < 256 → Bytes bs → sum s bs < 256
unfolding sum
sum_below s [] h hb = h
sum_below s (b ∷ bs) h hb = sum_below (with_carry s b) bs (carry_below s b h (hb 0)) (λ i. hb (suc i))

-- the bytes that a checksum covers are bytes
pub covered_bytes : (m : Model) (id : ℕ) (bs : List ℕ) → id < 64 → Bytes bs → Bytes (covered m id bs)
unfolding covered
covered_bytes Classic id bs h hb i = hb i
covered_bytes Enhanced id bs h hb zero = protected_below id h
covered_bytes Enhanced id bs h hb (suc i) = hb i

-- the receiver's test of A.3: adding the checksum with carry gives 255. The right checksum always passes. The only
-- other byte that passes is 255 where the sum is 255, since 255 + 255 - 255 is 255 again
pub receiver_test : (s c : ℕ) → s < 256 → c < 256
    → (with_carry s c ≡ 255) ↔ ((c ≡ inverted s) ⊎ ((s ≡ 255) × (c ≡ 255)))
unfolding inverted
receiver_test s c hs hc = (
  (λ r. whether (ltb (s + c) 256)
      (λ t. let h = ltb-true _ _ t in let e = no_carry s c h in inl (omega arith))
      (λ t. let h = ltb-false _ _ t in let e = carry s c h in inr (omega arith, omega arith))),
  ⊎_elim
      (λ e. let h : s + c < 256 = omega arith in omega (arith, no_carry s c h))
      (λ e. let h : 256 ≤ s + c = omega arith in omega (arith, carry s c h)),
)

-- so below 255 the test is exact
pub receiver_exact : (s c : ℕ) → s < 255 → c < 256 → (with_carry s c ≡ 255) ↔ (c ≡ inverted s)
receiver_exact s c hs hc = (
  (λ r. ⊎_elim (λ e. e) (λ e. absurd (omega arith)) ((receiver_test s c (omega arith) hc).0 r)),
  (λ e. (receiver_test s c (omega arith) hc).1 (inl e)),
)

-- the test at a whole frame: it passes for the frame's checksum, and for FF in the place of 00, and for nothing else
pub frame_test : (id : ℕ) (wish : Model) (bs : List ℕ) (c : ℕ) → id < 64 → Bytes bs → c < 256
    → (with_carry (sum 0 (covered (model_of id wish) id bs)) c ≡ 255)
    ↔ ((c ≡ checksum_byte id wish bs) ⊎ ((checksum_byte id wish bs ≡ 0) × (c ≡ 255)))
unfolding checksum_byte inverted
frame_test id wish bs c h hb hc =
    let s = sum 0 (covered (model_of id wish) id bs) in
    let hs : s < 256 = sum_below 0 (covered (model_of id wish) id bs) (omega arith) (covered_bytes (model_of id wish) id bs h hb) in (
      (λ r. ⊎_elim inl (λ e. inr (omega arith, e.1)) ((receiver_test s c hs hc).0 r)),
      (λ e. (receiver_test s c hs hc).1 (⊎_elim inl (λ z. inr (omega arith, z.1)) e)),
    )

-- at 255 it is not: the right checksum is 0, and 255 passes too
pub receiver_slip : (inverted 255 ≡ 0) × (with_carry 255 0 ≡ 255) × (with_carry 255 255 ≡ 255)
unfolding inverted with_carry
receiver_slip = (refl, refl, refl)

-- a checksum is a byte
pub inverted_below : (s : ℕ) → inverted s < 256
unfolding inverted
inverted_below s = omega arith

-- inverting turns each of the eight bits
turn_test : ℕ → ℕ → Bool
turn_test s k = beq (bit (inverted s) k) (not (bit s k))

all_turns : all_below 256 (λ s. all_below 8 (turn_test s)) ≡ true
unfolding turn_test inverted bit
all_turns = refl

pub inverted_bit : (s k : ℕ) → s < 256 → k < 8 → bit (inverted s) k ≡ not (bit s k)
unfolding turn_test
inverted_bit s k hs hk = beq_true _ _ (below 8 (turn_test s) (below 256 (λ n. all_below 8 (turn_test n)) all_turns s hs) k hk)
