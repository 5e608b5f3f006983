-- The three parts of a number whose field is replaced: the bits below, the field, the bits above.
use Prim.Native.Nat.{ℕ, ◌+◌, ◌-◌, ◌*◌, ◌/◌, ◌%◌, ◌^◌, ◌<◌, ◌≤◌}
use mathlib.Core.Path.{◌≡◌, sym, ◌∙◌, ap}
use mathlib.Core.Bool.{Bool}
use native.Mathlib.Nat.{add-mul, mul_assoc, mul_comm}
use native.Mathlib.Omega.{arith}
use lib.Pow.{pow-add, shr_lt}
use Rattle.wire.specs.Bits.{bit}
use Rattle.signal.specs.Signal.{number, replaced}
use Rattle.signal.proofs.Numbers.{number_join, number_mod, number_bits, number_ext, bit_shift}
use Rattle.signal.proofs.PutBits.{after_inside, after_low, after_high}

module _ (old s w v : ℕ) where
  abbrev g : ℕ → Bool
  g = replaced (bit old) s w (bit v)

  below_field : number s g ≡ old % 2 ^ s
  below_field = number_ext s g (bit old) (λ k h. after_low (bit old) s w (bit v) k h) ∙ number_mod s old

  in_field : number w (λ k. g (s + k)) ≡ v % 2 ^ w
  in_field =
      number_ext w (λ k. g (s + k)) (bit v)
      (λ k h. after_inside (bit old) s w (bit v) (s + k) (omega arith) (omega arith) ∙ ap (bit v) (omega arith))
      ∙ number_mod w v

  above_field : (r : ℕ) → old < 2 ^ (r + (s + w)) → number r (λ k. g (s + (w + k))) ≡ old / 2 ^ (s + w)
  above_field r h =
      number_ext r (λ k. g (s + (w + k))) (bit (old / 2 ^ (s + w)))
      (λ k b. after_high (bit old) s w (bit v) (s + (w + k)) (omega arith)
      ∙ ap (bit old) (omega arith)
      ∙ sym (bit_shift old (s + w) k))
      ∙ number_bits r (old / 2 ^ (s + w)) (shr_lt r (s + w) h)

  parts : (r : ℕ) → old < 2 ^ (r + (s + w))
      → number (s + (w + r)) g ≡ old % 2 ^ s + (v % 2 ^ w + old / 2 ^ (s + w) * 2 ^ w) * 2 ^ s
  parts r h =
      number_join s (w + r) g
      ∙ rw (number_join w r (λ k. g (s + k)), below_field, in_field, above_field r h)

regroup : (a v y s w : ℕ) → a + v * 2 ^ s + y * 2 ^ (s + w) ≡ a + (v + y * 2 ^ w) * 2 ^ s
regroup a v y s w =
    rw (add-mul v (y * 2 ^ w) (2 ^ s), mul_assoc y (2 ^ w) (2 ^ s), mul_comm (2 ^ w) (2 ^ s), pow-add 2 s w) (omega arith)

-- a number of n bits with its field replaced
pub field_is : (n old s w v : ℕ) → s + w ≤ n → old < 2 ^ n
    → old % 2 ^ s + v % 2 ^ w * 2 ^ s + old / 2 ^ (s + w) * 2 ^ (s + w) ≡ number n (replaced (bit old) s w (bit v))
field_is n old s w v h b =
    let r = n - (s + w) in
    let e : n ≡ r + (s + w) = omega arith in
    let d : s + (w + r) ≡ n = omega arith in
    regroup (old % 2 ^ s) (v % 2 ^ w) (old / 2 ^ (s + w)) s w
    ∙ sym (parts old s w v r (rw e at b))
    ∙ ap (λ (m : ℕ). number m (replaced (bit old) s w (bit v))) d

-- the same with the powers under names, for the code that computes them
module _ (old s w v above low size scale : ℕ)
    (ea : above ≡ 2 ^ (s + w)) (el : low ≡ 2 ^ s) (ez : size ≡ 2 ^ w) (ec : scale ≡ 2 ^ s)
    (hs : s < 8) (hw : w ≤ 16) (ho : old < 2 ^ 24) where
  pub field_sum : old % low + v % size * scale + old / above * above ≡ number 24 (replaced (bit old) s w (bit v))
  field_sum = rw (ea, el, ez, ec) (field_is 24 old s w v (omega arith) ho)
