-- Checksums in the paper's own words: the sum by what determines it, the bytes that it covers, and when 11 is answered.
use Prim.Native.Nat.{ℕ, suc, ◌+◌, ◌-◌, ◌*◌, ◌%◌, ◌<◌, ◌≤◌}
use mathlib.Core.Path.{◌≡◌, refl, sym, ◌∙◌}
use mathlib.Core.Logic.{◌↔◌, ◌⊎◌, inl, inr, ⊎_elim}
use mathlib.Core.List.{List, [], ◌∷◌}
use native.Mathlib.Omega.{arith}
use borrow.Author.Tests.{leb-false, le-leb, lt-leb, leb-true, ltb-true, ltb-false, lt-ltb, le-ltb}
use lib.Dec.{ltb, leb}
use lib.ListN.{length}
use Rattle.wire.specs.Bits.{Bytes}
use Rattle.wire.specs.Checksum.{with_carry, sum, covered, model_of, inverted, checksum_byte, checksum_of}
use Rattle.std.specs.Prelude.{Ok}
use Rattle.wire.specs.declared.checksum.Model.{Model}
use Rattle.wire.specs.declared.checksum.Model.TheVariants.{Classic, Enhanced}
use Rattle.wire.proofs.AnswerLaws.{sums}
use Rattle.wire.proofs.ChecksumLaws.{carry_below}
use Rattle.wire.proofs.IdentifierExactly.{Parity, protected_exactly, eleven}
use Rattle.wire.proofs.Sums.{no_carry, carry}
use Rattle.wire.proofs.Tests.{whether}

-- ---- the sum

-- "each time the sum is 256 or more, subtract 255"
pub carry_exactly : (s b r : ℕ)
    → (r ≡ with_carry s b) ↔ (((s + b < 256) × (r ≡ s + b)) ⊎ ((256 ≤ s + b) × (r + 255 ≡ s + b)))
carry_exactly s b r = (
  (λ e. whether (ltb (s + b) 256)
      (λ t. let h : s + b < 256 = ltb-true _ _ t in inl (h, e ∙ no_carry s b h))
      (λ t. let h : 256 ≤ s + b = ltb-false _ _ t in inr (h, omega (arith, carry s b h)))),
  ⊎_elim (λ h. h.1 ∙ sym (no_carry s b h.0)) (λ h. omega (arith, carry s b h.0)),
)

-- all bytes added, with no carry
unfoldable pub total : List ℕ → ℕ
total [] = 0
total (b ∷ bs) = b + total bs

-- a sum of bytes is a byte, lacks a multiple of 255 of the total, and is 0 only where the total is
pub record Summed (total s : ℕ) : Type 0 where
  pub small : s < 256
  pub lacks : (k : ℕ) × (total ≡ s + 255 * k)
  pub only_zero : s ≡ 0 → total ≡ 0

sum_from : (s : ℕ) (bs : List ℕ) → s < 256 → Bytes bs → Summed (s + total bs) (sum s bs)
unfolding sum total
sum_from s [] h hb = record { small = h; lacks = (0, omega arith); only_zero = (λ e. omega arith) }
sum_from s (b ∷ bs) h hb =
    let r = sum_from (with_carry s b) bs (carry_below s b h (hb 0)) (λ i. hb (suc i)) in
    let k = r.lacks.0 in
    ⊎_elim
    (λ g. record {
      small = r.small;
      lacks = (k, omega (arith, r.lacks.1));
      only_zero = (λ e. omega (arith, r.only_zero e));
    })
    (λ g. record {
      small = r.small;
      lacks = (k + 1, omega (arith, r.lacks.1));
      only_zero = (λ e. absurd (omega (arith, r.only_zero e)));
    })
    ((carry_exactly s b (with_carry s b)).0 refl)

-- the sum of bytes is the one number that lacks a multiple of 255 of their total, is a byte, and is 0 only where the total is
pub sum_exactly : (bs : List ℕ) (s : ℕ) → Bytes bs → (s ≡ sum 0 bs) ↔ Summed (total bs) s
sum_exactly bs s hb =
    let r : Summed (0 + total bs) (sum 0 bs) = sum_from 0 bs (omega arith) hb in (
      (λ e. rw e (record { small = r.small; lacks = (r.lacks.0, omega (arith, r.lacks.1)); only_zero = (λ z. omega (arith, r.only_zero z)) })),
      (λ g. whether (ltb s 1)
          (λ t. let z : s ≡ 0 = omega (arith, ltb-true s 1 t) in omega (arith, g.only_zero z, r.lacks.1))
          (λ t. whether (ltb (sum 0 bs) 1)
          (λ u. let z : sum 0 bs ≡ 0 = omega (arith, ltb-true (sum 0 bs) 1 u) in absurd (omega (arith, r.only_zero z, g.lacks.1, ltb-false s 1 t)))
          (λ u. omega (arith, ltb-false s 1 t, ltb-false (sum 0 bs) 1 u, g.lacks.1, r.lacks.1, g.small, r.small)))),
    )

-- ---- the bytes that a checksum covers

-- "Classic: data bytes only", and "at the end invert the eight bits"
pub classic_exactly : (id : ℕ) (bs : List ℕ) → checksum_byte id Classic bs ≡ 255 - sum 0 bs
unfolding checksum_byte inverted model_of covered
classic_exactly id bs = whether (ltb id 60) (λ t. rw t) (λ t. rw t)

-- "Identifiers 60 to 63 use classic", whatever is wished
pub classic_from_60 : (id : ℕ) (wish : Model) (bs : List ℕ) → 60 ≤ id → checksum_byte id wish bs ≡ 255 - sum 0 bs
unfolding checksum_byte inverted model_of covered
classic_from_60 id wish bs h = rw (le-ltb id 60 h)

-- "Enhanced: the protected identifier too", before the data: p is the byte with the identifier's six bits and its two parity bits
pub enhanced_exactly : (id p : ℕ) (bs : List ℕ) → id < 60 → p < 256 → p % 64 ≡ id → Parity p
    → checksum_byte id Enhanced bs ≡ 255 - sum 0 (p ∷ bs)
unfolding checksum_byte inverted model_of covered
enhanced_exactly id p bs h b i r = rw (lt-ltb id 60 h, (protected_exactly id p (omega arith)).1 (b, i, r))

-- ---- what is answered

module _ (id : ℕ) (wish : Model) (bs : List ℕ) where
  -- a checksum is refused with 11 above 63, for no data and for more than 8 bytes
  pub checksum_refused_exactly : (checksum_of id wish bs ≡ eleven) ↔ ((64 ≤ id) ⊎ ((length bs ≡ 0) ⊎ (9 ≤ length bs)))
  unfolding checksum_of
  checksum_refused_exactly = (
    (λ e. whether (ltb id 64)
        (λ t. whether (leb 1 (length bs))
        (λ u. whether (leb (length bs) 8)
        (λ v. let q = rw (t, u, v) at e in let z : ◌≡◌ {A = ℕ} 0 1 = cc in absurd (omega arith))
        (λ v. inr (inr (omega (arith, leb-false (length bs) 8 v)))))
        (λ u. inr (inl (omega (arith, leb-false 1 (length bs) u)))))
        (λ t. inl (ltb-false id 64 t))),
    ⊎_elim (λ h. rw (le-ltb id 64 h))
        (⊎_elim (λ h. whether (ltb id 64) (λ t. rw (t, h)) (λ t. rw t))
        (λ h. whether (ltb id 64)
        (λ t. rw (t, le-leb 1 (length bs) (omega arith), lt-leb (length bs) 8 (omega arith)))
        (λ t. rw t))),
  )

  -- and otherwise it is the checksum's byte
  pub checksum_given_exactly : (c : ℕ)
      → (checksum_of id wish bs ≡ Ok c) ↔ ((id < 64) × (1 ≤ length bs) × (length bs ≤ 8) × (c ≡ checksum_byte id wish bs))
  checksum_given_exactly c = (
    (λ e.
        let no : (64 ≤ id) ⊎ ((length bs ≡ 0) ⊎ (9 ≤ length bs)) → ⊥ =
        λ h. let q = checksum_refused_exactly.1 h in let z : ◌≡◌ {A = ℕ} 0 1 = cc in omega arith in
        whether (ltb id 64)
        (λ t. whether (leb 1 (length bs))
        (λ u. whether (leb (length bs) 8)
        (λ v.
        let a = ltb-true id 64 t in
        let b = leb-true 1 (length bs) u in
        let d = leb-true (length bs) 8 v in
        let q = sums id wish bs (a, b, d) in
        (a, b, d, cc))
        (λ v. absurd (no (inr (inr (omega (arith, leb-false (length bs) 8 v)))))))
        (λ u. absurd (no (inr (inl (omega (arith, leb-false 1 (length bs) u)))))))
        (λ t. absurd (no (inl (ltb-false id 64 t))))),
    (λ h. rw h.3 (sums id wish bs (h.0, h.1, h.2))),
  )
