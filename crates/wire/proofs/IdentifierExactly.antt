-- Protected identifiers in the paper's own words: the six identifier bits, and each parity bit as an exclusive or of them.
use Prim.Native.Nat.{ℕ, ◌+◌, ◌/◌, ◌%◌, ◌^◌, ◌<◌, ◌≤◌}
use mathlib.Core.Path.{◌≡◌, refl, sym, ◌∙◌}
use mathlib.Core.Logic.{◌↔◌}
use mathlib.Core.Bool.{Bool, true, not, xor, ◌&&◌, beq}
use native.Mathlib.Omega.{arith}
use borrow.Author.Tests.{eqb-true, eq-eqb, ltb-true, ltb-false, lt-ltb, le-ltb}
use lib.Dec.{eqb, ltb}
use Rattle.wire.specs.Bits.{bit}
use Rattle.wire.specs.Identifier.{protected_byte, protected_of, read_of, right_parity, p0, p1}
use Rattle.wire.specs.Answers.{Answer}
use Rattle.std.specs.Prelude.{Ok, Err}
use Rattle.wire.proofs.Below.{all_below, below}
use Rattle.wire.proofs.IdentifierLaws.{protected_below, protected_identifier, parity_built}
use Rattle.wire.proofs.Tests.{and_left, and_right, beq_true, whether}

-- bit k of a number is 1 where halving it k times leaves an odd number
pub bit_exactly : (n k : ℕ) → (bit n k ≡ true) ↔ (n / 2 ^ k % 2 ≡ 1)
unfolding bit
bit_exactly n k = (eqb-true _ _, eq-eqb _ _)

-- ---- what is built

-- "Identifier bits 0 to 5, then P0 = ID0 xor ID1 xor ID2 xor ID4 as bit 6, P1 = not (ID1 xor ID3 xor ID4 xor ID5) as bit 7"
same_bits : ℕ → ℕ → Bool
same_bits id k = beq (bit (protected_byte id) k) (bit id k)

bit_six : ℕ → Bool
bit_six id = beq (bit (protected_byte id) 6) (xor (bit id 0) (xor (bit id 1) (xor (bit id 2) (bit id 4))))

bit_seven : ℕ → Bool
bit_seven id = beq (bit (protected_byte id) 7) (not (xor (bit id 1) (xor (bit id 3) (xor (bit id 4) (bit id 5)))))

all_same : all_below 64 (λ id. all_below 6 (same_bits id)) ≡ true
unfolding same_bits protected_byte p0 p1 bit xor
all_same = refl

all_six : all_below 64 bit_six ≡ true
unfolding bit_six protected_byte p0 p1 bit xor
all_six = refl

all_seven : all_below 64 bit_seven ≡ true
unfolding bit_seven protected_byte p0 p1 bit xor
all_seven = refl

pub protected_bits : (id : ℕ) → id < 64
    → ((k : ℕ) → k < 6 → bit (protected_byte id) k ≡ bit id k)
    × (bit (protected_byte id) 6 ≡ xor (bit id 0) (xor (bit id 1) (xor (bit id 2) (bit id 4))))
    × (bit (protected_byte id) 7 ≡ not (xor (bit id 1) (xor (bit id 3) (xor (bit id 4) (bit id 5)))))
unfolding same_bits bit_six bit_seven
protected_bits id h = (
  (λ k hk. beq_true _ _ (below 6 (same_bits id) (below 64 (λ n. all_below 6 (same_bits n)) all_same id h) k hk)),
  beq_true _ _ (below 64 bit_six all_six id h),
  beq_true _ _ (below 64 bit_seven all_seven id h),
)

-- a byte with the two parity bits of its identifier bits, in numbers: a sum of bits is odd where their exclusive or is 1
abbrev pub Parity : ℕ → Type 0
Parity byte =
    (byte / 64 % 2 ≡ (byte + byte / 2 + byte / 4 + byte / 16) % 2)
    × (byte / 128 % 2 ≡ (1 + byte / 2 + byte / 8 + byte / 16 + byte / 32) % 2)

low_test : ℕ → Bool
low_test byte = eqb (byte / 64 % 2) ((byte + byte / 2 + byte / 4 + byte / 16) % 2)

high_test : ℕ → Bool
high_test byte = eqb (byte / 128 % 2) ((1 + byte / 2 + byte / 8 + byte / 16 + byte / 32) % 2)

parity_test : ℕ → Bool
parity_test byte = low_test byte && high_test byte

tested : (byte : ℕ) → parity_test byte ≡ true → Parity byte
unfolding parity_test low_test high_test
tested byte t = (eqb-true _ _ (and_left (low_test byte) (high_test byte) t), eqb-true _ _ (and_right (low_test byte) (high_test byte) t))

passes : (byte : ℕ) → Parity byte → parity_test byte ≡ true
unfolding parity_test low_test high_test
passes byte p = rw (eq-eqb _ _ p.0, eq-eqb _ _ p.1)

-- right parity in numbers, at each byte
right_test : ℕ → Bool
right_test byte = beq (right_parity byte) (parity_test byte)

all_right : all_below 256 right_test ≡ true
unfolding right_test parity_test low_test high_test right_parity p0 p1 bit xor
all_right = refl

pub parity_exactly : (byte : ℕ) → byte < 256 → (right_parity byte ≡ true) ↔ Parity byte
unfolding right_test
parity_exactly byte h =
    let e : right_parity byte ≡ parity_test byte = beq_true _ _ (below 256 right_test all_right byte h) in
    ((λ r. tested byte (sym e ∙ r)), (λ p. e ∙ passes byte p))

-- the protected identifier is the byte with these six bits and these two parity bits, and no other
pub protected_exactly : (id b : ℕ) → id < 64 → (b ≡ protected_byte id) ↔ ((b < 256) × (b % 64 ≡ id) × Parity b)
protected_exactly id b h =
    let l = protected_below id h in
    let e : right_parity (protected_byte id) ≡ true = parity_built _ l ∙ rw (protected_identifier id h) (eq-eqb (protected_byte id) _ refl) in (
      (λ q. rw q (l, protected_identifier id h, (parity_exactly _ l).0 e)),
      (λ g. let q : protected_byte (b % 64) ≡ b = eqb-true _ _ (sym (parity_built b g.0) ∙ (parity_exactly b g.0).1 g.2) in sym (rw g.1 at q)),
    )

-- ---- what is answered

-- the refusal with 11, which has no place
abbrev pub eleven : Answer
eleven = Err (record { number = 11; place = 0 })

-- building is refused with 11 above 63, and gives the byte otherwise
pub build_refused_exactly : (id : ℕ) → (protected_of id ≡ eleven) ↔ (64 ≤ id)
unfolding protected_of
build_refused_exactly id = (
  (λ e. whether (ltb id 64)
      (λ t. let z : ◌≡◌ {A = ℕ} 0 1 = (let q = rw t at e in cc) in absurd (omega arith))
      (ltb-false id 64)),
  (λ h. rw (le-ltb id 64 h)),
)

pub build_exactly : (id b : ℕ) → (protected_of id ≡ Ok b) ↔ ((id < 64) × (b < 256) × (b % 64 ≡ id) × Parity b)
unfolding protected_of
build_exactly id b = (
  (λ e. whether (ltb id 64)
      (λ t. let h = ltb-true id 64 t in let q : b ≡ protected_byte id = (let q = rw t at e in cc) in let p = (protected_exactly id b h).0 q in (h, p.0, p.1, p.2))
      (λ t. let z : ◌≡◌ {A = ℕ} 0 1 = (let q = rw t at e in cc) in absurd (omega arith))),
  (λ h. rw (lt-ltb id 64 h.0, (protected_exactly id b h.0).1 (h.1, h.2, h.3))),
)

-- "A reader refuses wrong parity", with 11; with right parity it gives the six identifier bits
pub read_refused_exactly : (byte : ℕ) → byte < 256 → (read_of byte ≡ eleven) ↔ (Parity byte → ⊥)
unfolding read_of
read_refused_exactly byte h = (
  (λ e p. let q = rw ((parity_exactly byte h).1 p) at e in let z : ◌≡◌ {A = ℕ} 0 1 = cc in omega arith),
  (λ n. whether (right_parity byte) (λ t. absurd (n ((parity_exactly byte h).0 t))) (λ t. rw t)),
)

pub read_by_parity : (byte id : ℕ) → byte < 256 → (read_of byte ≡ Ok id) ↔ ((id ≡ byte % 64) × Parity byte)
unfolding read_of
read_by_parity byte id h = (
  (λ e. whether (right_parity byte)
      (λ t. let q = rw t at e in (cc, (parity_exactly byte h).0 t))
      (λ t. let q = rw t at e in let z : ◌≡◌ {A = ℕ} 0 1 = cc in absurd (omega arith))),
  (λ g. rw ((parity_exactly byte h).1 g.1, g.0)),
)
