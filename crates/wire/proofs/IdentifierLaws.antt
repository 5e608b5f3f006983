-- Laws of protected identifiers: what is built is read back, and of all bytes exactly what is built is read.
use Prim.Native.Nat.{ℕ, ◌%◌, ◌<◌}
use mathlib.Core.Path.{◌≡◌, refl, sym, ◌∙◌}
use mathlib.Core.Logic.{◌↔◌}
use mathlib.Core.Bool.{Bool, true, false, xor, beq}
use native.Mathlib.Omega.{arith}
use borrow.Author.Tests.{eqb-true, eq-eqb}
use lib.Dec.{eqb}
use Rattle.refusal.specs.Numbers.{frame}
use Rattle.wire.specs.Answers.{refused_with}
use Rattle.wire.specs.Bits.{bit}
use Rattle.wire.specs.Identifier.{protected_byte, read_of, right_parity, p0, p1}
use Rattle.std.specs.Prelude.{Ok}
use Rattle.wire.proofs.Below.{all_below, below}
use Rattle.wire.proofs.Tests.{beq_true, digit_below, whether}

-- a protected identifier is a byte
pub protected_below : (id : ℕ) → id < 64 → protected_byte id < 256
unfolding protected_byte
protected_below id h = omega (arith, digit_below (p0 id), digit_below (p1 id))

-- the low six bits of a protected identifier are its identifier
pub protected_identifier : (id : ℕ) → id < 64 → protected_byte id % 64 ≡ id
unfolding protected_byte
protected_identifier id h = omega (arith, digit_below (p0 id), digit_below (p1 id))

-- a byte has right parity where it is what its identifier bits build
parity_test : ℕ → Bool
parity_test byte = beq (right_parity byte) (eqb (protected_byte (byte % 64)) byte)

all_parities : all_below 256 parity_test ≡ true
unfolding parity_test right_parity protected_byte p0 p1 bit xor
all_parities = refl

pub parity_built : (byte : ℕ) → byte < 256 → right_parity byte ≡ eqb (protected_byte (byte % 64)) byte
unfolding parity_test
parity_built byte h = beq_true _ _ (below 256 parity_test all_parities byte h)

-- what is built is read back, for every identifier below 64
pub read_built : (id : ℕ) → id < 64 → read_of (protected_byte id) ≡ Ok id
unfolding read_of
read_built id h =
    rw (parity_built (protected_byte id) (protected_below id h), protected_identifier id h, eq-eqb (protected_byte id) (protected_byte id) refl)

right : (byte : ℕ) → right_parity byte ≡ true → read_of byte ≡ Ok (byte % 64)
unfolding read_of
right byte p = rw p

wrong : (byte : ℕ) → right_parity byte ≡ false → read_of byte ≡ refused_with frame
unfolding read_of
wrong byte p = rw p

-- of the 256 bytes exactly those built from an identifier are read, as that identifier
pub read_exactly : (byte id : ℕ) → byte < 256 → (read_of byte ≡ Ok id) ↔ ((id < 64) × (protected_byte id ≡ byte))
read_exactly byte id b = (
  (λ r. whether (right_parity byte)
      (λ p.
      let w = right byte p in
      let e : byte % 64 ≡ id = cc in
      let q : protected_byte (byte % 64) ≡ byte = eqb-true _ _ (sym (parity_built byte b) ∙ p) in
      (omega arith, rw e at q))
      (λ p.
      let w = wrong byte p in
      let z : ◌≡◌ {A = ℕ} 0 1 = cc in
      absurd (omega arith))),
  (λ h. rw (← h.1) (read_built id h.0)),
)

-- and every other byte is refused with 11
pub else_refused : (byte : ℕ) → byte < 256 → ((id : ℕ) → id < 64 → protected_byte id ≡ byte → ⊥) → read_of byte ≡ refused_with frame
else_refused byte b none-built =
    whether (right_parity byte)
    (λ p. absurd (none-built (byte % 64) (omega arith) (eqb-true _ _ (sym (parity_built byte b) ∙ p))))
    (wrong byte)
