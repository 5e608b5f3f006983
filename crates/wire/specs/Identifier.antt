-- Document 01, "Protected identifier": identifier bits 0 to 5, then P0 as bit 6 and P1 as bit 7.
use Rattle.std.specs.Prelude.{ℕ, ◌+◌, ◌*◌, ◌%◌, Bool, cond, not, ◌&&◌, ltb}
use Rattle.std.specs.Bool.{xor, beq}
use Rattle.refusal.specs.Numbers.{frame}
use Rattle.wire.specs.Answers.{refused_with}
use Rattle.wire.specs.Bits.{bit, digit}
use Rattle.wire.specs.Answers.{Answer}
use Rattle.std.specs.Prelude.{Ok}

-- "P0 = ID0 xor ID1 xor ID2 xor ID4"
unfoldable pub p0 : ℕ → Bool
p0 id = xor (xor (xor (bit id 0) (bit id 1)) (bit id 2)) (bit id 4)

-- "P1 = not (ID1 xor ID3 xor ID4 xor ID5)"
unfoldable pub p1 : ℕ → Bool
p1 id = not (xor (xor (xor (bit id 1) (bit id 3)) (bit id 4)) (bit id 5))

-- the protected identifier of an identifier below 64
unfoldable pub protected_byte : ℕ → ℕ
protected_byte id = id + 64 * digit (p0 id) + 128 * digit (p1 id)

-- what building one answers
unfoldable pub protected_of : ℕ → Answer
protected_of id = cond (ltb id 64) (Ok (protected_byte id)) (refused_with frame)

-- both parity bits of a byte are those of its identifier bits
unfoldable pub right_parity : ℕ → Bool
right_parity byte = beq (bit byte 6) (p0 byte) && beq (bit byte 7) (p1 byte)

-- what reading one answers: "A reader refuses wrong parity"
unfoldable pub read_of : ℕ → Answer
read_of byte = cond (right_parity byte) (Ok (byte % 64)) (refused_with frame)
