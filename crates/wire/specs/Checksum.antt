-- Document 01, "Checksum".
use Rattle.std.specs.Prelude.{ℕ, ◌+◌, ◌-◌, cond, ◌&&◌, List, [], ◌∷◌, ltb, leb, length}
use Rattle.refusal.specs.Answers.{Test, test}
use Rattle.refusal.specs.Numbers.{frame}
use Rattle.wire.specs.Answers.{refused_with}
use Rattle.wire.specs.Identifier.{protected_byte}
use Rattle.wire.specs.Answers.{Answer}
use Rattle.std.specs.Prelude.{Ok}
use Rattle.wire.specs.declared.checksum.Model.{Model}
use Rattle.wire.specs.declared.checksum.Model.TheVariants.{Classic, Enhanced}

-- "each time the sum is 256 or more, subtract 255"
unfoldable pub with_carry : ℕ → ℕ → ℕ
with_carry s b = cond (ltb (s + b) 256) (s + b) (s + b - 255)

-- "Add the bytes", from a sum that has begun
unfoldable pub sum : ℕ → List ℕ → ℕ
sum s [] = s
sum s (b ∷ bs) = sum (with_carry s b) bs

-- "Classic: data bytes only. Enhanced: the protected identifier too."
unfoldable pub covered : Model → ℕ → List ℕ → List ℕ
covered Classic id bs = bs
covered Enhanced id bs = protected_byte id ∷ bs

-- "Identifiers 60 to 63 use classic (000); the others as the table says."
unfoldable pub model_of : ℕ → Model → Model
model_of id wish = cond (ltb id 60) wish Classic

-- "at the end invert the eight bits"
unfoldable pub inverted : ℕ → ℕ
inverted s = 255 - s

-- the checksum of a frame's data bytes
unfoldable pub checksum_byte : ℕ → Model → List ℕ → ℕ
checksum_byte id wish bs = inverted (sum 0 (covered (model_of id wish) id bs))

-- what the call answers: refusal 11 for an identifier above 63 and for a data length of 0 or above 8
unfoldable pub checksum_of : ℕ → Model → List ℕ → Answer
checksum_of id wish bs =
    cond (ltb id 64 && leb 1 (length bs) && leb (length bs) 8)
    (Ok (checksum_byte id wish bs))
    (refused_with frame)

-- "identifier above 63 ..; data length 0 or above 8"
abbrev pub checksum_tests : ℕ → ℕ → List Test
checksum_tests id n = test 11 (ltb id 64) ∷ test 11 (leb 1 n) ∷ test 11 (leb n 8) ∷ []
