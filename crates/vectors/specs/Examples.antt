-- Document 01, "Numbers to hold it to": the worked examples marked (P), in one list, with one test for all of them.
use Rattle.std.specs.Prelude.{ℕ, suc, Bool, true, false, ◌&&◌, List, [], ◌∷◌, eqb, length}
use Rattle.wire.specs.Answers.{told}
use Rattle.refusal.specs.Answers.{value_told}
use Rattle.wire.specs.Checksum.{checksum_of}
use Rattle.wire.specs.Identifier.{protected_of}
use Rattle.wire.specs.Answers.{Answer}
use Rattle.wire.specs.declared.checksum.Model.{Model}
use Rattle.wire.specs.declared.checksum.Model.TheVariants.{Classic, Enhanced}
use Rattle.signal.specs.Signal.{put_scalar}
use Rattle.transport.specs.Answers.{count_told, cut_told}
use Rattle.transport.specs.Cutting.{count_of, cut_of, cut_bytes}

-- an example of one kind or another
pub data Example : Type 0 where
  -- an identifier and its protected identifier
  identifier : ℕ → ℕ → Example
  -- an identifier, a wish, data bytes and their checksum
  checksum : ℕ → Model → List ℕ → ℕ → Example
  -- a width, an offset, a value, and the bytes of FF that it was put into
  packing : ℕ → ℕ → ℕ → List ℕ → Example
  -- a NAD, a message and its frames
  cutting : ℕ → List ℕ → List (List ℕ) → Example

-- the byte is answered, and nothing is refused
abbrev pub gives : Answer → ℕ → Bool
gives answer byte = eqb (told answer).number 0 && eqb (value_told (told answer)) byte

abbrev pub same_bytes : List ℕ → List ℕ → Bool
same_bytes [] [] = true
same_bytes [] (y ∷ ys) = false
same_bytes (x ∷ xs) [] = false
same_bytes (x ∷ xs) (y ∷ ys) = eqb x y && same_bytes xs ys

-- as many bytes, all FF
abbrev pub filled : List ℕ → List ℕ
filled [] = []
filled (x ∷ xs) = 255 ∷ filled xs

-- the frames of a message from frame k on are answered, and nothing is refused
abbrev pub same_frames : ℕ → List ℕ → ℕ → List (List ℕ) → Bool
same_frames nad m k [] = true
same_frames nad m k (f ∷ fs) = eqb (cut_told (cut_of nad m k)).number 0 && same_bytes (cut_bytes (cut_of nad m k)) f && same_frames nad m (suc k) fs

-- the test: what the definitions give is what the example says
unfoldable pub holds : Example → Bool
holds (identifier id byte) = gives (protected_of id) byte
holds (checksum id wish bytes byte) = gives (checksum_of id wish bytes) byte
holds (packing width offset value bytes) = same_bytes (put_scalar (filled bytes) offset width value) bytes
holds (cutting nad m fs) = eqb (value_told (count_told (count_of (length m)))) (length fs) && same_frames nad m 0 fs

-- the list
unfoldable pub examples : List Example
examples =
    -- "identifiers 0, 1, 2, 4, 5, 60, 61 give 80, C1, 42, C4, 85, 3C, 7D hex"
    identifier 0 0x80
    ∷ identifier 1 0xC1
    ∷ identifier 2 0x42
    ∷ identifier 4 0xC4
    ∷ identifier 5 0x85
    ∷ identifier 60 0x3C
    ∷ identifier 61 0x7D
    -- "classic over 4A 55 93 E5 is E6; over 00 is FF; over FF is 00; over FF 01 is FE"
    ∷ checksum 0 Classic (0x4A ∷ 0x55 ∷ 0x93 ∷ 0xE5 ∷ []) 0xE6
    ∷ checksum 0 Classic (0x00 ∷ []) 0xFF
    ∷ checksum 0 Classic (0xFF ∷ []) 0x00
    ∷ checksum 0 Classic (0xFF ∷ 0x01 ∷ []) 0xFE
    -- "Enhanced, 42 with 00: BD": 42 is the protected identifier of 2
    ∷ checksum 2 Enhanced (0x00 ∷ []) 0xBD
    -- "12 bits at offset 4, value ABC, two bytes: CF AB"
    ∷ packing 12 4 0xABC (0xCF ∷ 0xAB ∷ [])
    -- "16 bits at 4, value 1234, three bytes: 4F 23 F1"
    ∷ packing 16 4 0x1234 (0x4F ∷ 0x23 ∷ 0xF1 ∷ [])
    -- "NAD 05, message 01..07: `05 10 07 01 02 03 04 05`, `05 21 06 07 FF FF FF FF`"
    ∷ cutting 0x05 (0x01 ∷ 0x02 ∷ 0x03 ∷ 0x04 ∷ 0x05 ∷ 0x06 ∷ 0x07 ∷ [])
    ((0x05 ∷ 0x10 ∷ 0x07 ∷ 0x01 ∷ 0x02 ∷ 0x03 ∷ 0x04 ∷ 0x05 ∷ [])
    ∷ (0x05 ∷ 0x21 ∷ 0x06 ∷ 0x07 ∷ 0xFF ∷ 0xFF ∷ 0xFF ∷ 0xFF ∷ [])
    ∷ [])
    ∷ []

-- every example of a list passes
unfoldable pub all_hold : List Example → Bool
all_hold [] = true
all_hold (e ∷ es) = holds e && all_hold es
