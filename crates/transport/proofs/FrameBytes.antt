-- What is cut is bytes.
use Prim.Native.Nat.{ℕ, zero, suc, ◌+◌, ◌*◌, ◌≤◌, ◌<◌}
use mathlib.Core.List.{List, [], ◌∷◌}
use native.Mathlib.Omega.{arith}
use lib.ListN.{length, get_or}
use Rattle.transport.specs.Cutting.{data_bytes, single_frame, first_frame, next_frame, message_frame}
use Rattle.transport.proofs.CuttingLaws.{frame_single, frame_first}
use Rattle.transport.proofs.Tests.{order}

-- each number of the list is a byte
abbrev pub Bytes : List ℕ → Type 0
Bytes bs = (i : ℕ) → get_or bs i 0 < 256

-- a byte of the message, or 255 behind its last one, is a byte
byte_or_unused : (m : List ℕ) (i : ℕ) → Bytes m → get_or m i 255 < 256
byte_or_unused [] i h = omega arith
byte_or_unused (b ∷ m) zero h = h 0
byte_or_unused (b ∷ m) (suc i) h = byte_or_unused m i (λ j. h (suc j))

-- the data bytes of a frame are bytes
data_bytes_lem : (m : List ℕ) (at n : ℕ) → Bytes m → Bytes (data_bytes m at n)
unfolding data_bytes
data_bytes_lem m at zero h i = omega arith
data_bytes_lem m at (suc n) h zero = byte_or_unused m at h
data_bytes_lem m at (suc n) h (suc i) = data_bytes_lem m (at + 1) n h i

-- a single, a first and a next frame are bytes
module _ (nad : ℕ) (m : List ℕ) (hn : nad < 256) (hm : Bytes m) where
  single_bytes : length m ≤ 6 → Bytes (single_frame nad m)
  unfolding single_frame
  single_bytes h zero = hn
  single_bytes h (suc zero) = omega arith
  single_bytes h (suc (suc i)) = data_bytes_lem m 0 6 hm i

  first_bytes : length m ≤ 4095 → Bytes (first_frame nad m)
  unfolding first_frame
  first_bytes h zero = hn
  first_bytes h (suc zero) = omega arith
  first_bytes h (suc (suc zero)) = omega arith
  first_bytes h (suc (suc (suc i))) = data_bytes_lem m 0 5 hm i

  next_bytes : (j : ℕ) → Bytes (next_frame nad m j)
  unfolding next_frame
  next_bytes j zero = hn
  next_bytes j (suc zero) = omega arith
  next_bytes j (suc (suc i)) = data_bytes_lem m (5 + 6 * j) 6 hm i

  -- every frame of a message of at most 4,095 bytes is bytes
  pub frame_bytes : length m ≤ 4095 → (k : ℕ) → Bytes (message_frame nad m k)
  unfolding message_frame
  frame_bytes h zero =
      order (length m) 6
      (λ l. rw (frame_single nad m l) (single_bytes l))
      (λ l. rw (frame_first nad m l) (first_bytes h))
  frame_bytes h (suc j) = next_bytes j
