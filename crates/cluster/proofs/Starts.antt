-- A start value is a put of bits, for a scalar and an array alike, and what follows for the buffer's length and bytes.
use Prim.Native.Nat.{ℕ, zero, suc, ◌*◌, ◌%◌, ◌<◌, ◌≤◌}
use mathlib.Core.Path.{◌≡◌, ◌∙◌}
use mathlib.Core.Bool.{Bool, true, false, cond}
use mathlib.Core.List.{List}
use native.Mathlib.Omega.{arith}
use lib.ListN.{length, replicate, length-replicate, get_or-replicate, get_or-eq_default}
use Rattle.wire.specs.Bits.{bit, Bytes}
use Rattle.wire.proofs.Tests.{whether}
use Rattle.signal.specs.Signal.{bit_at, put_bits, scalar_width, put_scalar, put_array}
use Rattle.signal.proofs.Inside.{order}
use Rattle.signal.proofs.PutBits.{put_length, put_bytes}
use Rattle.cluster.specs.Table.{frame_count, signal_width, signal_start, is_array, placement_count, placement_signal}
use Rattle.cluster.specs.Fresh.{array_length, start_at, put_start, filled, fresh_bytes}
use Rattle.cluster.specs.Places.{place_of}

-- the bytes of an array's start value
unfoldable pub start_bytes : List ℕ → ℕ → List ℕ
start_bytes t s = replicate (array_length t s) (signal_start t s % 256)

-- how many bits a start value has, and which; in a right table as many as the signal
unfoldable pub start_width : List ℕ → ℕ → ℕ
start_width t s = cond (is_array t s) (8 * array_length t s) (scalar_width (signal_width t s))

unfoldable pub start_bit : List ℕ → ℕ → ℕ → Bool
start_bit t s = cond (is_array t s) (bit_at (start_bytes t s)) (bit (signal_start t s))

module _ (t : List ℕ) (s : ℕ) where
  pub array_start_width : is_array t s ≡ true → start_width t s ≡ 8 * array_length t s
  unfolding start_width
  array_start_width h = rw h

  pub scalar_start_width : is_array t s ≡ false → start_width t s ≡ scalar_width (signal_width t s)
  unfolding start_width
  scalar_start_width h = rw h

  pub array_start_bit : is_array t s ≡ true → start_bit t s ≡ bit_at (start_bytes t s)
  unfolding start_bit
  array_start_bit h = rw h

  pub scalar_start_bit : is_array t s ≡ false → start_bit t s ≡ bit (signal_start t s)
  unfolding start_bit
  scalar_start_bit h = rw h

  -- no more bits than the signal
  pub start_within : start_width t s ≤ signal_width t s
  unfolding array_length
  start_within =
      whether (is_array t s)
      (λ h. rw (array_start_width h) (omega arith))
      (λ h. rw (scalar_start_width h) (omega arith))

  pub start_bytes_length : length (start_bytes t s) ≡ array_length t s
  unfolding start_bytes
  start_bytes_length = length-replicate (array_length t s) (signal_start t s % 256)

  start_put : (place : ℕ) (bs : List ℕ) → start_at t s place bs ≡ put_bits bs place (start_width t s) (start_bit t s)
  unfolding start_at put_array put_scalar start_width start_bit start_bytes
  start_put place bs =
      whether (is_array t s)
      (λ h. rw (h, start_bytes_length))
      (λ h. rw h)

-- the bits of the start value of a placement's signal are put at the placement
pub start_is : (t : List ℕ) (k : ℕ) (bs : List ℕ)
    → put_start t k bs ≡ put_bits bs (place_of t k) (start_width t (placement_signal t k)) (start_bit t (placement_signal t k))
unfolding put_start
start_is t k bs = start_put t (placement_signal t k) (place_of t k) bs

pub replicate_bytes : (n v : ℕ) → v < 256 → Bytes (replicate n v)
replicate_bytes n v h i =
    order i n
    (λ b. rw (get_or-replicate n i v 0 b) h)
    (λ b. let e : length (replicate n v) ≤ i = omega (arith, length-replicate n v) in rw (get_or-eq_default (replicate n v) 0 e) (omega arith))

pub filled_length : (t : List ℕ) (size n : ℕ) → length (filled t size n) ≡ size
unfolding filled
filled_length t size zero = length-replicate size 255
filled_length t size (suc n) =
    rw (start_is t n (filled t size n)) (put_length (filled t size n) (place_of t n) (start_width t (placement_signal t n))
    (start_bit t (placement_signal t n)))
    ∙ filled_length t size n

filled_bytes : (t : List ℕ) (size n : ℕ) → Bytes (filled t size n)
unfolding filled
filled_bytes t size zero = replicate_bytes size 255 (omega arith)
filled_bytes t size (suc n) =
    rw (start_is t n (filled t size n)) (put_bytes (filled t size n) (place_of t n) (start_width t (placement_signal t n))
    (start_bit t (placement_signal t n)))

-- "a lent buffer of exactly 8F bytes"
pub fresh_length : (t : List ℕ) → length (fresh_bytes t) ≡ 8 * frame_count t
unfolding fresh_bytes
fresh_length t = filled_length t (8 * frame_count t) (placement_count t)

pub fresh_bytes_lem : (t : List ℕ) → Bytes (fresh_bytes t)
unfolding fresh_bytes
fresh_bytes_lem t = filled_bytes t (8 * frame_count t) (placement_count t)
