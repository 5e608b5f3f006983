-- Document 01, "The cluster table": what a fresh call leaves in the frame buffer.
use Rattle.std.specs.Prelude.{ℕ, zero, suc, ◌*◌, ◌/◌, ◌%◌, min, cond, List, replicate}
use Rattle.signal.specs.Signal.{put_scalar, put_array}
use Rattle.cluster.specs.Table.{frame_count, signal_width, signal_start, is_array, placement_count, placement_signal}
use Rattle.cluster.specs.Places.{place_of}

-- the bytes of an array; above 8, which no right table has, they count as 8
unfoldable pub array_length : List ℕ → ℕ → ℕ
array_length t s = min (signal_width t s / 8) 8

-- the start value of signal s goes into a scalar's bits at a place, and into each byte of an array
unfoldable pub start_at : List ℕ → ℕ → ℕ → List ℕ → List ℕ
start_at t s place bs =
    cond (is_array t s)
    (put_array bs place (replicate (array_length t s) (signal_start t s % 256)))
    (put_scalar bs place (signal_width t s) (signal_start t s))

-- the start value of a placement's signal goes into the placement
unfoldable pub put_start : List ℕ → ℕ → List ℕ → List ℕ
put_start t k bs = start_at t (placement_signal t k) (place_of t k) bs

-- "255 everywhere, then the start values" in the first n placements
unfoldable pub filled : List ℕ → ℕ → ℕ → List ℕ
filled t size zero = replicate size 255
filled t size (suc n) = put_start t n (filled t size n)

-- "A fresh call fills it": the buffer of 8F bytes
unfoldable pub fresh_bytes : List ℕ → List ℕ
fresh_bytes t = filled t (8 * frame_count t) (placement_count t)
