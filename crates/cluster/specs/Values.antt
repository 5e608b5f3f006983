-- Document 01, "Signals" and "Calls and steps", and document 02, Req 03: the value of a signal in the frame buffer, what a write of it leaves
-- there, and the frames that it touches. The calls of the master know a signal by these names alone.
use Rattle.std.specs.Prelude.{ℕ, ◌-◌, ◌%◌, ◌^◌, Bool, ◌&&◌, List, ◌++◌, ltb, eqb, length, replicate}
use Rattle.signal.specs.Signal.{get_scalar, put_scalar, get_array, put_array}
use Rattle.cluster.specs.Table.{published, signal_width, signal_start, placement_count, placement_frame}
use Rattle.cluster.specs.Places.{place_of, places, some_placement, at_each}
use Rattle.cluster.specs.Lists.{first_from}
use Rattle.cluster.specs.Fresh.{array_length}
use Rattle.cluster.specs.declared.values.Array.{Array}

-- signal s stands in frame f: some placement of it does
unfoldable pub touches : List ℕ → ℕ → ℕ → Bool
touches t s f = some_placement t s (λ k. eqb (placement_frame t k) f)

-- the first placement of a signal; where there is none, the number of placements
unfoldable pub first_placement : List ℕ → ℕ → ℕ
first_placement t s = first_from (places t s) 0 (placement_count t)

-- "a master-published signal": its placements are in published frames, so the first one tells
unfoldable pub signal_published : List ℕ → ℕ → Bool
signal_published t s = published t (placement_frame t (first_placement t s))

-- refusal 7: "value of 2^width or more"
unfoldable pub value_fits : List ℕ → ℕ → ℕ → Bool
value_fits t s v = ltb v (2 ^ signal_width t s)

-- refusal 7: "array of another length"
unfoldable pub array_fits : List ℕ → ℕ → List ℕ → Bool
array_fits t s vs = eqb (length vs) (array_length t s)

-- the value of a scalar in one of its placements
unfoldable pub scalar_at : List ℕ → List ℕ → ℕ → ℕ → ℕ
scalar_at t bs s k = get_scalar bs (place_of t k) (signal_width t s)

-- the bytes of an array in one of its placements
unfoldable pub array_at : List ℕ → List ℕ → ℕ → ℕ → List ℕ
array_at t bs s k = get_array bs (place_of t k) (array_length t s)

-- the buffer with a scalar put into one of its placements
abbrev pub with_scalar_at : List ℕ → List ℕ → ℕ → ℕ → ℕ → List ℕ
with_scalar_at t bs s k v = put_scalar bs (place_of t k) (signal_width t s) v

-- the buffer with an array put into one of its placements
abbrev pub with_array_at : List ℕ → List ℕ → ℕ → List ℕ → List ℕ
with_array_at t bs k vs = put_array bs (place_of t k) vs

-- the buffer after a write of a scalar: it "sets every placement"
unfoldable pub with_scalar : List ℕ → List ℕ → ℕ → ℕ → List ℕ
with_scalar t bs s v = at_each t s (λ k cs. with_scalar_at t cs s k v) 0 (placement_count t) bs

-- the buffer after a write of an array
unfoldable pub with_array : List ℕ → List ℕ → ℕ → List ℕ → List ℕ
with_array t bs s vs = at_each t s (λ k cs. with_array_at t cs k vs) 0 (placement_count t) bs

-- an array as it is handed out: eight bytes, the unused ones 255, and how many are used
unfoldable pub handed_out : List ℕ → ℕ → List ℕ → Array
handed_out t s vs = record { bytes = vs ++ replicate (8 - array_length t s) 255; count = array_length t s }

-- the bytes of an array in one of its placements, and its start value in each byte
unfoldable pub array_read : List ℕ → List ℕ → ℕ → ℕ → Array
array_read t bs s k = handed_out t s (array_at t bs s k)

unfoldable pub start_read : List ℕ → ℕ → Array
start_read t s = handed_out t s (replicate (array_length t s) (signal_start t s % 256))

-- the placement of a signal in a frame; where there is none, the number of placements
unfoldable pub placement_in : List ℕ → ℕ → ℕ → ℕ
placement_in t s f = first_from (λ k. places t s k && eqb (placement_frame t k) f) 0 (placement_count t)
