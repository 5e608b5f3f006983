-- Document 01, "Frame data lie in a lent buffer of exactly 8F bytes, eight a frame": which of its bits belong to a placement, and to a signal.
use Rattle.std.specs.Prelude.{ℕ, zero, suc, ◌+◌, ◌*◌, Bool, false, cond, ◌&&◌, ◌||◌, List, eqb}
use Rattle.signal.specs.Signal.{inside}
use Rattle.cluster.specs.Table.{placement_count, placement_signal, placement_frame, placement_offset, placement_width}

-- the test holds at some number below n
unfoldable pub any_below : ℕ → (ℕ → Bool) → Bool
any_below zero test = false
any_below (suc n) test = test n || any_below n test

-- the bit of the buffer at which a placement begins
unfoldable pub place_of : List ℕ → ℕ → ℕ
place_of t k = 64 * placement_frame t k + placement_offset t k

-- bit j of the buffer, 64 a frame, belongs to placement k
unfoldable pub covers : List ℕ → ℕ → ℕ → Bool
covers t k j = inside (place_of t k) (placement_width t k) j

-- placement k is one of signal s
abbrev pub places : List ℕ → ℕ → ℕ → Bool
places t s k = eqb (placement_signal t k) s

-- some placement of signal s has a property
unfoldable pub some_placement : List ℕ → ℕ → (ℕ → Bool) → Bool
some_placement t s test = any_below (placement_count t) (λ k. places t s k && test k)

-- bit j of the buffer belongs to signal s: "those of all its placements"
unfoldable pub occupies : List ℕ → ℕ → ℕ → Bool
occupies t s j = some_placement t s (λ k. covers t k j)

-- the buffer after a step at each placement of signal s among the n from placement k on
unfoldable pub at_each : List ℕ → ℕ → (ℕ → List ℕ → List ℕ) → ℕ → ℕ → List ℕ → List ℕ
at_each t s step k zero bs = bs
at_each t s step k (suc n) bs = at_each t s step (suc k) n (cond (places t s k) (step k bs) bs)
