-- The frame buffer as it is filled, byte by byte and placement by placement.
use Prim.Native.Nat.{ℕ, zero, suc, ◌+◌, ◌%◌, ◌≤◌}
use mathlib.Core.Path.{◌≡◌, refl, sym, ◌∙◌, ap}
use mathlib.Core.Bool.{Bool, true, false}
use mathlib.Core.List.{List, ◌∷◌}
use native.Mathlib.Numerals.{add-one}
use native.Mathlib.Omega.{arith}
use lib.ListN.{length, take, replicate, length-replicate}
use Rattle.signal.specs.Signal.{put_scalar, put_array}
use Rattle.cluster.specs.Table.{signal_width, signal_start, is_array, placement_count}
use Rattle.cluster.specs.Fresh.{array_length, start_at, put_start, filled}
use Rattle.cluster.proofs.Starts.{filled_length}

take_replicate : (n m x : ℕ) → n ≤ m → take n (replicate m x) ≡ replicate n x
take_replicate zero m x h = refl
take_replicate (suc n) zero x h = absurd (omega arith)
take_replicate (suc n) (suc m) x h = ap (λ (l : List ℕ). x ∷ l) (take_replicate n m x (omega arith))

-- what a signal's start value leaves, by its kind
start_array : (t : List ℕ) (s place : ℕ) (bs : List ℕ) → is_array t s ≡ true
    → start_at t s place bs ≡ put_array bs place (replicate (array_length t s) (signal_start t s % 256))
unfolding start_at
start_array t s place bs h = rw h

start_scalar : (t : List ℕ) (s place : ℕ) (bs : List ℕ) → is_array t s ≡ false
    → start_at t s place bs ≡ put_scalar bs place (signal_width t s) (signal_start t s)
unfolding start_at
start_scalar t s place bs h = rw h

-- what the code puts of an array, and of a scalar
pub array_put : (t : List ℕ) (s : ℕ) (bs : List ℕ) (array : Bool) (place start n : ℕ) (bytes : List ℕ)
    → array ≡ is_array t s → array ≡ true → start ≡ signal_start t s → n ≡ array_length t s → n ≤ 8
    → bytes ≡ put_array bs place (take n (replicate 8 (start % 256))) → bytes ≡ start_at t s place bs
array_put t s bs array place start n bytes ea h es en b e =
    e ∙ rw (take_replicate n 8 (start % 256) b, es, en) (sym (start_array t s place bs (sym ea ∙ h)))

pub scalar_put : (t : List ℕ) (s : ℕ) (bs : List ℕ) (array : Bool) (place width start : ℕ) (bytes : List ℕ)
    → array ≡ is_array t s → array ≡ false → width ≡ signal_width t s → start ≡ signal_start t s
    → bytes ≡ put_scalar bs place width start → bytes ≡ start_at t s place bs
scalar_put t s bs array place width start bytes ea h ew es e =
    e ∙ rw (ew, es) (sym (start_scalar t s place bs (sym ea ∙ h)))

-- no start value put, and one more
pub filled_none : (t bytes : List ℕ) (size : ℕ) → bytes ≡ replicate size 255 → bytes ≡ filled t (length bytes) 0
unfolding filled
filled_none t bytes size e = let d : length bytes ≡ size = ap length e ∙ length-replicate size 255 in rw d e

pub filled_turn : (t : List ℕ) (size n : ℕ) (old bytes : List ℕ) → old ≡ filled t size n → bytes ≡ put_start t n old → bytes ≡ filled t size (n + 1)
unfolding filled
filled_turn t size n old bytes eo e = e ∙ rw (eo, add-one n)

-- as many bytes as before
pub filled_same : (t : List ℕ) (n size : ℕ) (first bytes : List ℕ) → first ≡ replicate size 255 → bytes ≡ filled t (length first) n
    → length bytes ≡ size
filled_same t n size first bytes ef e = ap length e ∙ filled_length t (length first) n ∙ ap length ef ∙ length-replicate size 255

pub filled_all : (t : List ℕ) (n size : ℕ) (first bytes : List ℕ) → n ≡ placement_count t → first ≡ replicate size 255
    → bytes ≡ filled t (length first) n
    → bytes ≡ filled t size (placement_count t)
filled_all t n size first bytes en ef e = let d : length first ≡ size = ap length ef ∙ length-replicate size 255 in rw (d, en) at e
