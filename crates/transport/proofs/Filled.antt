-- A buffer whose first bytes are a message's, and the message's bytes that a frame brings.
use Prim.Native.Nat.{ℕ, zero, suc, ◌+◌, ◌≤◌}
use mathlib.Core.Path.{◌≡◌, refl}
use mathlib.Core.List.{List, ◌++◌, append_assoc}
use native.Mathlib.Numerals.{add-one}
use native.Mathlib.Omega.{arith}
use lib.ListN.{length, take, drop, length-append, length-take, length-drop}
use lib.Seq.{length-take-le, take-length, take_at, drop-append-add, drop-drop, drop-cons, take-add}
use Rattle.transport.specs.Cutting.{data_bytes}
use Rattle.transport.specs.Reassembly.{written}

-- the buffer b once the first n bytes of the message m are there
unfoldable pub filled : ℕ → List ℕ → List ℕ → List ℕ
filled n m b = take n m ++ drop n b

-- none of the bytes leave the buffer as it was
pub filled_none : (m b : List ℕ) → filled 0 m b ≡ b
unfolding filled
filled_none m b = refl

-- all the bytes are the message, with the old bytes behind it
pub filled_all : (m b : List ℕ) → filled (length m) m b ≡ m ++ drop (length m) b
unfolding filled
filled_all m b = rw (take-length m)

-- the buffer keeps its length
pub filled_length : (n : ℕ) (m b : List ℕ) → n ≤ length m → length m ≤ length b → length (filled n m b) ≡ length b
unfolding filled
filled_length n m b h k = simp (length-append, length-take, length-drop) (omega arith)

-- the first j data bytes of a frame are the message's, if it has as many
pub data_take : (m : List ℕ) (at n j : ℕ) → j ≤ n → at + j ≤ length m → take j (data_bytes m at n) ≡ take j (drop at m)
unfolding data_bytes
data_take m at n zero h k = refl
data_take m at zero (suc j) h k = absurd (omega arith)
data_take m at (suc n) (suc j) h k =
    rw (data_take m (at + 1) n j (omega arith) (omega arith), drop-cons m at 255 (omega arith), add-one)

drop_past : (p q : List ℕ) (c n : ℕ) → length p ≡ c → drop (c + n) (p ++ q) ≡ drop n q
drop_past p q c n e = rw (← e) (drop-append-add p q n)

-- n more bytes of the message, delivered directly behind its first c
pub filled_on : (m b : List ℕ) (c n : ℕ) → c + n ≤ length m → length m ≤ length b
    → written (filled c m b) c (take n (drop c m)) ≡ filled (c + n) m b
unfolding filled written
filled_on m b c n h k =
    let l : length (take c m) ≡ c = length-take-le c m (omega arith) in
    let d : length (take n (drop c m)) ≡ n = length-take-le n (drop c m) (simp length-drop (omega arith)) in
    rw (take_at (take c m) (drop c b) c l, d, drop_past (take c m) (drop c b) c n l, drop-drop n c b, take-add, append_assoc)
