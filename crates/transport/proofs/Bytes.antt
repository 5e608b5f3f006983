-- Bytes read past a default, and bytes copied one after the other.
use Prim.Native.Nat.{ℕ, zero, suc, ◌+◌, ◌-◌, min, ◌<◌, ◌≤◌}
use native.Mathlib.Omega.{arith}
use native.Mathlib.Numerals.{add-one}
use mathlib.Core.Path.{◌≡◌, refl, ◌∙◌, ap}
use mathlib.Core.List.{List, [], ◌∷◌, ◌++◌}
use borrow.Rule.Slice.PartMut.{put_mid, mid_of}
use lib.ListN.{length-drop, length, get_or, take, drop, replicate, get_or-eq_default}
use lib.Seq.{drop-drop, drop-cons, length-take-le}
use Rattle.std.proofs.lemmas.List.{drop-replicate, take_all}
use Rattle.std.proofs.Math.Seq.{take-append_seam, drop-append_seam}
use Rattle.transport.specs.Reassembly.{written}
use Rattle.transport.specs.Cutting.{data_bytes}
use Rattle.transport.proofs.Tests.{order}

-- inside a list no default is read
pub any_default : (l : List ℕ) (i d e : ℕ) → i < length l → get_or l i d ≡ get_or l i e
any_default [] i d e h = absurd (omega arith)
any_default (x ∷ l) zero d e h = refl
any_default (x ∷ l) (suc i) d e h = any_default l i d e (omega arith)

-- the bytes of the message from a place on, and 255 behind its last one
data_copied : (m : List ℕ) (at n : ℕ)
    → take (min (length m - at) n) (drop at m) ++ drop (min (length m - at) n) (replicate n 255) ≡ data_bytes m at n
unfolding data_bytes
data_copied m at zero = let e : min (length m - at) 0 ≡ 0 = omega arith in rw e
data_copied m at (suc n) =
    order (length m) at
    (λ h.
    let e : min (length m - at) (suc n) ≡ 0 = omega arith in
    let k : min (length m - (at + 1)) n ≡ 0 = omega arith in
    let rest : replicate n 255 ≡ data_bytes m (at + 1) n = rw k at (data_copied m (at + 1) n) in
    rw (e, get_or-eq_default m 255 h, ← rest))
    (λ h.
    let e : min (length m - at) (suc n) ≡ suc (min (length m - (at + 1)) n) = omega arith in
    let d : drop at m ≡ get_or m at 255 ∷ drop (at + 1) m = rw add-one (drop-cons m at 255 h) in
    rw (e, d) (ap (λ (ds : List ℕ). get_or m at 255 ∷ ds) (data_copied m (at + 1) n)))

-- a header, the message's bytes from a place on as far as there are some, and 255 behind them
pub framed : (header m p : List ℕ) (at from n : ℕ)
    → length header ≤ 8
    → from ≡ min (length m) at
    → n ≡ min (length (take (length m - from) (drop from m))) (8 - length header)
    → p ≡ take n (take (length m - from) (drop from m))
    → put_mid (length header) (length header + n - length header) (header ++ drop (length header) (replicate 8 255)) p
    ≡ header ++ data_bytes m at (8 - length header)
framed header m p at from n h f e q =
    let l : length header + n - length header ≡ n = omega arith in
    let all : take (length m - from) (drop from m) ≡ drop from m = take_all (length m - from) (drop from m) (simp length-drop (omega arith)) in
    let k : n ≡ min (length m - at) (8 - length header) = e ∙ simp (all, length-drop) (omega arith) in
    let here : take n (drop from m) ≡ take n (drop at m) = order at (length m)
    (λ low. let same : from ≡ at = omega arith in rw same)
    (λ high. let none : n ≡ 0 = omega arith in rw none) in
    rw (q, all, here, l, take-append_seam, drop-append_seam, drop-replicate, k)
    (ap (λ (ds : List ℕ). header ++ ds) (data_copied m at (8 - length header)))

-- the bytes of a list between two places
pub part : (f : List ℕ) (from n : ℕ) → mid_of from (from + n - from) f ≡ take n (drop from f)
part f from n = let e : from + n - from ≡ n = omega arith in rw e

pub part_length : (f : List ℕ) (from n : ℕ) → from + n ≤ length f → length (mid_of from (from + n - from) f) ≡ n
part_length f from n h = rw (part f from n) (length-take-le n (drop from f) (simp length-drop (omega arith)))

-- the part of a buffer that was lent to take n bytes of a frame, put back
pub delivered : (b f ys : List ℕ) (at from n : ℕ) → from + n ≤ length f → ys ≡ take (from + n - from) (drop from f)
    → put_mid at (at + n - at) b ys ≡ written b at (take n (drop from f))
unfolding written
delivered b f ys at from n h e =
    let p : at + n - at ≡ n = omega arith in
    let q : from + n - from ≡ n = omega arith in
    let l : length (take n (drop from f)) ≡ n = length-take-le n (drop from f) (simp length-drop (omega arith)) in
    rw (e, p, q, l, drop-drop n at b)
