-- The decimal digits of a number, put down from the last one on.
use Rattle.std.proofs.Common.{◌≡◌, ◌==◌, ℕ, zero, suc, ◌+◌, ◌-◌, ◌/◌, ◌%◌, ◌^◌, ◌<◌, ◌≤◌, List, [], ◌∷◌, ◌++◌, length, take, drop, set, sym, refl, ◌∙◌, mod-eq_of_lt, div-lt_iff_lt-mul, pow-suc, sub-one, arith, length-append, length-drop, length-set, take_all, drop-cons, drop_of_length-le, get_or-set_same, drop-set-lt, ne_eqb}
use Rattle.std.proofs.Common.{replicate, ap}
use Rattle.std.proofs.lemmas.List.{take-set, take-take, take-replicate, take-append-drop, length-replicate}
use Rattle.std.proofs.Math.Seq.{drop-append_seam}
use Rattle.wire.proofs.Tests.{whether}
use lib.Seq.{append_snoc}
use Rattle.buslog.specs.Row.{digits_of, decimal_of}

pub no_digits : (k : ℕ) → digits_of k 0 ≡ []
unfolding digits_of
no_digits zero = refl
no_digits (suc k) = refl

pub one_digit : (k n : ℕ) → 0 < n → digits_of (suc k) n ≡ digits_of k (n / 10) ++ ((48 + n % 10) ∷ [])
unfolding digits_of
one_digit k n h = rw (ne_eqb n 0 (λ e. omega arith))

-- a number of 64 bits is its own remainder
pub decimal : (n : ℕ) → n < 2 ^ 64 → decimal_of n ≡ digits_of 19 (n / 10) ++ ((48 + n % 10) ∷ [])
unfolding decimal_of
decimal n h = rw (mod-eq_of_lt h)

-- an element put at a place, and what stands behind it
from_set : (l : List ℕ) (k d : ℕ) → k < length l → drop k (set l k d) ≡ d ∷ drop (suc k) l
from_set l k d h =
    rw (drop-cons (set l k d) k 0 (simp length-set (omega arith)), get_or-set_same l k d 0 h, drop-set-lt (suc k) l k d (omega arith))

-- the last of twenty digits, put at the end
pub last_digit : (l : List ℕ) (d : ℕ) → length l ≡ 20 → drop 19 (set l 19 d) ≡ d ∷ []
last_digit l d e = rw (from_set l 19 d (omega arith), drop_of_length-le l {i = 20} (omega arith))

-- twenty digits at most
digits_few : (k n : ℕ) → length (digits_of k n) ≤ k
unfolding digits_of
digits_few zero n = omega arith
digits_few (suc k) n =
    whether (n == 0)
    (λ e. rw e (omega arith))
    (λ e. rw e (omega (arith, length-append (digits_of k (n / 10)) ((48 + n % 10) ∷ []), digits_few k (n / 10))))

pub decimal_few : (n : ℕ) → length (decimal_of n) ≤ 20
unfolding decimal_of
decimal_few n = omega (
  arith,
  length-append (digits_of 19 (n % 2 ^ 64 / 10)) ((48 + n % 2 ^ 64 % 10) ∷ []),
  digits_few 19 (n % 2 ^ 64 / 10),
)

-- more than 0 has a digit, and one digit less behind it
pub fewer : (at n : ℕ) → 0 < n → n < 10 ^ at → 1 ≤ at
fewer zero n h b = absurd (omega arith)
fewer (suc k) n h b = omega arith

pub shorter : (at n : ℕ) → 0 < n → n < 10 ^ at → n / 10 < 10 ^ (at - 1)
shorter zero n h b = absurd (omega arith)
shorter (suc k) n h b = rw sub-one ((div-lt_iff_lt-mul {k = 10} {x = n} {y = 10 ^ k} (omega arith)).1 (rw pow-suc at b))

-- one digit more
pub turn : (at n : ℕ) (digits : List ℕ) → 0 < n → n < 10 ^ at → at ≤ length digits
    → digits_of at n ++ drop at digits ≡ digits_of (at - 1) (n / 10) ++ drop (at - 1) (set digits (at - 1) (48 + n % 10))
turn zero n digits h b l = absurd (omega arith)
turn (suc k) n digits h b l =
    rw (one_digit k n h, sub-one, from_set digits k (48 + n % 10) (omega arith))
    (append_snoc (digits_of k (n / 10)) (48 + n % 10) (drop (suc k) digits))

-- nothing is left: the digits that are there are all
pub spelled : (n at left : ℕ) (digits : List ℕ) → decimal_of n ≡ digits_of at left ++ drop at digits → left ≡ 0 → length digits ≡ 20
    → take (20 - at) (drop at digits) ≡ decimal_of n
spelled n at left digits e z l =
    take_all (20 - at) (drop at digits) (simp length-drop (omega arith)) ∙ sym (e ∙ rw (z, no_digits))

-- the bytes before the digits stay zeros
pub zeros_before : (at : ℕ) (digits : List ℕ) (d : ℕ) → take at digits ≡ replicate at 0 → take (at - 1) (set digits (at - 1) d) ≡ replicate (at - 1) 0
zeros_before at digits d e =
    let inner : take (at - 1) (take at digits) ≡ take (at - 1) digits = take-take (at - 1) at digits (omega arith) in
    take-set digits (at - 1) d ∙ sym inner ∙ (rw e (take-replicate (at - 1) at 0 (omega arith)))

-- the digits that are there are all, and they begin behind what is before them
here : (n at left : ℕ) (digits : List ℕ) → decimal_of n ≡ digits_of at left ++ drop at digits → left ≡ 0 → drop at digits ≡ decimal_of n
here n at left digits e z = sym (e ∙ rw (z, no_digits))

pub begins : (n at left : ℕ) (digits : List ℕ) → decimal_of n ≡ digits_of at left ++ drop at digits → left ≡ 0 → length digits ≡ 20 → at ≤ 19
    → at ≡ 20 - length (decimal_of n)
begins n at left digits e z l h = let p = length-drop at digits in omega (arith, p, l, h, ap length (here n at left digits e z))

pub all_of : (n at left : ℕ) (digits : List ℕ) → decimal_of n ≡ digits_of at left ++ drop at digits → take at digits ≡ replicate at 0 → left ≡ 0
    → length digits ≡ 20 → at ≤ 19 → digits ≡ replicate (20 - length (decimal_of n)) 0 ++ decimal_of n
all_of n at left digits e f z l h =
    rw (← (begins n at left digits e z l h), ← f, ← (here n at left digits e z)) (sym (take-append-drop at digits))

-- behind the zeros stand the digits
pub behind_zeros : (ds : List ℕ) (k : ℕ) → drop k (replicate k 0 ++ ds) ≡ ds
behind_zeros ds k = let l : length (replicate {A = ℕ} k 0) ≡ k = length-replicate k 0 in rw l at (drop-append_seam (replicate k 0) ds)

-- the part of the array from where the digits begin is the digits
pub shown : (ds all : List ℕ) (first : ℕ) → length ds ≤ 20 → all ≡ replicate (20 - length ds) 0 ++ ds → first ≡ 20 - length ds
    → take (20 - first) (drop first all) ≡ ds
shown ds all first h e f = rw (f, e, behind_zeros ds (20 - length ds)) (take_all (20 - (20 - length ds)) ds (omega (arith, h)))
