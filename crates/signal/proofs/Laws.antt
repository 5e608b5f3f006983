-- The laws of signals that the crates above use, each proved once over every offset and width.
use Prim.Native.Nat.{ℕ, ◌+◌, ◌-◌, ◌*◌, ◌/◌, ◌%◌, ◌^◌, ◌<◌, ◌≤◌}
use mathlib.Core.Path.{◌≡◌, sym, ◌∙◌, ap}
use mathlib.Core.Bool.{Bool, cond, ◌&&◌}
use mathlib.Core.List.{List}
use mathlib.Core.Logic.{◌⊎◌, inl, inr, ⊎_elim}
use native.Mathlib.Nat.{mod-eq_of_lt}
use native.Mathlib.Omega.{arith}
use borrow.Author.Tests.{lt-ltb, le-ltb}
use lib.Dec.{ltb}
use lib.ListN.{length, get_or}
use Rattle.wire.specs.Bits.{bit, Bytes}
use Rattle.signal.specs.Signal.{bit_at, inside, replaced, put_bits, scalar_width, get_scalar, put_scalar, get_array, put_array}
use Rattle.signal.proofs.BytesOf.{bytes_ext, bytes_are, bit_behind, byte_is}
use Rattle.signal.proofs.Inside.{order}
use Rattle.signal.proofs.Numbers.{number_ext, number_mod, number_below}
use Rattle.signal.proofs.PutBits.{put_length, put_bytes, bit_put, after_inside, after_low, after_high}

-- behind the bytes nothing is put
put_behind : (bs : List ℕ) (o w : ℕ) (f : ℕ → Bool) (j : ℕ) → 8 * length bs ≤ j → bit_at (put_bits bs o w f) j ≡ bit_at bs j
put_behind bs o w f j h =
    bit_behind (put_bits bs o w f) j (omega (arith, put_length bs o w f)) ∙ sym (bit_behind bs j h)

-- The law of signals: after a put, bit j is the signal's bit j - offset inside the signal, and unchanged outside and behind the bytes
pub put_bit : (bs : List ℕ) (o w : ℕ) (f : ℕ → Bool) (j : ℕ)
    → bit_at (put_bits bs o w f) j ≡ cond (ltb j (8 * length bs) && inside o w j) (f (j - o)) (bit_at bs j)
unfolding replaced
put_bit bs o w f j =
    order j (8 * length bs)
    (λ h. rw (lt-ltb j (8 * length bs) h) (bit_put bs o w f j h))
    (λ h. rw (le-ltb j (8 * length bs) h) (put_behind bs o w f j h))

-- bits [p, p + n) and bits [o, o + w) have none in common
abbrev pub Apart : ℕ → ℕ → ℕ → ℕ → Type 0
Apart p n o w = (p + n ≤ o) ⊎ (o + w ≤ p)

apart_bit : (p n o w k : ℕ) → k < n → Apart p n o w → Apart (p + k) 1 o w
apart_bit p n o w k h = ⊎_elim (λ a. inl (omega arith)) (λ a. inr (omega arith))

-- a bit outside stays, whether or not there are such bytes
pub bit_stays : (bs : List ℕ) (o w : ℕ) (f : ℕ → Bool) (j : ℕ) → Apart j 1 o w → bit_at (put_bits bs o w f) j ≡ bit_at bs j
bit_stays bs o w f j apart =
    order j (8 * length bs)
    (λ h. bit_put bs o w f j h
    ∙ ⊎_elim (λ k. after_low (bit_at bs) o w f j (omega arith)) (λ k. after_high (bit_at bs) o w f j k) apart)
    (put_behind bs o w f j)

-- the bits of a signal within the bytes are those put
pub bit_put_inside : (bs : List ℕ) (o w : ℕ) (f : ℕ → Bool) (k : ℕ) → o + w ≤ 8 * length bs → k < w
    → bit_at (put_bits bs o w f) (o + k) ≡ f k
bit_put_inside bs o w f k h hk =
    bit_put bs o w f (o + k) (omega arith)
    ∙ after_inside (bit_at bs) o w f (o + k) (omega arith) (omega arith)
    ∙ ap f (omega arith)

-- a byte of which no bit is inside stays
pub byte_stays : (bs : List ℕ) (o w : ℕ) (f : ℕ → Bool) (i : ℕ) → Bytes bs → Apart (8 * i) 8 o w
    → get_or (put_bits bs o w f) i 0 ≡ get_or bs i 0
byte_stays bs o w f i hb apart =
    sym (byte_is (put_bits bs o w f) i (put_bytes bs o w f))
    ∙ number_ext 8 (λ k. bit_at (put_bits bs o w f) (8 * i + k)) (λ k. bit_at bs (8 * i + k))
    (λ k hk. bit_stays bs o w f (8 * i + k) (apart_bit (8 * i) 8 o w k hk apart))
    ∙ byte_is bs i hb

-- a byte after a put goes by what that byte was before, in whatever bytes it stands
pub put_alike : (bs cs : List ℕ) (o w : ℕ) (f : ℕ → Bool) (i : ℕ) → length bs ≡ length cs → get_or bs i 0 ≡ get_or cs i 0
    → get_or (put_bits bs o w f) i 0 ≡ get_or (put_bits cs o w f) i 0
unfolding bit_at
put_alike bs cs o w f i e same =
    sym (byte_is (put_bits bs o w f) i (put_bytes bs o w f))
    ∙ number_ext 8 (λ k. bit_at (put_bits bs o w f) (8 * i + k)) (λ k. bit_at (put_bits cs o w f) (8 * i + k))
    (λ k hk.
    let at : (8 * i + k) / 8 ≡ i = omega arith in
    let old : bit_at bs (8 * i + k) ≡ bit_at cs (8 * i + k) = rw (at, same) in
    put_bit bs o w f (8 * i + k) ∙ rw (e, old) (sym (put_bit cs o w f (8 * i + k))))
    ∙ byte_is (put_bits cs o w f) i (put_bytes cs o w f)

-- ---- scalars

-- a scalar fits its width
pub get_below : (bs : List ℕ) (o w : ℕ) → get_scalar bs o w < 2 ^ scalar_width w
unfolding get_scalar
get_below bs o w = number_below (scalar_width w) (λ k. bit_at bs (o + k))

-- what was put is got back; of a value above the width, its low bits
pub get_put : (bs : List ℕ) (o w v : ℕ) → o + scalar_width w ≤ 8 * length bs
    → get_scalar (put_scalar bs o w v) o w ≡ v % 2 ^ scalar_width w
unfolding get_scalar put_scalar
get_put bs o w v h =
    number_ext (scalar_width w) (λ k. bit_at (put_bits bs o (scalar_width w) (bit v)) (o + k)) (bit v)
    (λ k hk. bit_put_inside bs o (scalar_width w) (bit v) k h hk)
    ∙ number_mod (scalar_width w) v

pub get_put_value : (bs : List ℕ) (o w v : ℕ) → o + scalar_width w ≤ 8 * length bs → v < 2 ^ scalar_width w
    → get_scalar (put_scalar bs o w v) o w ≡ v
get_put_value bs o w v h hv = get_put bs o w v h ∙ mod-eq_of_lt hv

-- a scalar that has no bit in common with what was put reads as before
pub get_other : (bs : List ℕ) (o w : ℕ) (f : ℕ → Bool) (p n : ℕ) → Apart p (scalar_width n) o w
    → get_scalar (put_bits bs o w f) p n ≡ get_scalar bs p n
unfolding get_scalar
get_other bs o w f p n apart =
    number_ext (scalar_width n) (λ k. bit_at (put_bits bs o w f) (p + k)) (λ k. bit_at bs (p + k))
    (λ k hk. bit_stays bs o w f (p + k) (apart_bit p (scalar_width n) o w k hk apart))

-- ---- byte arrays

-- what was put is got back
pub get_put_array : (bs : List ℕ) (o : ℕ) (vs : List ℕ) → Bytes vs → o + 8 * length vs ≤ 8 * length bs
    → get_array (put_array bs o vs) o (length vs) ≡ vs
unfolding get_array put_array
get_put_array bs o vs hv h =
    bytes_ext (length vs) (λ k. bit_at (put_bits bs o (8 * length vs) (bit_at vs)) (o + k)) (bit_at vs)
    (λ k hk. bit_put_inside bs o (8 * length vs) (bit_at vs) k h hk)
    ∙ bytes_are vs hv

-- an array that has no bit in common with what was put reads as before
pub get_other_array : (bs : List ℕ) (o w : ℕ) (f : ℕ → Bool) (p n : ℕ) → Apart p (8 * n) o w
    → get_array (put_bits bs o w f) p n ≡ get_array bs p n
unfolding get_array
get_other_array bs o w f p n apart =
    bytes_ext n (λ k. bit_at (put_bits bs o w f) (p + k)) (λ k. bit_at bs (p + k))
    (λ k hk. bit_stays bs o w f (p + k) (apart_bit p (8 * n) o w k hk apart))
