-- The nine bytes of a transfer record: some bytes, and 255 behind them.
use Prim.Native.Nat.{ℕ, suc, ◌-◌, ◌≤◌, ◌<◌}
use mathlib.Core.Path.{◌≡◌, refl}
use mathlib.Core.List.{List, [], ◌∷◌, ◌++◌, append_assoc}
use native.Mathlib.Omega.{arith}
use lib.ListN.{length, get_or, set, replicate, length-append, get_or-append}
use lib.Seq.{set_at}

abbrev pub nine_of : List ℕ → List ℕ
nine_of xs = xs ++ replicate (9 - length xs) 255

-- one byte more
pub nine_snoc : (xs : List ℕ) (b : ℕ) → nine_of (xs ++ (b ∷ [])) ≡ xs ++ (b ∷ replicate (8 - length xs) 255)
nine_snoc xs b =
    let e : 9 - length (xs ++ (b ∷ [])) ≡ 8 - length xs = omega (arith, length-append xs (b ∷ [])) in
    rw (e, append_assoc xs (b ∷ []) (replicate (8 - length xs) 255))

-- is one byte set behind them
pub nine_set : (xs : List ℕ) (b : ℕ) → length xs ≤ 8 → set (nine_of xs) (length xs) b ≡ xs ++ (b ∷ replicate (8 - length xs) 255)
nine_set xs b h =
    let e : 9 - length xs ≡ suc (8 - length xs) = omega arith in
    rw e (set_at xs 255 (replicate (8 - length xs) 255) b (length xs) refl)

-- a byte among them
pub nine_at : (xs : List ℕ) (i : ℕ) → i < length xs → get_or (nine_of xs) i 0 ≡ get_or xs i 0
nine_at xs i h = get_or-append xs (replicate (9 - length xs) 255) 0 i h
