-- Laws of the buffer with some bytes delivered to a place.
use Prim.Native.Nat.{ℕ, ◌+◌, ◌-◌, ◌≤◌, ◌<◌}
use mathlib.Core.Path.{◌≡◌, ◌∙◌}
use mathlib.Core.List.{List, [], ◌++◌}
use native.Mathlib.Nat.{add-zero}
use native.Mathlib.Omega.{arith}
use lib.ListN.{length, get_or, take, drop, length-append, length-take, length-drop, take-append-drop, get_or-append}
use lib.Seq.{length-take-le, get_or-append-add, get_or-drop, get_or-take}
use Rattle.transport.specs.Reassembly.{written}

-- no bytes delivered leave the buffer as it was
pub written_none : (b : List ℕ) (place : ℕ) → written b place [] ≡ b
unfolding written
written_none b place = rw add-zero (take-append-drop place b)

-- a byte behind the first list
past : (p q : List ℕ) (n i : ℕ) → length p ≡ n → get_or (p ++ q) (n + i) 0 ≡ get_or q i 0
past p q n i e = rw (← e) (get_or-append-add p q i 0)

module _ (b : List ℕ) (place : ℕ) (ds : List ℕ) (h : place + length ds ≤ length b) where
  -- the buffer keeps its length
  pub written_length : length (written b place ds) ≡ length b
  unfolding written
  written_length = simp (length-append, length-take, length-drop) (omega arith)

  -- the bytes from the place on are those delivered
  pub written_inside : (i : ℕ) → i < length ds → get_or (written b place ds) (place + i) 0 ≡ get_or ds i 0
  unfolding written
  written_inside i hi =
      past (take place b) (ds ++ drop (place + length ds) b) place i (length-take-le place b (omega arith))
      ∙ get_or-append ds (drop (place + length ds) b) 0 i hi

  -- a byte before the place is the old one
  pub written_before : (i : ℕ) → i < place → get_or (written b place ds) i 0 ≡ get_or b i 0
  unfolding written
  written_before i hi =
      get_or-append (take place b) (ds ++ drop (place + length ds) b) 0 i (simp length-take (omega arith))
      ∙ get_or-take place b i 0 hi

  behind_at : (j : ℕ) → get_or (written b place ds) (place + (length ds + j)) 0 ≡ get_or b (place + length ds + j) 0
  unfolding written
  behind_at j =
      past (take place b) (ds ++ drop (place + length ds) b) place (length ds + j) (length-take-le place b (omega arith))
      ∙ get_or-append-add ds (drop (place + length ds) b) j 0
      ∙ get_or-drop (place + length ds) b j 0

  -- a byte behind those delivered is the old one
  pub written_behind : (i : ℕ) → place + length ds ≤ i → get_or (written b place ds) i 0 ≡ get_or b i 0
  written_behind i hi =
      let j : ℕ = i - (place + length ds) in
      let e : place + (length ds + j) ≡ i = omega arith in
      let f : place + length ds + j ≡ i = omega arith in
      rw (e, f) at (behind_at j)
