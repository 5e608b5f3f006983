-- A slice cut into chunks: the words of each.
use Rattle.std.proofs.Common.{ℕ, zero, suc, ◌+◌, ◌*◌, ◌<◌, ◌≡◌, ◌∙◌, List, get_or, arith, ap}
use Rattle.std.specs.Prelude.{drop}
use Rattle.std.specs.Simd.{first_chunks}
use Rattle.std.proofs.lemmas.List.{get_or-take, get_or-drop}

pub chunk_word : (n k : ℕ) (xs : List ℕ) (j i : ℕ) (d : List ℕ) → i < n → j < k
    → get_or (get_or (first_chunks n k xs) j d) i 0 ≡ get_or xs (n * j + i) 0
chunk_word n zero xs j i d p h = absurd (omega arith)
chunk_word n (suc k) xs zero i d p h = get_or-take n xs i 0 p ∙ ap (λ m. get_or xs m 0) (omega arith)
chunk_word n (suc k) xs (suc j) i d p h =
    chunk_word n k (drop n xs) j i d p (omega arith) ∙ get_or-drop n xs (n * j + i) 0 ∙ ap (λ m. get_or xs m 0) (omega arith)
