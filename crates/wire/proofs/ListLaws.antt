-- The list of protected identifiers: one test over all its places, and what it says of each of them.
use Prim.Native.Nat.{ℕ, ◌%◌, ◌<◌}
use mathlib.Core.Path.{◌≡◌}
use mathlib.Core.Logic.{◌↔◌}
use mathlib.Core.Bool.{Bool, true}
use mathlib.Core.List.{List}
use borrow.Author.Tests.{eqb-true}
use lib.Dec.{eqb}
use lib.ListN.{length, get_or}
use Rattle.wire.specs.Identifier.{protected_byte}
use Rattle.wire.specs.Parts.{Listed}
use Rattle.wire.proofs.Below.{all_below, below}
use Rattle.wire.proofs.IdentifierExactly.{Parity, protected_exactly}

-- the number at a place is the protected identifier by the formula
unfoldable pub right_at : List ℕ → ℕ → Bool
right_at list id = eqb (get_or list id 0) (protected_byte id)

-- 64 numbers that pass the test are the list
pub listed : (list : List ℕ) → length list ≡ 64 → all_below 64 (right_at list) ≡ true → Listed list
unfolding right_at
listed list n all = record { whole = n; right = λ id h. eqb-true _ _ (below 64 (right_at list) all id h) }

-- the list in the paper's words: 64 bytes, each with its place as the six identifier bits and with their two parity bits
pub listed_exactly : (list : List ℕ)
    → Listed list
    ↔ ((length list ≡ 64) × ((id : ℕ) → id < 64 → (get_or list id 0 < 256) × (get_or list id 0 % 64 ≡ id) × Parity (get_or list id 0)))
listed_exactly list = (
  (λ l. (l.whole, (λ id h. (protected_exactly id _ h).0 (l.right id h)))),
  (λ g. record { whole = g.0; right = λ id h. (protected_exactly id _ h).1 (g.1 id h) }),
)
