-- What a list of protected identifiers holds; the proof of `protected_byte` goes by it.
use Rattle.std.specs.Prelude.{ℕ, ◌<◌, ◌≡◌, List, length, get_or}
use Rattle.wire.specs.Identifier.{protected_byte}

-- 64 numbers, each the protected identifier of its place
pub record Listed (list : List ℕ) : Type 0 where
  pub whole : length list ≡ 64
  pub right : (id : ℕ) → id < 64 → get_or list id 0 ≡ protected_byte id
