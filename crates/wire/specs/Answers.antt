-- An answer in the paper's terms.
use Rattle.std.specs.Prelude.{ℕ, [], ◌∷◌, Result, Ok, Err}
use Rattle.refusal.specs.Answers.{Told, gives, refuses}
use Rattle.refusal.specs.Numbers.{refused}
use Rattle.refusal.specs.declared.Refusal.{Refusal}

-- what every call of this crate answers: one byte, or the refusal
abbrev pub Answer : Type 0
Answer = Result ℕ Refusal

-- the number, the place and the value of each case
abbrev pub told : Answer → Told
told (Ok b) = gives (b ∷ [])
told (Err r) = refuses r

-- the answer that refuses with a number and no place
abbrev pub refused_with : ℕ → Answer
refused_with n = Err (refused n)
