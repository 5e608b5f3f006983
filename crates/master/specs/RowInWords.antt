-- Beside the row of values: document 02's sentences about it in terms of the single writes, for the theorems of proofs/RowExactly.antt.
use Rattle.std.specs.Prelude.{ℕ, ◌≡◌, List, [], ◌∷◌, ◌++◌, length}
use Rattle.refusal.specs.declared.Refusal.{Refusal}
use Rattle.refusal.specs.Numbers.{refused, refused_at}
use Rattle.master.specs.Admit.{admitted}
use Rattle.master.specs.Put.{Put, puts}
use Rattle.master.specs.WriteRow.{row_of}
use Rattle.master.specs.Calls as call
use Rattle.master.specs.Run.{Held, held, answer_of, left_by}
use Rattle.std.specs.Prelude.{Ok, Err}
use Rattle.master.specs.Calls.{WriteAnswer}

-- what a row answers
unfoldable pub row_answer : List ℕ → Held → List ℕ → List ℕ → WriteAnswer
row_answer t x ss vs = (row_of t x.state x.bytes ss vs).given.answer

-- what a row leaves
unfoldable pub row_left : List ℕ → Held → List ℕ → List ℕ → Held
row_left t x ss vs = held (row_of t x.state x.bytes ss vs).given.state (row_of t x.state x.bytes ss vs).left

-- "writing them one by one in row order": what some single writes leave
unfoldable pub after_writes : List ℕ → Held → List Put → Held
after_writes t x [] = x
after_writes t x (w ∷ ws) = after_writes t (left_by t x (call.write w)) ws

-- each of them is accepted, one after the other
abbrev pub AllWritten : List ℕ → Held → List Put → Type 0
AllWritten t x [] = Unit {0}
AllWritten t x (w ∷ ws) = (answer_of t x (call.write w) ≡ Ok tt) × AllWritten t (left_by t x (call.write w)) ws

-- tests 1 to 3 hold, as for every call that is lent the frame bytes
abbrev pub Admitted : List ℕ → Held → Type 0
Admitted t x = admitted t (length x.bytes) x.state ≡ Ok tt

-- when a row is refused, and how
pub data RowRefused (t : List ℕ) (x : Held) (ss vs : List ℕ) : Refusal → Type 0 where
  -- with 1, 2 or 3, as every call that is lent the frame bytes
  as_every_call : {r : Refusal} → admitted t (length x.bytes) x.state ≡ Err r → RowRefused t x ss vs r
  -- "rows of unequal length are 12, tested after 1 to 3"
  unequal : Admitted t x → ¬ (length ss ≡ length vs) → RowRefused t x ss vs (refused 12)
  -- "then the number of the first bad pair, with its place": the single writes before it would be accepted, and it would be refused with that number
  bad_pair : Admitted t x → length ss ≡ length vs
      → (before : List Put) (w : Put) (after : List Put) (n : ℕ)
      → puts ss vs ≡ before ++ (w ∷ after)
      → AllWritten t x before
      → answer_of t (after_writes t x before) (call.write w) ≡ Err (refused n)
      → RowRefused t x ss vs (refused_at n (length before))
