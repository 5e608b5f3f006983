-- Each arm has its numbers.
use Prim.Native.Nat.{ℕ, ◌<◌, ◌≤◌}
use mathlib.Core.Bool.{Bool, true, false}
use mathlib.Core.Path.{◌≡◌, sym}
use native.Mathlib.Omega.{arith}
use borrow.Author.Tests.{ne_eqb, le-leb, lt-leb}
use Rattle.refusal.specs.Numbers.{tells_place}
use Rattle.refusal.proofs.Refusal.tells_place.Goals as goal

-- a number from 4 to 7 is given with a place by a row, and any other but 1 is not
inside : (row : Bool) (n : ℕ) → 4 ≤ n → n ≤ 7 → tells_place row n ≡ row
unfolding tells_place
inside true n low high = rw (ne_eqb n 1 (λ e. omega (arith, e)), le-leb 4 n low, le-leb n 7 high)
inside false n low high = rw (ne_eqb n 1 (λ e. omega (arith, e)))

below : (row : Bool) (n : ℕ) → ¬ (n ≡ 1) → n < 4 → tells_place row n ≡ false
unfolding tells_place
below true n one low = rw (ne_eqb n 1 one, lt-leb 4 n low)
below false n one low = rw (ne_eqb n 1 one)

above : (row : Bool) (n : ℕ) → 7 < n → tells_place row n ≡ false
unfolding tells_place
above true n high = rw (ne_eqb n 1 (λ e. omega (arith, e)), le-leb 4 n (omega arith), lt-leb n 7 high)
above false n high = rw (ne_eqb n 1 (λ e. omega (arith, e)))

pub returns-in-1 : goal.returns-in-1
unfolding tells_place
returns-in-1 c = rw c.in-1.is

pub returns-in-4-to-7 : goal.returns-in-4-to-7
returns-in-4-to-7 c = sym (inside c.args.row c.args.self.number (omega arith) (omega arith))

pub returns-in_default : goal.returns-in_default
returns-in_default c = sym (below c.args.row c.args.self.number (λ e. omega (arith, e)) (omega arith))

pub returns-in_default-2 : goal.returns-in_default-2
returns-in_default-2 c = sym (above c.args.row c.args.self.number (omega arith))
