-- The entry that follows an entry: the one behind it where that has the same schedule, and else the schedule's first.
use Prim.Native.Nat.{ℕ, suc, ◌<◌}
use mathlib.Core.Path.{◌≡◌}
use mathlib.Core.List.{List}
use borrow.Author.Tests.{ltb-true, eqb-true, lt-ltb, eq-eqb}
use lib.Dec.{ltb, eqb}
use Rattle.wire.proofs.Tests.{whether}
use Rattle.cluster.specs.Lists.{first_entry, next_entry}
use Rattle.cluster.specs.Table.{entry_count, entry_schedule}

-- within the schedule the next entry is the one behind
pub next_behind : (t : List ℕ) (e : ℕ) → suc e < entry_count t → entry_schedule t (suc e) ≡ entry_schedule t e → next_entry t e ≡ suc e
unfolding next_entry
next_behind t e h k = rw (lt-ltb (suc e) (entry_count t) h, eq-eqb (entry_schedule t (suc e)) (entry_schedule t e) k)

-- behind the schedule's last entry its first follows
pub next_first : (t : List ℕ) (e : ℕ) → (suc e < entry_count t → entry_schedule t (suc e) ≡ entry_schedule t e → ⊥)
    → next_entry t e ≡ first_entry t (entry_schedule t e)
unfolding next_entry
next_first t e h =
    whether (ltb (suc e) (entry_count t))
    (λ p. whether (eqb (entry_schedule t (suc e)) (entry_schedule t e))
    (λ q. absurd (h (ltb-true (suc e) (entry_count t) p) (eqb-true (entry_schedule t (suc e)) (entry_schedule t e) q)))
    (λ q. rw (p, q)))
    (λ p. rw p)
