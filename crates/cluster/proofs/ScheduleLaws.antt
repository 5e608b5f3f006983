-- Laws of the schedules of an accepted table: a schedule's first entry, and the entry that follows an entry.
use Prim.Native.Nat.{ℕ, suc, ◌≤◌, ◌<◌}
use mathlib.Core.Path.{◌≡◌}
use mathlib.Core.Bool.{Bool}
use mathlib.Core.List.{List}
use native.Mathlib.Decide.{ℕ_discrete}
use native.Mathlib.Omega.{arith}
use borrow.Author.Tests.{eqb-true, eqb-false, eq-eqb}
use lib.Dec.{eqb}
use Rattle.signal.proofs.Inside.{order}
use Rattle.cluster.specs.Check.{RightTable}
use Rattle.cluster.specs.Lists.{first_entry, next_entry}
use Rattle.cluster.specs.Table.{entry_count, entry_schedule, schedule_count}
use Rattle.cluster.proofs.EntryLaws.{schedule_below, schedule_entry}
use Rattle.cluster.proofs.NextEntry.{next_behind, next_first}
use Rattle.cluster.proofs.Searching.{first_holds, first_before, first_least}

abbrev of_schedule : List ℕ → ℕ → ℕ → Bool
of_schedule t n e = eqb (entry_schedule t e) n

-- no entry before a schedule's first is of that schedule
pub first_entry_before : (t : List ℕ) (n e : ℕ) → e < first_entry t n → entry_schedule t e ≡ n → ⊥
unfolding first_entry
first_entry_before t n e h =
    eqb-false (entry_schedule t e) n (first_before (of_schedule t n) 0 (entry_count t) e (omega arith) h)

-- a schedule's first entry is not behind any of its entries
pub first_entry_least : (t : List ℕ) (n e : ℕ) → entry_schedule t e ≡ n → first_entry t n ≤ e
unfolding first_entry
first_entry_least t n e h =
    first_least (of_schedule t n) 0 (entry_count t) e (omega arith) (eq-eqb (entry_schedule t e) n h)

module _ (t : List ℕ) (ok : RightTable t) where
  -- each schedule of the table has a first entry
  pub first_entry_below : (n : ℕ) → n < schedule_count t → first_entry t n < entry_count t
  first_entry_below n h =
      let w = schedule_entry t ok n h in
      omega (arith, w.1, first_entry_least t n w.0 w.2)

  -- a schedule's first entry is of that schedule
  pub first_entry_schedule : (n : ℕ) → n < schedule_count t → entry_schedule t (first_entry t n) ≡ n
  unfolding first_entry
  first_entry_schedule n h =
      eqb-true (entry_schedule t (first_entry t n)) n
      (first_holds (of_schedule t n) 0 (entry_count t) (omega (arith, first_entry_below n h)))

  next_of : (e : ℕ) → e < entry_count t
      → (next_entry t e < entry_count t) × (entry_schedule t (next_entry t e) ≡ entry_schedule t e)
  next_of e h =
      order (suc e) (entry_count t)
      (λ b. elim (ℕ_discrete (entry_schedule t (suc e)) (entry_schedule t e)) [
        | yes p ↦ rw (next_behind t e b p) (b, p)
        | no p ↦ first (λ c. p)
      ])
      (λ b. first (λ c. absurd (omega arith)))
    where
      first : (suc e < entry_count t → entry_schedule t (suc e) ≡ entry_schedule t e → ⊥)
          → (next_entry t e < entry_count t) × (entry_schedule t (next_entry t e) ≡ entry_schedule t e)
      first n =
          let s = schedule_below t ok e h in
          rw (next_first t e n) (first_entry_below (entry_schedule t e) s, first_entry_schedule (entry_schedule t e) s)

  -- the next entry is an entry of the table
  pub next_entry_below : (e : ℕ) → e < entry_count t → next_entry t e < entry_count t
  next_entry_below e h = (next_of e h).0

  -- the next entry is of the same schedule
  pub next_entry_schedule : (e : ℕ) → e < entry_count t → entry_schedule t (next_entry t e) ≡ entry_schedule t e
  next_entry_schedule e h = (next_of e h).1
