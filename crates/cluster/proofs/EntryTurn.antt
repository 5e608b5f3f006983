-- The check of the entries: the words read are the fields.
use Prim.Native.Nat.{ℕ, zero, suc, ◌+◌, ◌*◌, ◌≤◌, ◌<◌}
use mathlib.Core.Path.{◌≡◌, refl, sym}
use mathlib.Core.Bool.{Bool, true}
use mathlib.Core.List.{List, ◌++◌}
use native.Mathlib.Omega.{arith}
use borrow.Author.Tests.{ltb-true, leb-true, eqb-true}
use lib.Dec.{eqb}
use lib.ListN.{get_or}
use Rattle.cluster.specs.Check.{fault, faults}
use Rattle.cluster.specs.Columns.{follows, target_right, entry_columns}
use Rattle.cluster.specs.Passed.{EntriesPassed}
use Rattle.cluster.specs.Read.{IsRecord, due, leading}
use Rattle.cluster.specs.Right.{entry_right}
use Rattle.cluster.specs.Table.{entry_count, entry_words, entry_at}
use Rattle.cluster.specs.Table.{entry_schedule, entry_kind, entry_target, entry_delay}
use Rattle.cluster.specs.declared.entries.Passed.{Passed}
use Rattle.cluster.proofs.Clauses.{within_high}
use Rattle.cluster.proofs.Counting.{counted_next, follows_high}
use Rattle.cluster.proofs.Scan.{Agrees, leading_all, all_there, stops_at, goes_to}

-- a target is below what its kind allows
target_below : (frames lists kind target : ℕ) → frames ≤ 60 → lists ≤ 65536 → target_right frames lists kind target ≡ true → target < 65536
unfolding target_right
target_below frames lists zero target few fits h = omega (arith, ltb-true target frames h)
target_below frames lists (suc zero) target few fits h = omega (arith, ltb-true target lists h)
target_below frames lists (suc (suc kind)) target few fits h = omega (arith, eqb-true target 0 h)

pub other_kind : (frames lists kind target : ℕ) → (kind ≡ 0 → ⊥) → (kind ≡ 1 → ⊥) → target_right frames lists kind target ≡ eqb target 0
unfolding target_right
other_kind frames lists zero target h k = absurd (h refl)
other_kind frames lists (suc zero) target h k = absurd (k refl)
other_kind frames lists (suc (suc kind)) target h k = refl

module _ (t : List ℕ) (e : ℕ) (x : Passed) (p : EntriesPassed t e x) (more : e < entry_count t) (w : List ℕ)
    (read_at : IsRecord t (x.first + entry_words * e) entry_words w) where
  here : x.first + entry_words * e ≡ entry_at t e
  here = omega (arith, p.first)

  read : IsRecord t (entry_at t e) entry_words w
  read = rw here at read_at

  abbrev columns : ℕ → ℕ → ℕ → ℕ → List Bool
  columns schedule kind target delay = entry_columns x.frames x.lists (follows x.schedules schedule) kind target delay

  -- the record's words as they are read
  abbrev pub seen : List Bool
  seen = columns (get_or w 0 0) (get_or w 1 0) (get_or w 2 0) (get_or w 3 0)

  abbrev schedule_read : ℕ
  schedule_read = due t (entry_at t e)

  abbrev kind_read : ℕ
  kind_read = due t (entry_at t e + 1)

  abbrev target_read : ℕ
  target_read = due t (entry_at t e + 2)

  abbrev delay_read : ℕ
  delay_read = due t (entry_at t e + 3)

  abbrev due_seen : List Bool
  due_seen = columns schedule_read kind_read target_read delay_read

  same : seen ≡ due_seen
  same = rw (read 0 (omega arith), read 1 (omega arith), read 2 (omega arith), read 3 (omega arith))

  agrees : Agrees t (entry_at t e) 0 due_seen (entry_right t e)
  unfolding entry_columns entry_right entry_schedule entry_kind entry_target entry_delay
  agrees = (
    (λ r. omega (arith, p.few, p.limits.entries, more, follows_high x.schedules schedule_read r)),
    (λ s. (
      rw (s, p.schedules),
      λ _. (
        (λ r. omega (arith, leb-true kind_read 3 r)),
        (λ k. (
          rw k,
          λ _. (
            (λ r. target_below x.frames x.lists kind_read target_read (omega (arith, p.frames, p.limits.frames)) p.lists_high r),
            (λ v. (
              rw (k, v, p.frames, p.lists),
              λ _. ((λ r. omega (arith, within_high _ 65535 delay_read r)), (λ d. (rw d, λ _. refl))),
            )),
          ),
        )),
      ),
    )),
  )

  -- a word is not right
  pub stops : (j place : ℕ) → leading seen ≡ j → j < entry_words → x.first + entry_words * e + j ≡ place
      → (rest : List Bool) → faults t (entry_at t e) (entry_right t e ++ rest) ≡ fault place
  unfolding entry_columns
  stops j place l b is = stops_at t (entry_at t e) due_seen (entry_right t e) agrees j place (rw same at l) b (omega (arith, here, is))

  -- all words are right: the schedule read is the last so far
  module _ (right : leading seen ≡ entry_words) where
    pub goes_on : (rest : List Bool) → faults t (entry_at t e) (entry_right t e ++ rest) ≡ faults t (entry_at t (e + 1)) rest
    unfolding entry_columns
    goes_on = goes_to t (entry_at t e) due_seen (entry_right t e) agrees (entry_at t (e + 1)) (rw same at right) (omega arith)

    all : entry_words ≤ leading due_seen
    all = omega (arith, rw same at right)

    schedule_is : get_or w 0 0 ≡ entry_schedule t e
    unfolding entry_columns entry_schedule
    schedule_is = rw (read 0 (omega arith)) (all_there t (entry_at t e) 0 due_seen (entry_right t e) agrees (leading_all due_seen all)).0

    schedule_high : schedule_read ≤ x.schedules
    unfolding entry_columns
    schedule_high = follows_high x.schedules schedule_read (leading_all due_seen all).0

    pub passes : EntriesPassed t (e + 1) (record { first = x.first; whole = x.whole; frames = x.frames; lists = x.lists; schedules = get_or w 0 0 + 1 })
    passes = record {
      limits = p.limits;
      first = p.first;
      whole = p.whole;
      frames = p.frames;
      lists = p.lists;
      lists_high = p.lists_high;
      schedules = rw schedule_is (sym (counted_next (entry_schedule t) e));
      few = omega (arith, read 0 (omega arith), schedule_high, p.few);
    }
