-- The check of the signals: the words read are the fields.
use Prim.Native.Nat.{ℕ, ◌+◌, ◌*◌, ◌<◌}
use mathlib.Core.Path.{◌≡◌, refl}
use mathlib.Core.Bool.{Bool}
use mathlib.Core.List.{List, ◌++◌}
use native.Mathlib.Omega.{arith}
use borrow.Author.Tests.{ltb-true, leb-true}
use lib.Dec.{eqb}
use lib.ListN.{get_or}
use Rattle.cluster.specs.Check.{fault, faults}
use Rattle.cluster.specs.Columns.{start_limit, signal_columns}
use Rattle.cluster.specs.Passed.{SignalsPassed}
use Rattle.cluster.specs.Read.{IsRecord, due, leading}
use Rattle.cluster.specs.Right.{signal_right}
use Rattle.cluster.specs.Table.{signal_words, signal_at, signal_kind, signal_width, signal_start}
use Rattle.cluster.specs.declared.signals.Passed.{Passed}
use Rattle.cluster.proofs.Scan.{Agrees, stops_at, goes_to}
use Rattle.cluster.proofs.Widths.{width_range, start_limit_high}

module _ (t : List ℕ) (s : ℕ) (x : Passed) (p : SignalsPassed t s x) (w : List ℕ)
    (read_at : IsRecord t (x.first + signal_words * s) signal_words w) where
  here : x.first + signal_words * s ≡ signal_at t s
  here = omega (arith, p.first)

  read : IsRecord t (signal_at t s) signal_words w
  read = rw here at read_at

  abbrev kind_read : ℕ
  kind_read = due t (signal_at t s)

  abbrev width_read : ℕ
  width_read = due t (signal_at t s + 1)

  abbrev start_read : ℕ
  start_read = due t (signal_at t s + 2)

  -- the record's words as they are read
  abbrev pub seen : List Bool
  seen = signal_columns (get_or w 0 0) (get_or w 1 0) (get_or w 2 0)

  abbrev due_seen : List Bool
  due_seen = signal_columns kind_read width_read start_read

  same : seen ≡ due_seen
  same = rw (read 0 (omega arith), read 1 (omega arith), read 2 (omega arith))

  agrees : Agrees t (signal_at t s) 0 due_seen (signal_right t s)
  unfolding signal_columns signal_right signal_kind signal_width signal_start
  agrees = (
    (λ e. omega (arith, leb-true kind_read 1 e)),
    (λ k. (
      rw k,
      λ _. (
        (λ e. omega (arith, width_range (eqb kind_read 1) width_read e)),
        (λ w. (
          rw (k, w),
          λ e1. (
            (λ e. omega (arith, ltb-true start_read (start_limit (eqb kind_read 1) width_read) e, start_limit_high (eqb kind_read 1) width_read e1)),
            (λ v. (rw (k, w, v), λ _. refl)),
          ),
        )),
      ),
    )),
  )

  -- a word is not right
  pub stops : (j place : ℕ) → leading seen ≡ j → j < signal_words → x.first + signal_words * s + j ≡ place
      → (rest : List Bool) → faults t (signal_at t s) (signal_right t s ++ rest) ≡ fault place
  unfolding signal_columns
  stops j place l b e = stops_at t (signal_at t s) due_seen (signal_right t s) agrees j place (rw same at l) b (omega (arith, here, e))

  -- all words are right
  pub goes_on : leading seen ≡ signal_words → (rest : List Bool)
      → faults t (signal_at t s) (signal_right t s ++ rest) ≡ faults t (signal_at t (s + 1)) rest
  unfolding signal_columns
  goes_on right = goes_to t (signal_at t s) due_seen (signal_right t s) agrees (signal_at t (s + 1)) (rw same at right) (omega arith)
