-- The check of the header: the words read are the fields.
use Prim.Native.Nat.{ℕ, ◌<◌}
use mathlib.Core.Path.{◌≡◌, refl}
use mathlib.Core.Bool.{Bool}
use mathlib.Core.List.{List, [], append-nil}
use native.Mathlib.Omega.{arith}
use borrow.Author.Tests.{leb-true}
use lib.ListN.{get_or}
use Rattle.std.specs.Prelude.{Ok}
use Rattle.cluster.specs.Check.{fault, faults, header_faults}
use Rattle.cluster.specs.Columns.{header_columns}
use Rattle.cluster.specs.Read.{IsRecord, due, leading}
use Rattle.cluster.specs.Right.{header_right}
use Rattle.cluster.specs.Table.{header_words, most_frames, most_signals, most_members, most_entries, most_placements}
use Rattle.cluster.specs.Table.{frame_count, signal_count, member_count, entry_count, placement_count}
use Rattle.cluster.proofs.Scan.{Agrees, stops_at, goes_to}

abbrev header_read : List ℕ → List Bool
header_read t = header_columns (due t 0) (due t 1) (due t 2) (due t 3) (due t 4)

header_agrees : (t : List ℕ) → Agrees t 0 0 (header_read t) (header_right t)
unfolding header_columns header_right frame_count signal_count member_count entry_count placement_count
header_agrees t = (
  (λ e. omega (arith, leb-true (due t 0) most_frames e)),
  (λ f. (
    rw f,
    λ _. (
      (λ e. omega (arith, leb-true (due t 1) most_signals e)),
      (λ s. (
        rw s,
        λ _. (
          (λ e. omega (arith, leb-true (due t 2) most_members e)),
          (λ m. (
            rw m,
            λ _. (
              (λ e. omega (arith, leb-true (due t 3) most_entries e)),
              (λ n. (rw n, λ _. ((λ e. omega (arith, leb-true (due t 4) most_placements e)), (λ p. (rw p, λ _. refl))))),
            ),
          )),
        ),
      )),
    ),
  )),
)

module _ (t : List ℕ) (w : List ℕ) (read : IsRecord t 0 header_words w) where
  -- the header's words as they are read
  abbrev pub seen : List Bool
  seen = header_columns (get_or w 0 0) (get_or w 1 0) (get_or w 2 0) (get_or w 3 0) (get_or w 4 0)

  same : seen ≡ header_read t
  same = rw (read 0 (omega arith), read 1 (omega arith), read 2 (omega arith), read 3 (omega arith), read 4 (omega arith))

  -- a word is not right
  pub stops : (j : ℕ) → leading seen ≡ j → j < header_words → header_faults t ≡ fault j
  unfolding header_columns
  stops j l b = rw append-nil at (stops_at t 0 (header_read t) (header_right t) (header_agrees t) j j (rw same at l) b (omega arith) [])

  -- all words are right
  pub goes_on : leading seen ≡ header_words → header_faults t ≡ Ok tt
  unfolding header_columns faults
  goes_on right = rw append-nil at (goes_to t 0 (header_read t) (header_right t) (header_agrees t) 5 (rw same at right) refl [])
