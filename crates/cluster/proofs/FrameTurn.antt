-- The check of the frames: the words read are the fields, and a mark says whether an identifier was used.
use Prim.Native.Nat.{ℕ, ◌+◌, ◌≤◌, ◌<◌}
use mathlib.Core.Path.{◌≡◌, refl}
use mathlib.Core.Bool.{Bool, true, false}
use mathlib.Core.List.{List, ◌++◌}
use native.Mathlib.Omega.{arith}
use borrow.Author.Tests.{leb-true}
use lib.ListN.{length, get_or, set, replicate}
use Rattle.cluster.specs.Check.{fault, faults}
use Rattle.cluster.specs.Columns.{frame_columns}
use Rattle.cluster.specs.Passed.{FramesPassed}
use Rattle.cluster.specs.Read.{InLimits, IsRecord, due, leading}
use Rattle.cluster.specs.Right.{frame_right}
use Rattle.cluster.specs.Table.{identifiers, frame_words, frame_count, frame_at, word, identifier, frame_length, flags}
use Rattle.cluster.specs.declared.frames.Passed.{Passed}
use Rattle.cluster.proofs.Clauses.{within_high, identifier_says}
use Rattle.cluster.proofs.Scan.{Agrees, leading_all, all_there, stops_at, goes_to}
use Rattle.cluster.proofs.UsedMarks.{unmarked, marked}

pub none_passed : (t : List ℕ) (whole : Bool) → InLimits t → (whole ≡ true → frame_at (frame_count t) ≤ length t)
    → FramesPassed t 0 (record { whole = whole; used = replicate identifiers false })
none_passed t whole limits there = record { limits = limits; whole = there; used = unmarked identifiers (identifier t) }

module _ (t : List ℕ) (f : ℕ) (x : Passed) (p : FramesPassed t f x) (w : List ℕ) (read : IsRecord t (frame_at f) frame_words w) where
  -- the record's words as they are read, with the identifier's mark
  abbrev columns : ℕ → ℕ → ℕ → List Bool
  columns id bytes flags = frame_columns (get_or x.used id false) id bytes flags

  abbrev pub seen : List Bool
  seen = columns (get_or w 0 0) (get_or w 1 0) (get_or w 2 0)

  abbrev due_seen : List Bool
  due_seen = columns (due t (frame_at f)) (due t (frame_at f + 1)) (due t (frame_at f + 2))

  same : seen ≡ due_seen
  same = rw (read 0 (omega arith), read 1 (omega arith), read 2 (omega arith))

  agrees : Agrees t (frame_at f) 0 due_seen (frame_right t f)
  unfolding frame_columns frame_right identifier frame_length flags
  agrees = (
    (λ e. omega (arith, identifier_says (get_or x.used (due t (frame_at f)) false) (due t (frame_at f)) e)),
    (λ i. (
      rw (i, p.used.1 (word t (frame_at f))),
      λ _. (
        (λ e. omega (arith, within_high 1 8 (due t (frame_at f + 1)) e)),
        (λ l. (rw l, λ _. ((λ e. omega (arith, leb-true (due t (frame_at f + 2)) 3 e)), (λ g. (rw g, λ _. refl))))),
      ),
    )),
  )

  -- a word is not right
  pub stops : (j place : ℕ) → leading seen ≡ j → j < frame_words → frame_at f + j ≡ place
      → (rest : List Bool) → faults t (frame_at f) (frame_right t f ++ rest) ≡ fault place
  unfolding frame_columns
  stops j place l b e = stops_at t (frame_at f) due_seen (frame_right t f) agrees j place (rw same at l) b e

  -- all words are right: the identifier read is the one that gets the mark
  module _ (right : leading seen ≡ frame_words) where
    pub goes_on : (rest : List Bool) → faults t (frame_at f) (frame_right t f ++ rest) ≡ faults t (frame_at (f + 1)) rest
    unfolding frame_columns
    goes_on = goes_to t (frame_at f) due_seen (frame_right t f) agrees (frame_at (f + 1)) (rw same at right) (omega arith)

    identifier_is : get_or w 0 0 ≡ identifier t f
    unfolding frame_columns identifier
    identifier_is =
        let all : frame_words ≤ leading due_seen = omega (arith, rw same at right) in
        rw (read 0 (omega arith)) (all_there t (frame_at f) 0 due_seen (frame_right t f) agrees (leading_all due_seen all)).0

    pub passes : get_or w 0 0 < identifiers → FramesPassed t (f + 1) (record { whole = x.whole; used = set x.used (get_or w 0 0) true })
    passes below = record {
      limits = p.limits;
      whole = p.whole;
      used = rw identifier_is (marked identifiers (identifier t) f x.used p.used (rw identifier_is at below));
    }
