-- The check of the members: the words read are the fields, and a mark says whether a frame is in a list.
use Prim.Native.Nat.{ℕ, ◌+◌, ◌*◌, ◌≤◌, ◌<◌}
use mathlib.Core.Path.{◌≡◌, refl, sym}
use mathlib.Core.Bool.{Bool, true, false}
use mathlib.Core.List.{List, ◌++◌}
use native.Mathlib.Omega.{arith}
use lib.ListN.{get_or, set, replicate}
use Rattle.cluster.specs.Check.{fault, faults}
use Rattle.cluster.specs.Columns.{follows, member_columns}
use Rattle.cluster.specs.Passed.{MembersPassed}
use Rattle.cluster.specs.Read.{InLimits, RecordsBefore, IsRecord, due, leading}
use Rattle.cluster.specs.Right.{member_right}
use Rattle.cluster.specs.Table.{most_frames, published, frame_count, member_count}
use Rattle.cluster.specs.Table.{member_words, member_at, word, member_list, member_frame}
use Rattle.cluster.specs.declared.members.Passed.{Passed}
use Rattle.cluster.proofs.Clauses.{member_says}
use Rattle.cluster.proofs.Counting.{counted_none, counted_next, follows_high}
use Rattle.cluster.proofs.Scan.{Agrees, leading_all, all_there, stops_at, goes_to}
use Rattle.cluster.proofs.UsedMarks.{unmarked, marked}

pub none_passed : (t : List ℕ) (first : ℕ) → InLimits t → RecordsBefore t → first ≡ member_at t 0
    → MembersPassed t 0 (record { first = first; listed = replicate most_frames false; lists = 0 })
none_passed t first limits records at = record {
  limits = limits;
  records = records;
  first = at;
  listed = unmarked most_frames (member_frame t);
  lists = sym (counted_none (member_list t) 0 refl);
  few = omega arith;
}

module _ (t : List ℕ) (m : ℕ) (x : Passed) (p : MembersPassed t m x) (more : m < member_count t) (w : List ℕ)
    (read_at : IsRecord t (x.first + member_words * m) member_words w) where
  here : x.first + member_words * m ≡ member_at t m
  here = omega (arith, p.first)

  read : IsRecord t (member_at t m) member_words w
  read = rw here at read_at

  -- the record's words as they are read, with the frame's mark
  abbrev columns : ℕ → ℕ → List Bool
  columns list frame = member_columns (frame_count t) (follows x.lists list) (published t frame) (get_or x.listed frame false) frame

  abbrev pub seen : List Bool
  seen = columns (get_or w 0 0) (get_or w 1 0)

  abbrev list_read : ℕ
  list_read = due t (member_at t m)

  abbrev frame_read : ℕ
  frame_read = due t (member_at t m + 1)

  abbrev due_seen : List Bool
  due_seen = columns list_read frame_read

  same : seen ≡ due_seen
  same = rw (read 0 (omega arith), read 1 (omega arith))

  agrees : Agrees t (member_at t m) 0 due_seen (member_right t m)
  unfolding member_columns member_right member_list member_frame
  agrees = (
    (λ e. omega (arith, p.few, p.limits.members, more, follows_high x.lists list_read e)),
    (λ l. (
      rw (l, p.lists),
      λ _. (
        (λ e. omega (arith, p.records.frames, member_says (frame_count t) (published t frame_read) (get_or x.listed frame_read false) frame_read e)),
        (λ f. (rw (f, p.listed.1 (word t (member_at t m + 1))), λ _. refl)),
      ),
    )),
  )

  -- a word is not right
  pub stops : (j place : ℕ) → leading seen ≡ j → j < member_words → x.first + member_words * m + j ≡ place
      → (rest : List Bool) → faults t (member_at t m) (member_right t m ++ rest) ≡ fault place
  unfolding member_columns
  stops j place l b e = stops_at t (member_at t m) due_seen (member_right t m) agrees j place (rw same at l) b (omega (arith, here, e))

  -- both words are right: the frame read is the one that gets the mark, and the list read is the last so far
  module _ (right : leading seen ≡ member_words) where
    pub goes_on : (rest : List Bool) → faults t (member_at t m) (member_right t m ++ rest) ≡ faults t (member_at t (m + 1)) rest
    unfolding member_columns
    goes_on = goes_to t (member_at t m) due_seen (member_right t m) agrees (member_at t (m + 1)) (rw same at right) (omega arith)

    all : member_words ≤ leading due_seen
    all = omega (arith, rw same at right)

    are : (get_or w 0 0 ≡ member_list t m) × (get_or w 1 0 ≡ member_frame t m)
    unfolding member_columns member_list member_frame
    are =
        let there = all_there t (member_at t m) 0 due_seen (member_right t m) agrees (leading_all due_seen all) in
        (rw (read 0 (omega arith)) there.0, rw (read 1 (omega arith)) there.1.0)

    list_high : list_read ≤ x.lists
    unfolding member_columns
    list_high = follows_high x.lists list_read (leading_all due_seen all).0

    pub passes : get_or w 1 0 < frame_count t
        → MembersPassed t (m + 1) (record { first = x.first; listed = set x.listed (get_or w 1 0) true; lists = get_or w 0 0 + 1 })
    passes below = record {
      limits = p.limits;
      records = p.records;
      first = p.first;
      listed = rw are.1 (marked most_frames (member_frame t) m x.listed p.listed (omega (arith, are.1, below, p.records.frames)));
      lists = rw are.0 (sym (counted_next (member_list t) m));
      few = omega (arith, read 0 (omega arith), list_high, p.few);
    }
