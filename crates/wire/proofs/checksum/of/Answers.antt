-- The three tests are the definition's, and the sum goes on from what is covered before the data.
use mathlib.Core.Logic.{⊎_elim}
use native.Mathlib.Omega.{arith}
use borrow.Author.Tests.{lt-ltb, le-ltb, le-leb, lt-leb, leb-true}
use lib.ListN.{length}
use Rattle.wire.specs.Checksum.{checksum_of, checksum_byte, inverted, model_of}
use Rattle.wire.proofs.Sums.{sum_covered}
use Rattle.wire.proofs.AnswerLaws.{sum_told}
use Rattle.wire.proofs.checksum.of.Goals as goal

pub returns-then-data-le8 : goal.returns-then-data-le8
unfolding checksum_of checksum_byte inverted
returns-then-data-le8 c =
    let a = c.args in
    let both = sum_told a.id a.wish a.«data».now _ (simp (
      lt-ltb a.id 64 (omega arith),
      le-leb 1 (length a.«data».now) (omega (arith, leb-true)),
      le-leb (length a.«data».now) 8 (omega (arith, leb-true)),
      c.sum.ensures,
      c.start.ensures,
      ← (sum_covered (model_of a.id a.wish)),
    )) in
    record { value = both.0; told = both.1 }

pub returns-else-id-lt64 : goal.returns-else-id-lt64
unfolding checksum_of
returns-else-id-lt64 c =
    let a = c.args in
    let both = sum_told a.id a.wish a.«data».now c.refused.result
    (⊎_elim
    (λ w. simp (lt-ltb a.id 64 w.0, le-leb 1 (length a.«data».now) w.1, lt-leb (length a.«data».now) 8 w.2, c.refused.ensures))
    (⊎_elim (λ w. simp (lt-ltb a.id 64 w.0, lt-leb 1 (length a.«data».now) w.1, c.refused.ensures))
    (λ w. simp (le-ltb a.id 64 w, c.refused.ensures)))
    c.else-id-lt64.either) in
    record { value = both.0; told = both.1 }
