-- The code's list passes the test, and each arm is a case of the definition's test.
use native.Mathlib.Omega.{arith}
use borrow.Author.Tests.{lt-ltb, le-ltb}
use Rattle.wire.specs.Identifier.{protected_of}
use Rattle.wire.proofs.AnswerLaws.{build_told}
use Rattle.wire.proofs.identifier.build.Goals as goal

pub returns-then-id-lt64 : goal.returns-then-id-lt64
unfolding protected_of
returns-then-id-lt64 c =
    let both = let id = c.args.id in
    build_told id _ (simp (lt-ltb id 64 (omega arith), c.protected_byte.ensures)) in
    record { value = both.0; told = both.1 }

pub returns-else-id-lt64 : goal.returns-else-id-lt64
unfolding protected_of
returns-else-id-lt64 c =
    let both = build_told c.args.id _ (simp (le-ltb c.args.id 64 (omega arith), c.refused.ensures)) in
    record { value = both.0; told = both.1 }
