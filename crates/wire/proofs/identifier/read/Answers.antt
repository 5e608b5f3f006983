-- Right parity is what the list has for the identifier bits.
use borrow.Author.Tests.{eq-eqb, ne_eqb}
use native.Mathlib.Omega.{arith}
use mathlib.Core.Path.{sym, ◌∙◌}
use Prim.Native.Nat.{◌<◌}
use Rattle.wire.specs.Identifier.{read_of}
use Rattle.wire.proofs.IdentifierLaws.{parity_built}
use Rattle.wire.proofs.AnswerLaws.{read_told_lem}
use Rattle.wire.proofs.identifier.read.Goals as goal

pub returns-then-protected_byte-protected : goal.returns-then-protected_byte-protected
unfolding read_of
returns-then-protected_byte-protected c =
    let both = let b : c.args.protected < 256 = omega arith in
    read_told_lem _ _ (simp (parity_built _ b, eq-eqb _ _ (sym c.protected_byte.ensures ∙ c.if-protected_byte-protected.true))) in
    record { value = both.0; told = both.1 }

pub returns-else-protected_byte-protected : goal.returns-else-protected_byte-protected
unfolding read_of
returns-else-protected_byte-protected c =
    let both = let b : c.args.protected < 256 = omega arith in
    read_told_lem _ _ (simp (
      parity_built _ b,
      ne_eqb _ _ (λ e. c.if-protected_byte-protected.false (c.protected_byte.ensures ∙ e)),
      c.refused.ensures,
    )) in
    record { value = both.0; told = both.1 }
