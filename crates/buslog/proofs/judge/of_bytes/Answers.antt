-- By cases of the identifier that is read.
use Rattle.std.proofs.Common.{sym, refl, ◌∙◌}
use Rattle.buslog.proofs.Judging.{wrong_parity, by_identifier, read_below}
use Rattle.buslog.proofs.judge.of_bytes.Goals as goal

pub of_identifier-requires : goal.of_identifier-requires
of_identifier-requires c = read_below _ c.in-Ok.id (sym c.in-Ok.ensures.value)

pub returns-in-Err : goal.returns-in-Err
returns-in-Err c = wrong_parity _ _ c.in-Err.field-0 c.requires (sym c.in-Err.ensures.value)

pub returns-in-Ok : goal.returns-in-Ok
returns-in-Ok c = c.of_identifier.ensures ∙ by_identifier _ _ _ _ c.requires refl (sym c.in-Ok.ensures.value)
