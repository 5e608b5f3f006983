-- The identifier of the format is below 64, and the data are right: their checksum is answered.
use Rattle.std.proofs.Common.{arith, ap, ◌∙◌}
use Rattle.wire.proofs.AnswerLaws.{sums}
use Rattle.master.proofs.TransferTypes.{known_identifier}
use Rattle.master.specs.declared.transfer.Format.{Format}
use Rattle.master.specs.Transfers.{open_checksum}
use Rattle.master.proofs.transfer.Known.checksum.Goals as goal

pub overflow_cast-format : goal.overflow_cast-format
overflow_cast-format c =
    let a = c.args in
    let below = known_identifier a.self in
    record { fits = omega (arith, ap (λ (x : Format). x.identifier) c.format-format.ensures, below) }

pub returns : goal.returns
unfolding open_checksum
returns c =
    let a = c.args in
    let below = known_identifier a.self in
    c.unwrap_or.ensures ∙ rw (c.of.ensures.value, c.format-format.ensures, sums _ _ a.bytes.now (below, c.requires.0, c.requires.1))
