-- The texts are those of the definition.
use Rattle.std.proofs.Common.{arith}
use Rattle.buslog.specs.Parts.{verdict_text}
use Rattle.buslog.specs.Row.{shown_identifier, word}
use Rattle.buslog.proofs.Fronting.{copied}
use Rattle.buslog.proofs.row.put_verdict.Goals as goal

pub returns-in-Text : goal.returns-in-Text
unfolding verdict_text shown_identifier word
returns-in-Text c = rw c.in-Text.is (copied _ _ (c.copy.ensures.count (omega arith)) (c.copy.ensures.left (omega arith)))

pub returns-in-Parity : goal.returns-in-Parity
unfolding verdict_text shown_identifier word
returns-in-Parity c = rw c.in-Parity.is (copied _ _ (c.copy-in-Parity.ensures.count (omega arith)) (c.copy-in-Parity.ensures.left (omega arith)))

pub returns-in-Unknown : goal.returns-in-Unknown
unfolding verdict_text shown_identifier word
returns-in-Unknown c = rw c.in-Unknown.is c.put_identified.ensures

pub returns-in-Length : goal.returns-in-Length
unfolding verdict_text shown_identifier word
returns-in-Length c = rw c.in-Length.is c.put_identified-in-Length.ensures

pub returns-in-Checksum : goal.returns-in-Checksum
unfolding verdict_text shown_identifier word
returns-in-Checksum c = rw c.in-Checksum.is c.put_identified-in-Checksum.ensures

pub returns-in-Ok : goal.returns-in-Ok
unfolding verdict_text shown_identifier word
returns-in-Ok c = rw c.in-Ok.is c.put_identified-in-Ok.ensures
