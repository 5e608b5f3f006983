-- Each way out has the tests that led to it, and what the calls answer is put in.
use Rattle.std.proofs.Common.{arith}
use borrow.Author.Tests.{eq-eqb, ne_eqb}
use Rattle.master.specs.Byte.{sent_byte}
use Rattle.master.proofs.TransferTypes.{transfer_count}
use Rattle.master.proofs.closing.InTransfer.sent_byte.Goals as goal

pub bounds-transfer-transfer : goal.bounds-transfer-transfer
bounds-transfer-transfer c = omega (arith, transfer_count c.args.self)

pub returns-then-transfer-b : goal.returns-then-transfer-b
unfolding sent_byte
returns-then-transfer-b c = rw (ne_eqb _ _ c.if-transfer-b.true, c.failed.ensures)

pub returns-then-early : goal.returns-then-early
unfolding sent_byte
returns-then-early c = rw (eq-eqb _ _ c.if-transfer-b.false, ← c.early.ensures, c.if-early.true, c.passed.ensures)

pub returns : goal.returns
unfolding sent_byte
returns c = rw (eq-eqb _ _ c.if-transfer-b.false, ← c.early.ensures, c.if-early.false, c.sent.ensures)
