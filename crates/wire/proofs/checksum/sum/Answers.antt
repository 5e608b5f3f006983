-- One byte more is added, and at the end none is left.
use Rattle.std.proofs.Common.{sym, ◌∙◌}
use Rattle.wire.proofs.Sums.{sum_step, sum_end}
use Rattle.wire.proofs.checksum.sum.Goals as goal

pub loop-byte-preserved : goal.loop-byte-preserved
loop-byte-preserved c = c.loop-byte.invariant ∙ sum_step _ _ _ c.loop-byte-test.true ∙ rw (sym c.with_carry-total.ensures)

pub returns : goal.returns
returns c = sym (c.loop-byte.invariant ∙ sum_end _ _ _ c.loop-byte-test.false)
