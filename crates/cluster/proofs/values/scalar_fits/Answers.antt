-- A shift makes 2^width for less than 32 bits, and for more every value is below it.
use native.Mathlib.Omega.{arith}
use borrow.Author.Tests.{lt-ltb}
use Rattle.cluster.specs.Values.{value_fits}
use Rattle.cluster.proofs.ValueSteps.{fits_wide, limit_below}
use Rattle.cluster.proofs.values.scalar_fits.Goals as goal

pub returns-then-width-gt31 : goal.returns-then-width-gt31
returns-then-width-gt31 c =
    rw (lt-ltb 31 c.width-width.result c.if-width-gt31.true)
    (fits_wide _ _ _ _ c.width-width.ensures (omega arith) (omega arith))

pub returns-else-width-gt31 : goal.returns-else-width-gt31
unfolding value_fits
returns-else-width-gt31 c = rw (limit_below c.width-width.result (omega arith), c.width-width.ensures)
