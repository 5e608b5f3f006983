-- The definition is opened, with what the calls answer put in.
use Rattle.transport.specs.Reassembly.{bytes_due}
use native.Mathlib.Omega.{arith}
use Rattle.transport.proofs.reassembly.Assembly.bytes_due.Goals as goal

pub returns-clause-value : goal.returns-clause-value
unfolding bytes_due
returns-clause-value c = omega (arith, c.min.ensures, c.saturating_sub.ensures)
