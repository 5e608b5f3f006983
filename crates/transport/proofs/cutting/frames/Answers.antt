-- Each way out has the test that led to it.
use mathlib.Core.Path.{sym}
use Rattle.transport.proofs.CuttingLaws.{frames_one, frames_more}
use Rattle.transport.proofs.cutting.frames.Goals as goal

pub returns-then-length-le6 : goal.returns-then-length-le6
returns-then-length-le6 c = sym (frames_one _ c.if-length-le6.true)

pub returns-else-length-le6 : goal.returns-else-length-le6
returns-else-length-le6 c = sym (frames_more _ c.if-length-le6.false)
