-- By cases of the answer.
use Rattle.std.proofs.Common.{arith}
use Rattle.host.specs.Coded.{coded}
use Rattle.host.proofs.coded.Goals as goal

pub returns-in-Ok : goal.returns-in-Ok
unfolding coded
returns-in-Ok c = rw c.in-Ok.is (omega arith)

pub returns-in-Err : goal.returns-in-Err
unfolding coded
returns-in-Err c = rw c.in-Err.is (omega arith)
