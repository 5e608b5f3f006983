-- Each kind has its own test.
use mathlib.Core.Path.{sym}
use native.Mathlib.Omega.{arith}
use Rattle.cluster.proofs.EntryTurn.{other_kind}
use Rattle.cluster.specs.Columns.{target_right}
use Rattle.cluster.proofs.entries.target_right.Goals as goal

pub returns-in-0 : goal.returns-in-0
unfolding target_right
returns-in-0 c = rw c.in-0.is

pub returns-in-1 : goal.returns-in-1
unfolding target_right
returns-in-1 c = rw c.in-1.is

pub returns-in_default : goal.returns-in_default
returns-in_default c =
    let a = c.args in
    sym (other_kind a.frames a.lists a.kind a.target (λ e. omega (arith, e)) (λ e. omega (arith, e)))
