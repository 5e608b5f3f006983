-- Each arm has the number of what is open.
use native.Mathlib.Omega.{arith}
use borrow.Author.Tests.{ne_eqb}
use Rattle.desk.specs.Taken.{opened_of}
use Rattle.desk.proofs.state.opened.Goals as goal

pub returns-in-65536 : goal.returns-in-65536
unfolding opened_of
returns-in-65536 c = rw c.in-65536.is

pub returns-in-65537 : goal.returns-in-65537
unfolding opened_of
returns-in-65537 c = rw c.in-65537.is

pub returns-in-65538 : goal.returns-in-65538
unfolding opened_of
returns-in-65538 c = rw c.in-65538.is

pub returns-in_default : goal.returns-in_default
unfolding opened_of
returns-in_default c = let n = c.args.n in
    rw (
      c.word.ensures,
      ne_eqb n 65536 (λ e. omega (arith, e)),
      ne_eqb n 65537 (λ e. omega (arith, e)),
      ne_eqb n 65538 (λ e. omega (arith, e)),
    )
