-- Each arm has the number that it is for, and what the calls answer is put in.
use native.Mathlib.Omega.{arith}
use borrow.Author.Tests.{ne_eqb}
use lib.ListN.{get_or}
use Rattle.desk.specs.Taken.{reassembly_on}
use Rattle.desk.proofs.assembly.take.Goals as goal

pub returns-in-0 : goal.returns-in-0
unfolding reassembly_on
returns-in-0 c = rw c.in-0.is

pub returns-in_default : goal.returns-in_default
unfolding reassembly_on
returns-in_default c =
    rw (ne_eqb (get_or c.args.desk.now 83 0) 0 (λ e. omega (arith, e)), c.byte.ensures, c.word.ensures, c.word-in_default.ensures, c.byte-in_default.ensures)
