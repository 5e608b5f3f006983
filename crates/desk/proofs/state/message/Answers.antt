-- Each arm has the number of its kind, and what the calls answer is put in.
use native.Mathlib.Omega.{arith}
use borrow.Author.Tests.{ne_eqb}
use lib.ListN.{get_or}
use Rattle.desk.specs.Taken.{message_on}
use Rattle.desk.proofs.state.message.Goals as goal

pub returns-in-1 : goal.returns-in-1
unfolding message_on
returns-in-1 c = rw (c.in-1.is, c.word-in-1.ensures, c.word.ensures, c.byte.ensures)

pub returns-in-2 : goal.returns-in-2
unfolding message_on
returns-in-2 c = rw c.in-2.is

pub returns-in-3 : goal.returns-in-3
unfolding message_on
returns-in-3 c = rw c.in-3.is

pub returns-in_default : goal.returns-in_default
unfolding message_on
returns-in_default c = let kind = get_or c.args.desk.now 75 0 in
    rw (ne_eqb kind 1 (λ e. omega (arith, e)), ne_eqb kind 2 (λ e. omega (arith, e)), ne_eqb kind 3 (λ e. omega (arith, e)))
