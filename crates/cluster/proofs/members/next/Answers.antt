-- The first member from there on that is of the list, or the number behind them.
use Rattle.std.proofs.Common.{◌∙◌, arith, rules, eqb}
use borrow.Author.Tests.{tests}
use Rattle.cluster.specs.Lists.{next_member}
use Rattle.cluster.specs.Table.{member_list}
use Rattle.cluster.proofs.Finding.{found_or}
use Rattle.cluster.proofs.members.next.Goals as goal

pub returns : goal.returns
unfolding next_member
returns c =
    c.unwrap_or.ensures
    ∙ found_or (λ j. eqb (member_list c.args.t.now j) c.args.l) _ _ _ _ _ _ c.find.ensures.ran (λ x q b k. search (rules, tests))
    (omega (arith, c.count-n.ensures)) (omega (arith, c.count-n.ensures, c.max.ensures))
