-- The first member that is the frame, or the number behind them.
use Rattle.std.proofs.Common.{◌∙◌, arith, rules, eqb}
use borrow.Author.Tests.{tests}
use Rattle.cluster.specs.Lists.{member_of}
use Rattle.cluster.specs.Table.{member_frame}
use Rattle.cluster.proofs.Finding.{found_or}
use Rattle.cluster.proofs.members.of_frame.Goals as goal

pub returns : goal.returns
unfolding member_of
returns c =
    c.unwrap_or.ensures
    ∙ found_or (λ j. eqb (member_frame c.args.t.now j) c.args.f) _ _ _ _ _ _ c.find.ensures.ran (λ x q b k. search (rules, tests))
    (omega (arith, c.count-n.ensures)) (omega (arith, c.count-n.ensures))
