-- The first placement that is of the signal, or the number behind them.
use Rattle.std.proofs.Common.{◌∙◌, arith, rules, eqb}
use borrow.Author.Tests.{tests}
use Rattle.cluster.specs.Values.{first_placement}
use Rattle.cluster.specs.Table.{placement_signal}
use Rattle.cluster.proofs.Finding.{found_or}
use Rattle.cluster.proofs.placements.first.Goals as goal

pub returns : goal.returns
unfolding first_placement
returns c =
    c.unwrap_or.ensures
    ∙ found_or (λ j. eqb (placement_signal c.args.t.now j) c.args.s) _ _ _ _ _ _ c.find.ensures.ran (λ x q b k. search (rules, tests))
    (omega (arith, c.count-n.ensures)) (omega (arith, c.count-n.ensures))
