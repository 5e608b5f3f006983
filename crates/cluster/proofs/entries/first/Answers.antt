-- The first entry that is of the schedule, or the number behind them.
use Rattle.std.proofs.Common.{◌∙◌, arith, rules, eqb}
use borrow.Author.Tests.{tests}
use Rattle.cluster.specs.Lists.{first_entry}
use Rattle.cluster.specs.Table.{entry_schedule}
use Rattle.cluster.proofs.Finding.{found_or}
use Rattle.cluster.proofs.entries.first.Goals as goal

pub returns : goal.returns
unfolding first_entry
returns c =
    c.unwrap_or.ensures
    ∙ found_or (λ j. eqb (entry_schedule c.args.t.now j) c.args.n) _ _ _ _ _ _ c.find.ensures.ran (λ x q b k. search (rules, tests))
    (omega (arith, c.count-end.ensures)) (omega (arith, c.count-end.ensures))
