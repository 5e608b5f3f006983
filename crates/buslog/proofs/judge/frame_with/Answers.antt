-- The first frame with the identifier is the answer, as `find` has it.
use Rattle.std.proofs.Common.{sym, eqb, rules, tests, arith}
use Rattle.cluster.specs.Table.{identifier}
use Rattle.buslog.specs.Verdict.{frame_with}
use Rattle.cluster.proofs.Finding.{found}
use Rattle.buslog.proofs.judge.frame_with.Goals as goal

pub returns : goal.returns
unfolding frame_with
returns c =
    rw (sym c.count.ensures)
    (found (λ f. eqb (identifier c.args.t.now f) c.args.id) _ _ _ _ c.count.result c.find.ensures.ran (λ x q b k. search (rules, tests))
    (omega arith))
