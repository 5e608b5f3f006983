-- What is kept leaves room in the text.
use Rattle.std.proofs.Common.{◌≤◌}
use Rattle.bench.specs.declared.run.TheConstants.{MOST_KEPT}
use Rattle.bench.proofs.buffers.Bench.run.Given as goal

abbrev pub invariant-loop : goal.invariant-loop
invariant-loop l = l.kept ≤ MOST_KEPT
