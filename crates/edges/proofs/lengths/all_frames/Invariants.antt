-- So many lengths have so many frames at most.
use Rattle.std.proofs.Common.{◌*◌, ◌≤◌}
use Rattle.edges.proofs.lengths.all_frames.Given as goal

abbrev pub invariant-loop-n : goal.invariant-loop-n
invariant-loop-n l = l.sum ≤ 65535 * l.n
