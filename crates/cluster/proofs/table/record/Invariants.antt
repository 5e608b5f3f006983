-- The words before are read.
use Rattle.std.proofs.Common.{ℕ, ◌≡◌, ◌<◌, ◌≤◌, length, get_or}
use Rattle.cluster.specs.Read.{due, position}
use Rattle.cluster.proofs.table.record.Given as goal

abbrev pub invariant-loop-j : goal.invariant-loop-j
invariant-loop-j g l = record {
  size : length l.word-items ≡ g.row.N;
  read : (i : ℕ) → i < l.j → get_or l.word-items i 0 ≡ due l.t (position l.at i);
  high : (i : ℕ) → get_or l.word-items i 0 ≤ 65536;
}
