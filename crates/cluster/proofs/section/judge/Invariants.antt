-- The records before are passed, and the answer is that of the records from here on.
use Rattle.std.proofs.Common.{◌≡◌, ◌-◌}
use Rattle.cluster.specs.Check.{faults}
use Rattle.cluster.specs.Right.{records}
use Rattle.cluster.proofs.section.judge.Given as goal

abbrev pub invariant-loop-k : goal.invariant-loop-k
invariant-loop-k g l = record {
  known : g.S.Section.known l.t l.k l.section;
  left : let s = g.S.Section in
      faults l.t (s.at l.t 0) (records 0 l.n (s.right l.t)) ≡ faults l.t (s.at l.t l.k) (records l.k (l.n - l.k) (s.right l.t));
}
