-- Reading on from here completes the list.
use Rattle.std.proofs.Common.{◌≡◌, ℕ, ◌-◌, ◌≤◌, Option, List, length}
use Rattle.script.specs.Lists.{list_at, Listed}
use Rattle.script.proofs.lists.read.Given as goal

abbrev pub invariant-loop-place : goal.invariant-loop-place
invariant-loop-place g l = record {
  within : l.n ≤ length l.list;
  size : length l.list ≡ length l.initial.list;
  rest : (r : Option ℕ) (after : List _) → Listed l.n (list_at g.T.Element.reads l.line l.place) l.list r after
      → Listed 0 (list_at g.T.Element.reads l.line l.fn.at) l.initial.list r after;
}

abbrev pub decreases-loop-place : goal.decreases-loop-place
decreases-loop-place g l = length l.initial.list - l.n
