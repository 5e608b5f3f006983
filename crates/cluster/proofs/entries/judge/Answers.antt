-- No entry passed yet.
use native.Mathlib.Omega.{arith}
use mathlib.Core.Path.{refl, sym}
use borrow.Author.Tests.{leb-true}
use Rattle.cluster.proofs.Counting.{counted_none}
use Rattle.cluster.proofs.entries.judge.Goals as goal

pub judge-requires : goal.judge-requires
judge-requires c = (
  c.count-n.ensures,
  record {
    limits = c.args.table.limits;
    first = c.entry_at-first.ensures.value;
    whole = λ e. omega (arith, leb-true _ _ e, c.entry_at-first.ensures.value, c.count-n.ensures);
    frames = c.count.ensures;
    lists = c.lists.ensures.value;
    lists_high = c.lists.ensures.upper_bound;
    schedules = sym (counted_none _ 0 refl);
    few = omega arith;
  },
)
