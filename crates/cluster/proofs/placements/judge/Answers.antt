-- No placement passed yet; behind the last one, their signals are counted.
use mathlib.Core.Path.{◌≡◌, ◌∙◌}
use native.Mathlib.Omega.{arith}
use borrow.Author.Tests.{lt-leb, le-leb}
use Rattle.std.specs.Prelude.{Ok}
use Rattle.cluster.specs.Check.{Verdict, then, unplaced}
use Rattle.cluster.specs.Right.{all_placed}
use Rattle.cluster.specs.Table.{signal_count, placed_signals}
use Rattle.cluster.proofs.PlacementTurn.{none_passed}
use Rattle.cluster.proofs.placements.judge.Goals as goal

-- the second judgement is the answer, where the first accepts
behind : {u v w : Verdict} → Ok tt ≡ u → w ≡ v → w ≡ then u v
behind e h = rw (← e) h

pub judge-requires : goal.judge-requires
judge-requires c = (c.count-n.ensures, none_passed _ _ c.args.table.limits c.args.table.before c.placement_at.ensures.value)

pub returns-then-passed-count : goal.returns-then-passed-count
unfolding unplaced all_placed placed_signals
returns-then-passed-count c =
    let t = c.args.table.words.now in
    let counts : c.judge.new.section.placed ≡ placed_signals t = rw c.count-n.ensures at c.in_ok-judge.ensures.passed.counts in
    let few = lt-leb (signal_count t) (placed_signals t) (omega (arith, c.if-passed-count.true, counts)) in
    behind (rw c.count-n.ensures at c.in_ok-judge.ensures.told)
    (c.fault.ensures ∙ rw (few, c.placement_at-then-passed-count.ensures.value, c.count-n.ensures))

pub returns-else-passed-count : goal.returns-else-passed-count
unfolding unplaced all_placed placed_signals
returns-else-passed-count c =
    let t = c.args.table.words.now in
    let counts : c.judge.new.section.placed ≡ placed_signals t = rw c.count-n.ensures at c.in_ok-judge.ensures.passed.counts in
    let all = le-leb (signal_count t) (placed_signals t) (omega (arith, c.if-passed-count.false, counts)) in
    behind (rw c.count-n.ensures at c.in_ok-judge.ensures.told) (rw all)
