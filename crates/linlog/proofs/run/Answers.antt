-- `linlog::run` is turn after turn from line 1 on, until one ends it.
use Rattle.std.proofs.Common.{arith, rules, suc, ◌+◌, ◌≡◌}
use Rattle.linlog.specs.Part.{started, none, turned}
use Rattle.linlog.proofs.PartLaws.{few_kept}
use Rattle.linlog.proofs.run.Goals as goal

pub loop-turns-init : goal.loop-turns-init
unfolding started
loop-turns-init c = (c.told-text, rw c.started-log.ensures (omega arith), rw c.started-log.ensures none)

pub loop-turns-preserved : goal.loop-turns-preserved
loop-turns-preserved c =
    let now = c.loop-turns.invariant in
    let turn = c.turn-log in
    let more : c.loop-turns.turns + 1 ≡ suc c.loop-turns.turns = omega arith in (
      search rules,
      few_kept _ _ _ _ _ _ turn.ensures,
      rw more (turned now.2 (search rules) turn.ensures),
    )
