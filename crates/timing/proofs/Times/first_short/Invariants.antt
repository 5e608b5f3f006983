-- What is searched from the start is what is searched from here on.
use Rattle.std.proofs.Common.{◌≡◌, ◌-◌, not}
use Rattle.cluster.specs.Lists.{first_from}
use Rattle.cluster.specs.Table.{entry_count}
use Rattle.timing.specs.Slots.{entry_holds, first_short}
use Rattle.timing.proofs.Times.first_short.Given as goal

abbrev pub invariant-loop-e : goal.invariant-loop-e
invariant-loop-e l =
    let t = l.t.words.now in
    let times = l.self in
    first_short t times.tick times.bit ≡ first_from (λ e. not (entry_holds t times.tick times.bit e)) l.e (entry_count t - l.e)
