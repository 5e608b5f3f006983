-- By cases of the entry due.
use Rattle.std.proofs.Common.{◌∙◌}
use Rattle.master.specs.Tick.{slot, slot_at}
use Rattle.master.proofs.SlotOpens.{due_there, entry_below, slot_opens_lem}
use Rattle.master.proofs.Admitted.{admitted_fits}
use Rattle.master.proofs.Verdicts.{tick_admitted, tick_fits, tick_size}
use Rattle.master.proofs.state.State.slot.Goals as goal

pub abandoned-closed-requires : goal.abandoned-closed-requires
abandoned-closed-requires c = admitted_fits _ _ _ (tick_admitted _ _ _ _ c.requires)

pub invariant_of-open-in-Some : goal.invariant_of-open-in-Some
invariant_of-open-in-Some c = record { size = tick_size _ _ _ _ c.requires }

pub invariant_of-open : goal.invariant_of-open
invariant_of-open c =
    let a = c.args in
    let e = c.in-Some.e in
    let closed = c.abandoned-closed.result in
    let f = tick_fits _ _ _ a.self c.requires in
    let ok = a.t.right in
    let there = due_there _ ok a.self.plan.requested a.self.plan.current f.schedule_there_lem f.entry_there_lem in
    let opens = slot_opens_lem _ ok closed.pending closed.message e (entry_below _ e (rw (← c.due.ensures, c.in-Some.is) at there)) in
    record { there = rw c.slot_opens-opened.ensures opens.frame_there_lem }

pub returns-in-None : goal.returns-in-None
unfolding slot slot_at
returns-in-None c = rw (← c.due.ensures, c.in-None.is, c.abandoned-closed.ensures)

pub returns-in-Some : goal.returns-in-Some
unfolding slot slot_at
returns-in-Some c =
    c.open.ensures
    ∙ rw (← c.due.ensures, c.in-Some.is, c.with_plan.ensures, c.begun.ensures, c.slot_opens-opened.ensures, c.abandoned-closed.ensures)
