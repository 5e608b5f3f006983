-- By the cases of the branches.
use mathlib.Core.Path.{sym, ◌∙◌, ap}
use native.Mathlib.Numerals.{add-one}
use native.Mathlib.Omega.{arith}
use Rattle.cluster.specs.Lists.{first_entry}
use Rattle.cluster.specs.Table.{entry_schedule}
use Rattle.cluster.proofs.NextEntry.{next_behind, next_first}
use Rattle.cluster.proofs.entries.next.Goals.{else-e-count-via-then-e-count+then-e-count-2+else-schedule-n}
use Rattle.cluster.proofs.entries.next.Goals.{else-e-count-via-then-e-count+else-e-count-2, else-e-count-via-else-e-count}
use Rattle.cluster.proofs.entries.next.Goals as goal

pub returns-then-schedule-n : goal.returns-then-schedule-n
returns-then-schedule-n c =
    let t = c.args.t.now in
    let e = c.args.e in
    let s = c.schedule-n.ensures in
    let k = sym c.schedule.ensures ∙ c.if-schedule-n.true ∙ s in
    rw (add-one e)
    (sym (next_behind t e (omega arith) (rw (add-one e) at k)))

pub returns : goal.returns
returns c =
    c.first.ensures
    ∙ ap (first_entry _) c.schedule-n.ensures
    ∙ sym
    (next_first _ _ (λ h k. elim c.else-e-count.branch [
      | else-e-count-via-then-e-count+then-e-count-2+else-schedule-n w ↦
          w.if-schedule-n.false (w.schedule.ensures ∙ ap (entry_schedule _) (add-one _) ∙ k ∙ sym c.schedule-n.ensures)
      | else-e-count-via-then-e-count+else-e-count-2 w ↦ omega arith
      | else-e-count-via-else-e-count w ↦ omega arith
    ]))
