-- Document 01, "Tick".
use Rattle.std.specs.Prelude.{ℕ, Bool, false, cond, List, [], ◌∷◌, ltb, eqb, length, get_or}
use Rattle.refusal.specs.Numbers as number
use Rattle.cluster.specs.Check.{then}
use Rattle.cluster.specs.Table.{entry_kind, entry_target}
use Rattle.cluster.specs.Lists.{members}
use Rattle.master.specs.declared.state.Opened.{Opened}
use Rattle.master.specs.declared.state.Opened.TheVariants.{Nothing, Frame, Request, Response}
use Rattle.master.specs.declared.state.Message.{Message}
use Rattle.master.specs.declared.state.State.{State}
use Rattle.master.specs.declared.tick.TickAnswer.TheVariants as answer
use Rattle.master.specs.Answers.{Ticked}
use Rattle.master.specs.Fits.{is_sending, lent_fits}
use Rattle.master.specs.Admit.{unless, admitted, answered}
use Rattle.master.specs.Transfers.{is_open, open_protected, opening}
use Rattle.master.specs.Plan.{waits, waited, entry_due, begun}
use Rattle.master.specs.State.{with_plan, with_transfer}
use Rattle.master.specs.Closing.{failed}
use Rattle.std.specs.Prelude.{Ok}
use Rattle.cluster.specs.Check.{Verdict}
use Rattle.std.specs.Prelude.{Err}
use Rattle.std.specs.Prelude.{Some, None, Option}

-- "the first pending member, or is silent"
unfoldable pub first_pending : List Bool → List ℕ → Opened
first_pending bits [] = Nothing
first_pending bits (f ∷ fs) = cond (get_or bits f false) (Frame f) (first_pending bits fs)

-- what a slot opens: "Kind 0 opens its frame. Kind 1 opens the first pending member, or is silent. Kind 2 opens identifier 60 if a
-- message is being sent, or is silent. Kind 3 always opens identifier 61"
unfoldable pub slot_opens : List ℕ → List Bool → Message → ℕ → Opened
slot_opens t bits x e =
    cond (eqb (entry_kind t e) 0) (Frame (entry_target t e))
    (cond (eqb (entry_kind t e) 1) (first_pending bits (members t (entry_target t e)))
    (cond (eqb (entry_kind t e) 2) (cond (is_sending x) Request Nothing)
    Response))

-- "an open transfer is closed as failed"; it counts where it had a response byte
unfoldable pub abandoned : List ℕ → State → State
abandoned t s = cond (is_open s.transfer.opened) (failed t s (ltb 0 s.transfer.count)) s

-- "Opening answers the protected identifier", and nothing opened is silent
unfoldable pub opens_or_silent : List ℕ → List ℕ → List ℕ → State → Opened → Ticked
opens_or_silent t bs m s o =
    cond (is_open o)
    (record { state = with_transfer s (opening t bs s.message m o); answer = Ok (answer.Opened (open_protected t o)) })
    (record { state = s; answer = Ok answer.Silent })

-- a slot with its entry; "with no schedule the answer is "idle" and the wait stays 0"
unfoldable pub slot_at : List ℕ → List ℕ → List ℕ → State → Option ℕ → Ticked
slot_at t bs m s None = record { state = s; answer = Ok answer.Idle }
slot_at t bs m s (Some e) = opens_or_silent t bs m (with_plan s (begun t e)) (slot_opens t s.pending s.message e)

-- "Otherwise a slot starts": the open transfer is closed first
unfoldable pub slot : List ℕ → List ℕ → List ℕ → State → Ticked
slot t bs m s = slot_at t bs m (abandoned t s) (entry_due t s.plan.requested s.plan.current)

-- "If the wait is above 1, it falls by one and the answer is "waiting". Otherwise a slot starts"
unfoldable pub tick_effect : List ℕ → List ℕ → List ℕ → State → Ticked
tick_effect t bs m s =
    cond (waits s.plan)
    (record { state = with_plan s (waited s.plan); answer = Ok answer.Waiting })
    (slot t bs m s)

-- refusals of tick: 1, 2, 3, of which the last is also for a lent message of another length
unfoldable pub tick_verdict : List ℕ → ℕ → ℕ → State → Verdict
tick_verdict t size lent s =
    then (admitted t size s)
    (unless (lent_fits s.message lent) number.state (Ok tt))

-- what tick hands back
unfoldable pub tick_of : List ℕ → List ℕ → List ℕ → State → Ticked
tick_of t bs m s =
    answered (tick_verdict t (length bs) (length m) s)
    (λ r. record { state = s; answer = Err r })
    (tick_effect t bs m s)
