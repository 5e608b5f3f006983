-- What a history says of a slot: each event stands in the slot that was started last, and a transfer ends as its first closing event says.
use Prim.Native.Nat.{ℕ}
use mathlib.Core.Path.{◌≡◌, refl, subst}
use mathlib.Core.Logic.{◌↔◌}
use mathlib.Core.Bool.{Bool, true, false, cond}
use mathlib.Core.List.{List}
use native.Mathlib.Omega.{arith}
use Rattle.transport.proofs.Tests.{whether}
use Rattle.master.specs.Seq.{Seq, ∅, ◌▹◌, ◌⋈◌, Each}
use Rattle.master.specs.Calls.{Event}
use Rattle.master.specs.Acts.{Act, nothing, wrote, selected, ticked, took, status_read, sending, act_of, on_tick}
use Rattle.master.specs.Schedule.{Slot, none, Scheduled, is_start, slot_due, plan_after, slot_begun, schedule, slot_after}
use Rattle.master.specs.History.{closes, succeeds, Outcome, running, success, failure, outcome_of}

-- ---- the slot that an event stands in

-- it is the one that was started last, up to and with the event
pub stands_within : (t : List ℕ) (h : Seq Scheduled) (e : Event) → (schedule t h e).within ≡ slot_after (h ▹ schedule t h e)
unfolding schedule slot_begun slot_after
stands_within t h e = by (slot_due t (plan_after t h)) (act_of e)
  where
    by : (s : Slot) (a : Act) → cond (is_start (on_tick (λ m c. s) none a)) (on_tick (λ m c. s) none a) (slot_after h)
        ≡ cond (on_tick (λ m c. is_start (on_tick (λ n d. s) none a)) false a) (on_tick (λ m c. s) none a) (slot_after h)
    by s nothing = refl
    by s (wrote r v) = refl
    by s (selected n) = refl
    by s (ticked m c) = refl
    by s (took b c) = refl
    by s status_read = refl
    by s (sending nad n) = refl

-- ---- the outcome of a transfer

-- it ended in h, as a test of its first closing event says
pub record Ended (h : Seq Scheduled) (well : Bool) : Type 0 where
  pub during : Seq Scheduled
  pub end : Scheduled
  pub after : Seq Scheduled
  pub split : h ≡ during ▹ end ⋈ after
  pub open_on : Each (λ x. closes x ≡ false) during
  pub ends : closes end ≡ true
  pub how : succeeds end ≡ well

abbrev ended_as : Bool → Outcome
ended_as true = success
ended_as false = failure

kept : (h : Seq Scheduled) (x : Scheduled) (b : Bool) → outcome_of h ≡ ended_as b → outcome_of (h ▹ x) ≡ ended_as b
unfolding outcome_of
kept h x true e = rw e
kept h x false e = rw e

-- before a closing event it runs
pub runs : (h : Seq Scheduled) → Each (λ x. closes x ≡ false) h → outcome_of h ≡ running
unfolding outcome_of
runs ∅ e = refl
runs (h ▹ x) e = rw (runs h e.0, e.1)

pub still_runs : (h : Seq Scheduled) → outcome_of h ≡ running → Each (λ x. closes x ≡ false) h
unfolding outcome_of
still_runs ∅ e = tt
still_runs (h ▹ x) e = by (still_runs h) (outcome_of h) refl
  where
    by : (outcome_of h ≡ running → Each (λ y. closes y ≡ false) h) → (o : Outcome) → outcome_of h ≡ o → Each (λ y. closes y ≡ false) (h ▹ x)
    by before running p =
        whether (closes x)
        (λ c. whether (succeeds x)
        (λ s. let z : success ≡ running = rw (p, c, s) at e in absurd (let q : ◌≡◌ {A = ℕ} 0 1 = cc in omega arith))
        (λ s. let z : failure ≡ running = rw (p, c, s) at e in absurd (let q : ◌≡◌ {A = ℕ} 0 1 = cc in omega arith)))
        (λ c. (before p, c))
    by before success p = let z : success ≡ running = rw p at e in absurd (let q : ◌≡◌ {A = ℕ} 0 1 = cc in omega arith)
    by before failure p = let z : failure ≡ running = rw p at e in absurd (let q : ◌≡◌ {A = ℕ} 0 1 = cc in omega arith)

decides : (b : Bool) (during : Seq Scheduled) (end : Scheduled) → Each (λ x. closes x ≡ false) during → closes end ≡ true → succeeds end ≡ b
    → (after : Seq Scheduled) → outcome_of (during ▹ end ⋈ after) ≡ ended_as b
unfolding outcome_of
decides true during end on c s ∅ = rw (runs during on, c, s)
decides false during end on c s ∅ = rw (runs during on, c, s)
decides b during end on c s (after ▹ x) = kept (during ▹ end ⋈ after) x b (decides b during end on c s after)

as_seen : (b : Bool) (h : Seq Scheduled) → outcome_of h ≡ ended_as b → Ended h b
unfolding outcome_of
as_seen b ∅ e = none_yet b e
  where
    none_yet : (b : Bool) → outcome_of ∅ ≡ ended_as b → Ended ∅ b
    none_yet true e = absurd (let q : ◌≡◌ {A = ℕ} 0 1 = cc in omega arith)
    none_yet false e = absurd (let q : ◌≡◌ {A = ℕ} 0 1 = cc in omega arith)
as_seen b (h ▹ x) e = by (λ c. as_seen c h) (outcome_of h) refl
  where
    later : (c : Bool) → Ended h c → Ended (h ▹ x) c
    later c s = record {
      during = s.during;
      end = s.end;
      after = s.after ▹ x;
      split = rw (← s.split);
      open_on = s.open_on;
      ends = s.ends;
      how = s.how;
    }

    now : outcome_of h ≡ running → closes x ≡ true → (c : Bool) → succeeds x ≡ c → Ended (h ▹ x) c
    now p q c s = record {
      during = h;
      end = x;
      after = ∅;
      split = refl;
      open_on = still_runs h p;
      ends = q;
      how = s;
    }

    same : (c : Bool) → ended_as c ≡ ended_as b → Ended (h ▹ x) c → Ended (h ▹ x) b
    same c q s = subst (λ d. Ended (h ▹ x) d) (alike c b q) s
      where
        alike : (c d : Bool) → ended_as c ≡ ended_as d → c ≡ d
        alike true true q = refl
        alike true false q = absurd (let z : ◌≡◌ {A = ℕ} 0 1 = cc in omega arith)
        alike false true q = absurd (let z : ◌≡◌ {A = ℕ} 0 1 = cc in omega arith)
        alike false false q = refl

    by : ((c : Bool) → outcome_of h ≡ ended_as c → Ended h c) → (o : Outcome) → outcome_of h ≡ o → Ended (h ▹ x) b
    by before running p =
        whether (closes x)
        (λ c. whether (succeeds x)
        (λ s. same true (rw (p, c, s) at e) (now p c true s))
        (λ s. same false (rw (p, c, s) at e) (now p c false s)))
        (λ c. as_running b (rw (p, c) at e))
      where
        as_running : (b : Bool) → running ≡ ended_as b → Ended (h ▹ x) b
        as_running true q = absurd (let z : ◌≡◌ {A = ℕ} 0 1 = cc in omega arith)
        as_running false q = absurd (let z : ◌≡◌ {A = ℕ} 0 1 = cc in omega arith)
    by before success p = same true (rw p at e) (later true (before true p))
    by before failure p = same false (rw p at e) (later false (before false p))

-- a transfer ended well exactly when its first closing event is a success, badly exactly when it is none, and runs exactly when nothing closed it
pub outcome_success : (h : Seq Scheduled) → (outcome_of h ≡ success) ↔ Ended h true
outcome_success h = (as_seen true h, λ s. rw s.split (decides true s.during s.end s.open_on s.ends s.how s.after))

pub outcome_failure : (h : Seq Scheduled) → (outcome_of h ≡ failure) ↔ Ended h false
outcome_failure h = (as_seen false h, λ s. rw s.split (decides false s.during s.end s.open_on s.ends s.how s.after))

pub outcome_running : (h : Seq Scheduled) → (outcome_of h ≡ running) ↔ Each (λ x. closes x ≡ false) h
outcome_running h = (still_runs h, runs h)
