-- Document 01, "Histories": "Accepted selects and ticks alone give each slot and its entry, by the rules above."
use Rattle.std.specs.Prelude.{ℕ, ◌-◌, Bool, true, false, cond, ◌&&◌, List, ltb, eqb}
use Rattle.cluster.specs.Table.{entry_kind, entry_target, entry_delay}
use Rattle.cluster.specs.Lists.{first_entry, next_entry}
use Rattle.master.specs.declared.state.Plan.{Plan}
use Rattle.master.specs.Seq.{Seq, ∅, ◌▹◌}
use Rattle.master.specs.Calls.{Event}
use Rattle.master.specs.Acts.{Act, nothing, wrote, selected, ticked, took, status_read, sending, act_of, on_tick}
use Rattle.std.specs.Prelude.{Some, None, Option}

-- the slot that an event starts
pub data Slot : Type 0 where
  -- none
  none : Slot
  -- one "with no schedule"
  unscheduled : Slot
  -- one with its entry
  entry : ℕ → Slot

-- an event with its slots
pub record Scheduled : Type 0 where
  pub event : Event
  -- the one that it starts
  pub slot : Slot
  -- the one that it stands in: that, or else the one that was started last
  pub within : Slot

-- what counts of it
abbrev pub act : Scheduled → Act
act x = act_of x.event

-- ---- the plan: the wait, the current entry and the requested schedule

-- "the requested schedule begins", "at its entry 0", "or the next entry follows, cyclically"
unfoldable pub slot_of : List ℕ → Option ℕ → Option ℕ → Slot
slot_of t (Some n) c = entry (first_entry t n)
slot_of t None None = unscheduled
slot_of t None (Some e) = entry (next_entry t e)

-- the slot that an accepted tick starts: none "If the wait is above 1"; "Otherwise a slot starts"
unfoldable pub slot_due : List ℕ → Plan → Slot
slot_due t p = cond (ltb 1 p.wait) none (slot_of t p.requested p.current)

-- the plan after an accepted tick: the wait "falls by one"; "with no schedule .. the wait stays 0"; "The wait becomes the entry's delay"
unfoldable pub plan_with : List ℕ → Plan → Slot → Plan
plan_with t p none = record { wait = p.wait - 1; current = p.current; requested = p.requested }
plan_with t p unscheduled = p
plan_with t p (entry e) = record { wait = entry_delay t e; current = Some e; requested = None }

-- the plan after an event: "Select asks for a schedule", an accepted tick goes on, and nothing else changes it
unfoldable pub plan_by : List ℕ → Plan → Act → Plan
plan_by t p nothing = p
plan_by t p (wrote s v) = p
plan_by t p (selected n) = record { wait = p.wait; current = p.current; requested = Some n }
plan_by t p (ticked m a) = plan_with t p (slot_due t p)
plan_by t p (took b a) = p
plan_by t p status_read = p
plan_by t p (sending nad n) = p

-- the plan after a history: at first "no schedule"
unfoldable pub plan_after : List ℕ → Seq Scheduled → Plan
plan_after t ∅ = record { wait = 0; current = None; requested = None }
plan_after t (h ▹ x) = plan_by t (plan_after t h) (act x)

-- ---- the slots

-- a slot, and not none
abbrev pub is_start : Slot → Bool
is_start none = false
is_start unscheduled = true
is_start (entry e) = true

-- the event starts a slot
abbrev pub starts : Scheduled → Bool
starts x = on_tick (λ m a. is_start x.slot) false (act x)

-- the slot that was started last
unfoldable pub slot_after : Seq Scheduled → Slot
slot_after ∅ = none
slot_after (h ▹ x) = cond (starts x) x.slot (slot_after h)

-- the slot that an event starts after a history: only accepted ticks start one
unfoldable pub slot_begun : List ℕ → Seq Scheduled → Event → Slot
slot_begun t h e = on_tick (λ m a. slot_due t (plan_after t h)) none (act_of e)

-- an event after a history, with its slots
unfoldable pub schedule : List ℕ → Seq Scheduled → Event → Scheduled
schedule t h e = record { event = e; slot = slot_begun t h e; within = cond (is_start (slot_begun t h e)) (slot_begun t h e) (slot_after h) }

-- a history, each event with its slots
unfoldable pub scheduled : List ℕ → Seq Event → Seq Scheduled
scheduled t ∅ = ∅
scheduled t (h ▹ e) = scheduled t h ▹ schedule t (scheduled t h) e

-- "A list's slots are those with kind 1 and that target."
abbrev pub of_list : List ℕ → Slot → ℕ → Bool
of_list t none l = false
of_list t unscheduled l = false
of_list t (entry e) l = eqb (entry_kind t e) 1 && eqb (entry_target t e) l
