-- Demand 3: the claim holds of every history.
use Prim.Native.Nat.{ℕ}
use mathlib.Core.Path.{◌≡◌, sym}
use mathlib.Core.List.{List}
use native.Mathlib.Omega.{arith}
use lib.ListN.{length}
use Rattle.cluster.specs.Table.{entry_kind, entry_target}
use Rattle.cluster.specs.Lists.{members}
use Rattle.transport.proofs.Tests.{whether}
use Rattle.master.specs.declared.tick.TickAnswer.TheVariants as answer
use Rattle.master.specs.Start.{fresh_of}
use Rattle.master.specs.Seq.{Seq, ◌▹◌, ◌⋈◌}
use Rattle.master.specs.Calls.{Call, tick}
use Rattle.master.specs.Run.{held_after}
use Rattle.master.specs.Acts.{tick_act, on_tick}
use Rattle.master.specs.Schedule.{slot_begun, Slot, none, entry, Scheduled, slot_due, plan_after, schedule}
use Rattle.master.specs.History.{Pending}
use Rattle.master.specs.Answering.{message_after}
use Rattle.master.specs.Replies.{Takes, lent_right}
use Rattle.master.specs.Claim.{record_of, event, Claim}
use Rattle.master.proofs.History.Along.{along_at, along_each}
use Rattle.master.proofs.History.Computed.{pending_after}
use Rattle.master.proofs.History.PendingLaw.{pending_iff}
use Rattle.master.proofs.History.Counting.{count_is}
use Rattle.master.proofs.History.Progress.{sent_in_time}
use Rattle.master.proofs.History.SameBytes.{same_eight}
use Rattle.master.proofs.History.Sent.{sent_exactly}
use Rattle.master.proofs.History.Unchanged.{unchanged}
use Rattle.master.proofs.History.ReceivedAre.{received_each}
use Rattle.master.proofs.History.Runs.{Good, agrees, goods}
use Rattle.std.specs.Prelude.{Ok}
use Rattle.std.specs.Prelude.{Err}
use Rattle.master.specs.Calls.{TickResult}

-- a tick that starts a slot with an entry is accepted, and that slot is due
slot_due_lem : (m : List ℕ) (a : TickResult) (s : Slot) (e : ℕ) → entry e ≡ on_tick (λ n b. s) none (tick_act m a) → s ≡ entry e
slot_due_lem m (Ok answer.Waiting) s e p = sym p
slot_due_lem m (Ok answer.Idle) s e p = sym p
slot_due_lem m (Ok answer.Silent) s e p = sym p
slot_due_lem m (Ok (answer.Opened q)) s e p = sym p
slot_due_lem m (Err r) s e p = cc

-- a refused tick starts none
slot_accepted : (m : List ℕ) (a : TickResult) (s : Slot) (e : ℕ) → entry e ≡ on_tick (λ n b. s) none (tick_act m a) → (r : _) → a ≡ Err r → ⊥
slot_accepted m a s e p r q =
    let z : entry e ≡ none = rw q at p in
    let y : ◌≡◌ {A = ℕ} 0 1 = cc in
    omega arith

-- part (b)
list_slot : (t : List ℕ) (h : Seq Scheduled) (m : List ℕ) (a : TickResult) (e : ℕ) (s : Slot) → Good t h (event (tick m) a (entry e) s) → entry_kind t e ≡ 1
    → Takes t (Pending t h) (members t (entry_target t e)) a
unfolding schedule slot_begun
list_slot t h m a e s good k =
    let due = slot_due_lem m a (slot_due t (plan_after t h)) e good.placed in
    whether (lent_right (message_after t h) (length m))
    (λ l. (rw due at (good.replies.goes_on l)).list k)
    (λ l. absurd (slot_accepted m a (slot_due t (plan_after t h)) e good.placed _ (good.replies.refuses l)))

-- Demand 3
pub demand_3 : (t bs : List ℕ) → (fresh_of t bs).given.answer ≡ Ok tt → (cs : Seq Call) → Claim t bs cs
unfolding held_after
demand_3 t bs accepted cs =
    let good : (before : Seq Scheduled) (x : Scheduled) (after : Seq Scheduled) → record_of t bs cs ≡ before ▹ x ⋈ after → Good t before x =
    λ before x after p. along_at (Good t) before x after (rw p at (goods t bs accepted cs)) in
    record {
      after_each = λ before after p.
          let held = agrees t bs accepted before in
          let is = held.frames in
          record {
            bits = λ f. rw (is.bits_are f) (pending_iff t (record_of t bs before) f);
            bytes = λ f b q. same_eight t _ _ is.size is.written_are f q;
            all_bytes = is.bytes_are;
            receptions = received_each t (record_of t bs before) _ held.received_are;
          };
      history = record {
        slots = λ before after m a e s p k. list_slot t before m a e s (good before _ after p) k;
        success = λ before start during after b r s k f p o q d. sent_exactly t before start during b r s k f (good _ _ after p) o q d;
        ahead = λ before after f a s k p. (good before _ after p).replies;
        progress = λ h₁ h₂ l f p ahead behind split idle place waits count unwritten enough.
            sent_in_time t h₁ l f ahead behind idle place ((pending_iff t h₁ f).1 waits) h₂
            (along_each (λ h x g. g.lawful) (h₁ ⋈ h₂) (rw split at (goods t bs accepted cs))) unwritten
            (rw (count_is (pending_after t h₁) (Pending t h₁) (pending_iff t h₁) count) enough);
      };
      answers = λ before after c a s k p. (good before _ after p).replies;
      unchanged = λ before after c p n. unchanged t (held_after t bs before) c n;
    }
