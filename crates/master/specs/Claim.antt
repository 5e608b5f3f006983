-- Demand 3: one claim about every history, parts (a) to (f). All of it is read off the table and the history; only (a) speaks of the state and the bytes.
use Rattle.std.specs.Prelude.{ℕ, ◌<◌, ◌≡◌, ◌↔◌, true, false, get_or}
use mathlib.Core.List.{List, [], ◌∷◌, ◌++◌, Memᴰ}
use Rattle.cluster.specs.Table.{frame_count, published, entry_kind, entry_target}
use Rattle.cluster.specs.Lists.{members}
use Rattle.master.specs.declared.state.Opened.TheVariants.{Nothing, Frame}
use Rattle.master.specs.declared.byte.ByteAnswer.TheVariants as byte
use Rattle.master.specs.Seq.{Seq, ∅, ◌▹◌, ◌⋈◌, Each}
use Rattle.master.specs.Calls.{Call, tick, byte_in, number_ahead, Answer, Event, ◌⇒◌}
use Rattle.master.specs.Run.{Held, answer_of, held_after, history_of}
use Rattle.master.specs.Acts.{nothing, act_of}
use Rattle.master.specs.Schedule.{Slot, entry, Scheduled, scheduled}
use Rattle.master.specs.History.{writes, opens, closes, open_after, Succeeded, Pending, successes, written_bytes, eight_of, response_of, got_after}
use Rattle.master.specs.Answering.{bytes_after, received_after}
use Rattle.master.specs.Replies.{Takes, Count, AheadReply, Replies}
use Rattle.master.specs.Calls.{AheadAnswer}
use Rattle.master.specs.Calls.{TickResult, ByteResult}
use Rattle.std.specs.Prelude.{Ok}
use Rattle.std.specs.Prelude.{None}

-- the history of some calls after a fresh call, each event with its slots
abbrev pub record_of : List ℕ → List ℕ → Seq Call → Seq Scheduled
record_of t bs cs = scheduled t (history_of t bs cs)

-- a call with its answer, the slot that it starts, and the one that it stands in
abbrev pub event : (c : Call) → Answer c → Slot → Slot → Scheduled
event c a s k = record { event = c ⇒ a; slot = s; within = k }

-- the event is no accepted write to one of the frames fs
abbrev pub Spares : List ℕ → List ℕ → Scheduled → Type 0
Spares t fs x = (g : ℕ) → Memᴰ g fs → writes t x g ≡ false

-- what demand 3 says of the state and the frame bytes after a history, part (a)
pub record HeldClaim (t : List ℕ) (h : Seq Scheduled) (x : Held) : Type 0 where
  -- (a) the bit of a frame is set exactly when the frame is pending
  pub bits : (f : ℕ) → (get_or x.state.pending f false ≡ true) ↔ Pending t h f
  -- (a) and the bytes of a published frame are as fresh and the accepted writes left them
  pub bytes : (f : ℕ) → f < frame_count t → published t f ≡ true → eight_of x.bytes f ≡ eight_of (written_bytes t h) f
  -- (a) and all frame bytes are as fresh, the accepted writes and the frames received with success left them
  pub all_bytes : x.bytes ≡ bytes_after t h
  -- (a) and of each signal the placement received last is kept
  pub receptions : (s : ℕ) → (get_or x.state.received s (record { last = None })).last ≡ received_after t h s

-- what demand 3 says of one history under a table, parts (b) to (e)
pub record HistoryClaim (t : List ℕ) (h : Seq Scheduled) : Type 0 where
  -- (b) a slot of a list opens the first member that is pending just before its tick, and is silent exactly when there is none
  pub slots :
      (before after : Seq Scheduled) (m : List ℕ) (a : TickResult) (e : ℕ) (k : Slot) →
      h ≡ before ▹ event (tick m) a (entry e) k ⋈ after →
      entry_kind t e ≡ 1 →
      Takes t (Pending t before) (members t (entry_target t e)) a
  -- (c) in a transfer of a published frame success is answered exactly at byte length + 1, when the bytes were those at its opening tick
  pub success :
      (before : Seq Scheduled) (start : Scheduled) (during after : Seq Scheduled) (b : ℕ) (r : ByteResult) (s k : Slot) (f : ℕ) →
      h ≡ before ▹ start ⋈ during ▹ event (byte_in b) r s k ⋈ after →
      opens t start ≡ Frame f →
      published t f ≡ true →
      Each (λ x. closes x ≡ false) during →
      (r ≡ Ok byte.Success) ↔ (got_after during ++ (b ∷ []) ≡ response_of t (written_bytes t before) f)
  -- (d) number ahead is the number of pending members ahead in the frame's list
  pub ahead :
      (before after : Seq Scheduled) (f : ℕ) (a : AheadAnswer) (s k : Slot) →
      h ≡ before ▹ event (number_ahead f) a s k ⋈ after →
      AheadReply t before f a
  -- (e) at a moment with no transfer open, a pending member f of list l with p pending members ahead of it: unless one of those is written, f is
  -- sent by the time that the list's slots have had p + 1 more successful transfers
  pub progress :
      (h₁ h₂ : Seq Scheduled) (l f p : ℕ) (ahead behind : List ℕ) →
      h ≡ h₁ ⋈ h₂ →
      open_after t h₁ ≡ Nothing →
      members t l ≡ ahead ++ (f ∷ behind) →
      Pending t h₁ f →
      Count (Pending t h₁) ahead p →
      Each (Spares t ahead) h₂ →
      p < successes t l h₂ →
      Succeeded t h₂ f

-- and of all calls after a fresh one
pub record Claim (t bs : List ℕ) (cs : Seq Call) : Type 0 where
  -- (a) after every call
  pub after_each :
      (before after : Seq Call) →
      cs ≡ before ⋈ after →
      HeldClaim t (record_of t bs before) (held_after t bs before)
  -- (b) to (e) hold of its history
  pub history : HistoryClaim t (record_of t bs cs)
  -- (f) every answer is the one that the table and the history before it give
  pub answers :
      (before after : Seq Scheduled) (c : Call) (a : Answer c) (s k : Slot) →
      record_of t bs cs ≡ before ▹ event c a s k ⋈ after →
      Replies t before c a
  -- (f) and what counts for nothing changes nothing
  pub unchanged :
      (before after : Seq Call) (c : Call) →
      cs ≡ before ▹ c ⋈ after →
      act_of (c ⇒ answer_of t (held_after t bs before) c) ≡ nothing →
      held_after t bs (before ▹ c) ≡ held_after t bs before

-- ---- whatever the core

-- the calls of some events
abbrev pub calls_of : Seq Event → Seq Call
calls_of ∅ = ∅
calls_of (h ▹ (c ⇒ a)) = calls_of h ▹ c

-- events of any core: what (f) says of each answer, after the events before it
abbrev pub Meets : List ℕ → Seq Event → Type 0
Meets t ∅ = Unit {0}
Meets t (h ▹ (c ⇒ a)) = Meets t h × Replies t (scheduled t h) c a
