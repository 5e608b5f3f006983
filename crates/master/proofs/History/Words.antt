-- The words of the history and those of the calls' definitions say the same.
use Prim.Native.Nat.{ℕ, ◌*◌, ◌≤◌}
use mathlib.Core.Path.{◌≡◌, refl, sym}
use mathlib.Core.Bool.{true, false, cond}
use mathlib.Core.List.{List}
use lib.ListN.{drop}
use lib.Seq.{take-take}
use Rattle.cluster.specs.Table.{frame_length}
use Rattle.master.specs.declared.state.Plan.{Plan}
use Rattle.master.specs.declared.state.Opened.{Opened}
use Rattle.master.specs.declared.state.Opened.TheVariants.{Nothing, Frame, Request, Response}
use Rattle.master.specs.declared.state.Message.{Message}
use Rattle.master.specs.declared.state.Message.TheVariants as message
use Rattle.master.specs.Fits.{is_sending, lent_fits}
use Rattle.master.specs.Transfers.{format_of, is_open, open_protected, open_checksum, frame_data}
use Rattle.master.specs.Plan.{waits, entry_due}
use Rattle.master.specs.Message.{moved, message_sent, message_failed, told}
use Rattle.master.specs.Schedule.{Slot, none, unscheduled, entry, slot_of, slot_due}
use Rattle.master.specs.History.{is_transfer, data_of, checksum_over}
use Rattle.master.specs.Answering.{sent_on, message_closed, protected_of}
use Rattle.master.specs.Replies.{is_being_sent, message_reply, lent_right}
use Rattle.master.proofs.Tests.{never}
use Rattle.std.specs.Prelude.{Some, None, Option, Ok}

-- ---- transfers

pub is_transfer_lem : (o : Opened) → is_open o ≡ is_transfer o
is_transfer_lem Nothing = refl
is_transfer_lem (Frame f) = refl
is_transfer_lem Request = refl
is_transfer_lem Response = refl

pub protected_of_lem : (t : List ℕ) (o : Opened) → is_open o ≡ true → open_protected t o ≡ protected_of t o
unfolding open_protected protected_of format_of
protected_of_lem t Nothing p = never p
protected_of_lem t (Frame f) p = refl
protected_of_lem t Request p = refl
protected_of_lem t Response p = refl

-- the data and the checksum of a frame
pub data_of_lem : (t bs : List ℕ) (f : ℕ) → frame_length t f ≤ 8 → frame_data t bs f ≡ data_of t bs f
unfolding frame_data data_of
data_of_lem t bs f h = sym (take-take (frame_length t f) 8 (drop (8 * f) bs) h)

pub checksum_over_lem : (t : List ℕ) (f : ℕ) (ds : List ℕ) → open_checksum t (Frame f) ds ≡ checksum_over t f ds
unfolding open_checksum checksum_over format_of
checksum_over_lem t f ds = refl

-- ---- the plan

abbrev pub slot_with : Option ℕ → Slot
slot_with None = unscheduled
slot_with (Some e) = entry e

slot_of_lem : (t : List ℕ) (r : Option ℕ) (c : Option ℕ) → slot_of t r c ≡ slot_with (entry_due t r c)
unfolding slot_of
slot_of_lem t (Some n) c = refl
slot_of_lem t None None = refl
slot_of_lem t None (Some e) = refl

pub slot_due_lem : (t : List ℕ) (p : Plan) → slot_due t p ≡ cond (waits p) none (slot_with (entry_due t p.requested p.current))
unfolding slot_due
slot_due_lem t p = rw (slot_of_lem t p.requested p.current)

-- ---- the message

pub message_sent_lem : (o : Opened) (x : Message) → message_sent o x ≡ message_closed o true x
unfolding message_closed moved sent_on
message_sent_lem Nothing x = refl
message_sent_lem (Frame f) x = refl
message_sent_lem Request x = go x
  where
    go : (x : Message) → moved x ≡ sent_on x
    go message.None = refl
    go (message.Sending x) = refl
    go message.Completed = refl
    go message.Failed = refl
message_sent_lem Response x = refl

pub message_failed_lem : (o : Opened) (x : Message) → message_failed o x ≡ message_closed o false x
unfolding message_closed
message_failed_lem Nothing x = refl
message_failed_lem (Frame f) x = refl
message_failed_lem Request x = refl
message_failed_lem Response x = refl

pub being_sent : (x : Message) → is_sending x ≡ is_being_sent x
being_sent message.None = refl
being_sent (message.Sending x) = refl
being_sent message.Completed = refl
being_sent message.Failed = refl

pub lent_right_lem : (x : Message) (n : ℕ) → lent_fits x n ≡ lent_right x n
lent_right_lem message.None n = refl
lent_right_lem (message.Sending x) n = refl
lent_right_lem message.Completed n = refl
lent_right_lem message.Failed n = refl

pub message_told_lem : (x : Message) → Ok (told x) ≡ message_reply x
message_told_lem message.None = refl
message_told_lem (message.Sending x) = refl
message_told_lem message.Completed = refl
message_told_lem message.Failed = refl
