-- The message that a closed transfer or a send leaves fits, and what can be open beside it.
use Prim.Native.Nat.{ℕ, ◌+◌}
use mathlib.Core.Path.{◌≡◌, refl}
use mathlib.Core.Bool.{true}
use mathlib.Core.List.{List}
use borrow.Author.Tests.{lt-ltb}
use lib.Dec.{ltb, eqb}
use Rattle.cluster.specs.Table.{entry_kind}
use Rattle.transport.specs.Cutting.{is_length, message_frames}
use Rattle.transport.proofs.CuttingLaws.{frames_low}
use Rattle.transport.proofs.Tests.{and_left, whether}
use Rattle.master.specs.declared.state.Opened.{Opened}
use Rattle.master.specs.declared.state.Opened.TheVariants.{Nothing, Frame, Request, Response}
use Rattle.master.specs.declared.state.Sending as state
use Rattle.master.specs.declared.state.Message.{Message}
use Rattle.master.specs.declared.state.Message.TheVariants as message
use Rattle.master.specs.Fits.{is_sending, entry_opens, can_open, message_fits}
use Rattle.master.specs.Message.{sending_at, moved, message_sent, message_failed}
use Rattle.master.proofs.Tests.{and_true}
use Rattle.std.specs.Prelude.{Some, None, Option}

-- ---- the message

-- the message that a failed transfer leaves fits
pub message_failed_fits : (o : Opened) (x : Message) → message_fits x ≡ true → message_fits (message_failed o x) ≡ true
unfolding message_fits
message_failed_fits Nothing x h = h
message_failed_fits (Frame f) x h = h
message_failed_fits Request x h = refl
message_failed_fits Response x h = h

at_fits : (x : state.Sending) (next frames : ℕ) → is_length x.length ≡ true → frames ≡ message_frames x.length
    → message_fits (sending_at x next frames) ≡ true
unfolding message_fits
at_fits x next frames h e =
    whether (ltb next frames)
    (λ y. rw y (and_true (is_length x.length) (ltb next (message_frames x.length)) h (rw e at y)))
    (λ n. rw n)

moved_fits : (x : Message) → message_fits x ≡ true → message_fits (moved x) ≡ true
unfolding moved message_fits
moved_fits message.None h = h
moved_fits (message.Sending x) h =
    at_fits x (x.next + 1) (message_frames x.length) (and_left (is_length x.length) (ltb x.next (message_frames x.length)) h) refl
moved_fits message.Completed h = h
moved_fits message.Failed h = h

-- the message that a successful transfer leaves fits
pub message_sent_fits : (o : Opened) (x : Message) → message_fits x ≡ true → message_fits (message_sent o x) ≡ true
message_sent_fits Nothing x h = h
message_sent_fits (Frame f) x h = h
message_sent_fits Request x h = moved_fits x h
message_sent_fits Response x h = h

-- a message at its first frame fits
pub first_frame_fits : (nad n : ℕ) → is_length n ≡ true → message_fits (message.Sending (record { nad = nad; length = n; next = 0 })) ≡ true
unfolding message_fits
first_frame_fits nad n h = and_true (is_length n) (ltb 0 (message_frames n)) h (lt-ltb 0 (message_frames n) (frames_low n))

-- ---- what the current entry can open

-- nothing open, which every entry can do
pub nothing_open : (t : List ℕ) (x : Message) (c : Option ℕ) → can_open t x c Nothing ≡ true
unfolding can_open entry_opens
nothing_open t x None = refl
nothing_open t x (Some e) = refl

entry_sending : (t : List ℕ) (x y : Message) (e : ℕ) (o : Opened) → is_sending y ≡ true → entry_opens t x e o ≡ true → entry_opens t y e o ≡ true
unfolding entry_opens
entry_sending t x y e Nothing h k = k
entry_sending t x y e (Frame f) h k = k
entry_sending t x y e Request h k = and_true (eqb (entry_kind t e) 2) (is_sending y) (and_left (eqb (entry_kind t e) 2) (is_sending x) k) h
entry_sending t x y e Response h k = k

-- what could be open can be open while a message is being sent
pub open_sending : (t : List ℕ) (x y : Message) (c : Option ℕ) (o : Opened) → is_sending y ≡ true → can_open t x c o ≡ true → can_open t y c o ≡ true
unfolding can_open
open_sending t x y None o h k = k
open_sending t x y (Some e) o h k = entry_sending t x y e o h k
