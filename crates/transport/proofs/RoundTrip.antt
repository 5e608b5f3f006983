-- The round trip: the frames cut from a message, taken one after the other, put the message into the buffer.
use Prim.Native.Nat.{ℕ, zero, suc, ◌+◌, ◌-◌, ◌*◌, ◌/◌, ◌≤◌, ◌<◌}
use mathlib.Core.Path.{◌≡◌, refl}
use mathlib.Core.Bool.{true, cond}
use mathlib.Core.List.{List, ◌++◌}
use native.Mathlib.Omega.{arith}
use borrow.Author.Tests.{leb-true, ne_eqb}
use lib.Dec.{leb, eqb}
use lib.ListN.{length, drop}
use Rattle.transport.specs.Answers.{take_told}
use Rattle.refusal.specs.Answers.{value_told}
use Rattle.transport.specs.Cutting.{is_length, longest, message_frames, message_frame}
use Rattle.transport.specs.Reassembly.{fits, listens}
use Rattle.transport.specs.Exchange.{Between, answer_to, after_frames, answer_due}
use Rattle.std.specs.Prelude.{None}
use Rattle.transport.proofs.AnswersDue.{next_frame_due, due_single, due_first, due_more, due_last, due_length}
use Rattle.transport.proofs.CuttingLaws.{frame_single, frame_first, frame_next, frames_one, frames_more}
use Rattle.transport.proofs.Filled.{filled_all}
use Rattle.transport.proofs.Received.{complete, midway, midway_fits, single_received, first_received, more_received, last_received}
use Rattle.transport.proofs.StepCases.{listens_known}
use Rattle.transport.proofs.Tests.{order, and_left, and_right}

-- a message of 1..4095 bytes, a state that listens to the NAD, and a buffer that holds the message
module _
    (nad : ℕ)
    (m : List ℕ)
    (x : Between)
    (sized : is_length (length m) ≡ true)
    (fit : fits x.state ≡ true)
    (heard : listens x.state nad ≡ true)
    (room : length m ≤ length x.buffer) where
  low : 1 ≤ length m
  low = leb-true 1 (length m) (and_left (leb 1 (length m)) (leb (length m) longest) sized)

  high : length m ≤ 4095
  high = leb-true (length m) 4095 (and_right (leb 1 (length m)) (leb (length m) longest) sized)

  known : nad ≡ 0 → ⊥
  known = listens_known x.state nad heard

  -- after the first frame and i next frames the message is open, its bytes so far are in the buffer, and next frame i is due
  pub between_frames : (i : ℕ) → suc i < message_frames (length m) → after_frames nad m x (suc i) ≡ midway nad m x.buffer i
  unfolding after_frames
  between_frames zero h =
      let l = next_frame_due (length m) 0 h in
      rw (frame_first nad m l.0) (first_received nad m x fit heard room l.0 high).left
  between_frames (suc i) h =
      let l = next_frame_due (length m) (suc i) h in
      rw (between_frames i (omega arith), frame_next nad m i)
      (more_received nad m x.buffer i known l.0 high room (omega arith) l.1).left

  -- and the reassembler accepts that state
  pub between_fits : (i : ℕ) → suc i < message_frames (length m) → fits (midway nad m x.buffer i).state ≡ true
  between_fits i h =
      let l = next_frame_due (length m) i h in
      midway_fits nad m x.buffer i known l.0 high room l.1

  -- next frame i, from where it is due
  next_answer : (i : ℕ) → 6 < length m → 5 + 6 * i < length m
      → answer_to (midway nad m x.buffer i) (message_frame nad m (suc i)) ≡ answer_due (length m) (suc i)
  next_answer i l b =
      order (length m) (5 + 6 * suc i)
      (λ h. rw (frame_next nad m i, due_last (length m) i l b h)
      (last_received nad m x.buffer i known l high room b h).answered)
      (λ h. rw (frame_next nad m i, due_more (length m) i h)
      (more_received nad m x.buffer i known l high room b h).answered)

  -- each frame gets the answer due
  pub answers_due : (k : ℕ) → k < message_frames (length m)
      → answer_to (after_frames nad m x k) (message_frame nad m k) ≡ answer_due (length m) k
  unfolding after_frames
  answers_due zero h =
      order (length m) 6
      (λ l. rw (frame_single nad m l, due_single (length m) l) (single_received nad m x fit heard room low l).answered)
      (λ l. rw (frame_first nad m l, due_first (length m) l) (first_received nad m x fit heard room l high).answered)
  answers_due (suc i) h =
      let l = next_frame_due (length m) i h in
      rw (between_frames i h) (next_answer i l.0 l.1)

  -- the length is told at the last frame, and at no other
  pub length_told : (k : ℕ) → k < message_frames (length m)
      → value_told (take_told (answer_to (after_frames nad m x k) (message_frame nad m k))) ≡ cond (eqb (k + 1) (message_frames (length m))) (length m) 0
  length_told k h = rw (answers_due k h) (due_length (length m) k)

  all_frames : after_frames nad m x (message_frames (length m)) ≡ complete m x.buffer
  unfolding after_frames
  all_frames =
      order (length m) 6
      (λ l. rw (frames_one (length m) l, frame_single nad m l) (single_received nad m x fit heard room low l).left)
      (λ l. let i : ℕ = length m / 6 - 1 in
      let e : message_frames (length m) ≡ suc (suc i) = omega (arith, frames_more (length m) l) in
      rw (e, between_frames i (omega arith), frame_next nad m i)
      (last_received nad m x.buffer i known l high room (omega arith) (omega arith)).left)

  -- after the last frame the message stands in the buffer, the bytes behind it are the old ones, and none is open
  pub reassembled : after_frames nad m x (message_frames (length m)) ≡ record { state = None; buffer = m ++ drop (length m) x.buffer }
  reassembled = rw (← filled_all m x.buffer) all_frames

-- from no open message: each frame gets the answer due, and after the last one the message stands in the buffer
pub record RoundTrip (nad : ℕ) (m b : List ℕ) : Type 0 where
  pub answers : (k : ℕ) → k < message_frames (length m)
      → answer_to (after_frames nad m (record { state = None; buffer = b }) k) (message_frame nad m k) ≡ answer_due (length m) k
  pub message : after_frames nad m (record { state = None; buffer = b }) (message_frames (length m))
      ≡ record { state = None; buffer = m ++ drop (length m) b }

-- the round trip of every message of 1..4095 bytes, with any NAD but 0 and a buffer that holds it
pub round_trip : (nad : ℕ) (m b : List ℕ) → 1 ≤ nad → is_length (length m) ≡ true → length m ≤ length b → RoundTrip nad m b
unfolding fits listens
round_trip nad m b h sized room =
    let x : Between = record { state = None; buffer = b } in
    let heard : listens None nad ≡ true = rw (ne_eqb nad 0 (λ e. omega arith)) in
    record { answers = answers_due nad m x sized refl heard room; message = reassembled nad m x sized refl heard room }
