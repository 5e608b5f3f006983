-- Laws of cutting: a frame's bytes, how many frames there are, and the counter of the next frames.
use Prim.Native.Nat.{ℕ, zero, suc, ◌+◌, ◌-◌, ◌*◌, ◌/◌, ◌≤◌, ◌<◌}
use mathlib.Core.Path.{◌≡◌, refl}
use mathlib.Core.List.{List}
use native.Mathlib.Omega.{arith}
use borrow.Author.Tests.{le-leb, lt-leb}
use lib.ListN.{length}
use Rattle.transport.specs.Cutting.{message_frames, data_bytes, single_frame, first_frame, next_frame, message_frame}
use Rattle.transport.specs.Reassembly.{frame_nad, frame_pci}
use Rattle.transport.proofs.Tests.{order}

-- ---- frames

-- frame 0 of a message of at most six bytes is its single frame
pub frame_single : (nad : ℕ) (m : List ℕ) → length m ≤ 6 → message_frame nad m 0 ≡ single_frame nad m
unfolding message_frame
frame_single nad m h = rw (le-leb (length m) 6 h)

-- frame 0 of a longer message is its first frame
pub frame_first : (nad : ℕ) (m : List ℕ) → 6 < length m → message_frame nad m 0 ≡ first_frame nad m
unfolding message_frame
frame_first nad m h = rw (lt-leb (length m) 6 h)

-- the frames behind frame 0 are the next frames
pub frame_next : (nad : ℕ) (m : List ℕ) (i : ℕ) → message_frame nad m (suc i) ≡ next_frame nad m i
unfolding message_frame
frame_next nad m i = refl

-- every frame has eight bytes
pub frame_length_lem : (nad : ℕ) (m : List ℕ) (k : ℕ) → length (message_frame nad m k) ≡ 8
unfolding message_frame single_frame first_frame next_frame data_bytes
frame_length_lem nad m zero = order (length m) 6 (λ h. rw (frame_single nad m h)) (λ h. rw (frame_first nad m h))
frame_length_lem nad m (suc i) = refl

-- every frame's first byte is the NAD
pub frame_nad_lem : (nad : ℕ) (m : List ℕ) (k : ℕ) → frame_nad (message_frame nad m k) ≡ nad
unfolding message_frame single_frame first_frame next_frame
frame_nad_lem nad m zero = order (length m) 6 (λ h. rw (frame_single nad m h)) (λ h. rw (frame_first nad m h))
frame_nad_lem nad m (suc i) = refl

-- ---- the number of frames

-- a message of at most six bytes takes one frame
pub frames_one : (n : ℕ) → n ≤ 6 → message_frames n ≡ 1
unfolding message_frames
frames_one n h = rw (le-leb n 6 h)

-- a longer message of n bytes takes 1 + n / 6 frames
pub frames_more : (n : ℕ) → 6 < n → message_frames n ≡ 1 + n / 6
unfolding message_frames
frames_more n h = rw (lt-leb n 6 h) (omega arith)

-- "4,095 bytes take 683"
pub longest_frames : message_frames 4095 ≡ 683
unfolding message_frames
longest_frames = refl

-- at least one frame
pub frames_low : (n : ℕ) → 1 ≤ message_frames n
frames_low n = order n 6 (λ l. omega (arith, frames_one n l)) (λ l. omega (arith, frames_more n l))

-- and at most 683
pub frames_high : (n : ℕ) → n ≤ 4095 → message_frames n ≤ 683
frames_high n h = order n 6 (λ l. omega (arith, frames_one n l)) (λ l. omega (arith, frames_more n l))

-- "rounded up": the frames hold the message
pub frames_enough : (n : ℕ) → 7 ≤ n → n ≤ 5 + 6 * (message_frames n - 1)
frames_enough n h = omega (arith, frames_more n h)

-- and one frame less does not
pub frames_least : (n : ℕ) → 7 ≤ n → 5 + 6 * (message_frames n - 2) < n
frames_least n h = omega (arith, frames_more n h)

-- ---- the counter

-- the counter goes round every 16 next frames
pub counter_cycle : (nad : ℕ) (m : List ℕ) (i j : ℕ) → frame_pci (next_frame nad m (16 * j + i)) ≡ frame_pci (next_frame nad m i)
unfolding next_frame
counter_cycle nad m i j = omega arith

-- the first fifteen next frames count 1 to 15
pub counter_first : (nad : ℕ) (m : List ℕ) (i : ℕ) → i < 15 → frame_pci (next_frame nad m i) ≡ 33 + i
unfolding next_frame
counter_first nad m i h = omega arith

-- and 0 follows 15
pub counter_wraps : (nad : ℕ) (m : List ℕ) → frame_pci (next_frame nad m 15) ≡ 32
unfolding next_frame
counter_wraps nad m = refl
