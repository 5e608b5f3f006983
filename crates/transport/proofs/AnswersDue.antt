-- The answer due at each frame of a message, and when there is a next frame.
use Prim.Native.Nat.{ℕ, suc, ◌+◌, ◌*◌, ◌≤◌, ◌<◌}
use mathlib.Core.Path.{◌≡◌}
use native.Mathlib.Omega.{arith}
use mathlib.Core.Bool.{cond}
use borrow.Author.Tests.{eq-eqb, ne_eqb}
use lib.Dec.{eqb}
use Rattle.transport.specs.Answers.{take_told}
use Rattle.refusal.specs.Answers.{value_told}
use Rattle.transport.specs.Cutting.{message_frames}
use Rattle.transport.specs.Exchange.{answer_due}
use Rattle.transport.specs.declared.reassembly.Answer.TheVariants.{Started, More, Done}
use Rattle.std.specs.Prelude.{Ok}
use Rattle.transport.proofs.CuttingLaws.{frames_one, frames_more}
use Rattle.transport.proofs.Tests.{order, whether}

-- only a message above six bytes has next frames, and next frame i has a byte of it
pub next_frame_due : (n i : ℕ) → suc i < message_frames n → (6 < n) × (5 + 6 * i < n)
next_frame_due n i h =
    order n 6 (λ l. absurd (omega (arith, frames_one n l))) (λ l. (l, omega (arith, frames_more n l)))

module _ (n : ℕ) where
  -- done at the only frame
  pub due_single : n ≤ 6 → answer_due n 0 ≡ Ok (Done n)
  unfolding answer_due
  due_single h = rw (frames_one n h)

  -- started at the first of several
  pub due_first : 6 < n → answer_due n 0 ≡ Ok Started
  unfolding answer_due
  due_first h = rw (ne_eqb (0 + 1) (message_frames n) (λ e. omega (arith, frames_more n h)))

  -- more while bytes are missing
  pub due_more : (i : ℕ) → 5 + 6 * suc i < n → answer_due n (suc i) ≡ Ok More
  unfolding answer_due
  due_more i h =
      let l : 6 < n = omega arith in
      rw (ne_eqb (suc i + 1) (message_frames n) (λ e. omega (arith, frames_more n l)), ne_eqb (suc i) 0 (λ e. omega arith))

  -- done at the frame with the last bytes
  pub due_last : (i : ℕ) → 6 < n → 5 + 6 * i < n → n ≤ 5 + 6 * suc i → answer_due n (suc i) ≡ Ok (Done n)
  unfolding answer_due
  due_last i l h k = rw (eq-eqb (suc i + 1) (message_frames n) (omega (arith, frames_more n l)))

  -- the length is told at the last frame, and at no other
  pub due_length : (k : ℕ) → value_told (take_told (answer_due n k)) ≡ cond (eqb (k + 1) (message_frames n)) n 0
  unfolding answer_due
  due_length k =
      whether (eqb (k + 1) (message_frames n)) (λ t. rw t)
      (λ t. whether (eqb k 0) (λ z. rw (t, z)) (λ z. rw (t, z)))
