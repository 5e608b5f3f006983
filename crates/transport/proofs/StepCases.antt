-- The cases of a step: refused, ignored, or taken by the frame's kind.
use Prim.Native.Nat.{ℕ, ◌+◌, ◌≤◌, ◌<◌}
use mathlib.Core.Path.{◌≡◌, refl}
use mathlib.Core.Bool.{Bool, true, false, not, ◌&&◌, and-false, and_comm}
use mathlib.Core.List.{List}
use native.Mathlib.Omega.{arith}
use borrow.Author.Tests.{le-ltb, ltb-false, eq-eqb, ne_eqb, eqb-true, eqb-false, not-true}
use lib.Dec.{ltb, eqb}
use lib.ListN.{length}
use Rattle.refusal.specs.Numbers.{refused, buffer, state, frame}
use Rattle.transport.specs.Reassembly.{Step, step_to, step, too_short, fits, listens, ignored, Kind, kind_of, kind_ignored, kind_step}
use Rattle.transport.specs.Reassembly.{first, frame_nad, frame_pci, first_length, would_be_taken, counter_due, State}
use Rattle.transport.specs.declared.reassembly.Assembly.{Assembly}
use Rattle.std.specs.Prelude.{None, Some, Ok, Err, MatchOption, IsTrue}
use Rattle.transport.specs.Answers.{Answered}
use Rattle.transport.specs.declared.reassembly.Answer.TheVariants.{Ignored}
use Rattle.transport.proofs.Tests.{whether, and_left, and_right, or_left, or_right}

-- a test of a state that holds with none open, and asks the open message otherwise
pub none_or : (test : State → Bool) (s : State) (r : Bool) (P : Assembly → Type 0)
    → test None ≡ true → ((m : Assembly) → P m → r ≡ test (Some m)) → MatchOption s (IsTrue r) P → r ≡ test s
none_or test None r P none some h = rw none h
none_or test (Some m) r P none some h = some m h

-- a NAD is listened to where an open message has it, and it is not 0
pub listens_if : (s : State) (nad : ℕ) (r : Bool) (P : Assembly → Type 0)
    → ((m : Assembly) → P m → r ≡ eqb nad m.nad) → MatchOption s (IsTrue r) P → (r && not (eqb nad 0)) ≡ listens s nad
unfolding listens
listens_if None nad r P own h = rw h
listens_if (Some m) nad r P own h = rw (own m h) (and_comm (eqb nad m.nad) (not (eqb nad 0)))

-- a NAD that is listened to is not 0
pub listens_known : (s : State) (nad : ℕ) → listens s nad ≡ true → nad ≡ 0 → ⊥
unfolding listens
listens_known None nad h = eqb-false nad 0 (not-true (eqb nad 0) h)
listens_known (Some m) nad h = eqb-false nad 0 (not-true (eqb nad 0) (and_left (not (eqb nad 0)) (eqb nad m.nad) h))

-- with a message open, a NAD that is listened to is the message's
pub listens_same : (m : Assembly) (nad : ℕ) → listens (Some m) nad ≡ true → nad ≡ m.nad
unfolding listens
listens_same m nad h = eqb-true nad m.nad (and_right (not (eqb nad 0)) (eqb nad m.nad) h)

-- ---- refusal 2

-- the open message of a state, if any, is no longer than the buffer
abbrev pub Room : State → List ℕ → Type 0
Room None b = Unit {0}
Room (Some m) b = m.length ≤ length b

-- a buffer that holds the open message is never too short, so a caller that keeps its buffer never gets refusal 2
pub never_too_short : (s : State) (f b : List ℕ) → Room s b → too_short s f b ≡ false
unfolding too_short
never_too_short None f b h = refl
never_too_short (Some m) f b h = simp (le-ltb (length b) m.length h, and-false)

-- nor is any buffer for a frame with another PCI than that of the next frame due
pub other_pci_not_too_short : (m : Assembly) (f b : List ℕ) → (frame_pci f ≡ 32 + m.counter → ⊥) → too_short (Some m) f b ≡ false
unfolding too_short would_be_taken counter_due
other_pci_not_too_short m f b h = simp (ne_eqb (frame_pci f) (32 + m.counter) h, and-false)

-- nor for a single or a first frame
pub early_not_too_short : (s : State) (f b : List ℕ) → frame_pci f < 32 → too_short s f b ≡ false
unfolding too_short
early_not_too_short None f b h = refl
early_not_too_short (Some m) f b h = other_pci_not_too_short m f b (λ e. omega arith)

-- ---- all cases

module _ (s : State) (f b : List ℕ) where
  -- a frame that is neither refused nor ignored
  pub record Accepted : Type 0 where
    pub long_enough : too_short s f b ≡ false
    pub fit : fits s ≡ true
    pub eight : length f ≡ 8
    pub heard : listens s (frame_nad f) ≡ true
    pub not_ignored : kind_ignored (kind_of (frame_pci f)) s f b ≡ false

  -- an accepted frame does what its kind does
  pub step_accepted : Accepted → step s f b ≡ kind_step (kind_of (frame_pci f)) s f
  unfolding step ignored
  step_accepted a = rw (a.long_enough, a.fit, eq-eqb (length f) 8 a.eight, a.heard, a.not_ignored)

  -- the same, from its parts and for a kind that is known
  pub step_by_kind : (k : Kind) → too_short s f b ≡ false → fits s ≡ true → length f ≡ 8
      → listens s (frame_nad f) ≡ true → kind_of (frame_pci f) ≡ k → kind_ignored k s f b ≡ false
      → step s f b ≡ kind_step k s f
  step_by_kind k t₁ t₂ t₃ t₄ kind t₅ =
      rw (
        step_accepted (record { long_enough = t₁; fit = t₂; eight = t₃; heard = t₄; not_ignored = rw kind t₅ }),
        kind,
      )

  -- what holds of every step that does nothing, and of every accepted frame's, holds of every step
  pub step_cases : (P : Step → Type 0) → ((a : Answered) → P (step_to s a)) → (Accepted → P (kind_step (kind_of (frame_pci f)) s f)) → P (step s f b)
  unfolding step ignored
  step_cases P nothing accepted =
      whether (too_short s f b) (λ t. rw t (nothing (Err (refused buffer))))
      (λ t₁. whether (fits s) (λ t₂. whether (eqb (length f) 8)
      (λ t₃. whether (listens s (frame_nad f))
      (λ t₄. whether (kind_ignored (kind_of (frame_pci f)) s f b)
      (λ t. rw (t₁, t₂, t₃, t₄, t) (nothing (Ok Ignored)))
      (λ t₅. rw (t₁, t₂, t₃, t₄, t₅)
      (accepted (record { long_enough = t₁; fit = t₂; eight = eqb-true (length f) 8 t₃; heard = t₄; not_ignored = t₅ }))))
      (λ t. rw (t₁, t₂, t₃, t) (nothing (Ok Ignored))))
      (λ t. rw (t₁, t₂, t) (nothing (Err (refused frame)))))
      (λ t. rw (t₁, t) (nothing (Err (refused state)))))

-- an accepted next frame with the counter due meets a buffer that holds its message
pub accepted_room : (m : Assembly) (f b : List ℕ) → Accepted (Some m) f b → counter_due m f ≡ true → m.length ≤ length b
unfolding too_short would_be_taken fits
accepted_room m f b a due =
    ltb-false (length b) m.length
    (rw (
      a.fit,
      eq-eqb (length f) 8 a.eight,
      eq-eqb (frame_nad f) m.nad (listens_same m (frame_nad f) a.heard),
      due,
    ) at a.long_enough)

-- a first frame that is not ignored by its kind tells a length from 7 up to the buffer's
pub first_room : (s : State) (f b : List ℕ) → kind_ignored first s f b ≡ false → (7 ≤ first_length f) × (first_length f ≤ length b)
unfolding kind_ignored
first_room s f b h = (
  ltb-false (first_length f) 7 (or_left (ltb (first_length f) 7) (ltb (length b) (first_length f)) h),
  ltb-false (length b) (first_length f) (or_right (ltb (first_length f) 7) (ltb (length b) (first_length f)) h),
)
