-- What a frame of each kind does, by the tests that the code makes.
use Prim.Native.Nat.{ℕ, ◌+◌, ◌<◌, ◌≤◌}
use mathlib.Core.Path.{◌≡◌, refl, ◌∙◌}
use mathlib.Core.List.{List}
use borrow.Author.Tests.{lt-ltb, le-ltb, eq-eqb, ne_eqb}
use lib.ListN.{length, take, drop}
use Rattle.refusal.specs.Numbers.{refused, buffer}
use Rattle.transport.specs.Reassembly.{Step, Leaves, written, step_to, frame_pci, first_length, kind_ignored, kind_step, single, first, single_step}
use Rattle.transport.specs.Reassembly.{first_step, counter_due, continued, bytes_due, reached, State, Taken}
use Rattle.transport.specs.Parts.{kind_outcome, message_outcome}
use Rattle.transport.specs.declared.reassembly.Assembly.{Assembly}
use Rattle.std.specs.Prelude.{None, Some, Ok, Err}
use Rattle.transport.specs.Answers.{Answered}
use Rattle.transport.specs.declared.reassembly.Answer.TheVariants.{Ignored, Broken}

-- a step that delivers nothing leaves the buffer as it was
pub leaves_plain : (st : Step) (b : List ℕ) (s : State) (a : Answered) (r : Taken) → st ≡ step_to s a → r ≡ (step_to s a).taken → Leaves st b r b
unfolding written
leaves_plain st b s a r e h = rw e (record { handed = h; left = refl })

-- a step that delivers bytes, once they are written
pub leaves_written : (st due : Step) (b after : List ℕ) (r : Taken) → st ≡ due → r ≡ due.taken → after ≡ written b due.place due.bytes → Leaves st b r after
leaves_written st due b after r e h w = rw e (record { handed = h; left = w })

module _ (s : State) (f b : List ℕ) where
  pub single_ignored : length b < frame_pci f → kind_outcome single s f b ≡ step_to s (Ok Ignored)
  unfolding kind_outcome kind_ignored
  single_ignored h = rw (lt-ltb _ _ h)

  pub single_taken : frame_pci f ≤ length b → kind_outcome single s f b ≡ single_step f
  unfolding kind_outcome kind_ignored kind_step
  single_taken h = rw (le-ltb _ _ h)

  pub first_low : first_length f < 7 → kind_outcome first s f b ≡ step_to s (Ok Ignored)
  unfolding kind_outcome kind_ignored
  first_low h = rw (lt-ltb _ _ h)

  pub first_high : 7 ≤ first_length f → length b < first_length f → kind_outcome first s f b ≡ step_to s (Ok Ignored)
  unfolding kind_outcome kind_ignored
  first_high l h = rw (le-ltb _ _ l, lt-ltb _ _ h)

  pub first_taken : 7 ≤ first_length f → first_length f ≤ length b → kind_outcome first s f b ≡ first_step f
  unfolding kind_outcome kind_ignored kind_step
  first_taken l h = rw (le-ltb _ _ l, le-ltb _ _ h)

module _ (m : Assembly) (f b : List ℕ) where
  pub next_broken : (frame_pci f ≡ 32 + m.counter → ⊥) → message_outcome m f b ≡ step_to None (Ok Broken)
  unfolding message_outcome counter_due
  next_broken h = rw (ne_eqb _ _ h)

  pub next_short : frame_pci f ≡ 32 + m.counter → length b < m.length → message_outcome m f b ≡ step_to (Some m) (Err (refused buffer))
  unfolding message_outcome counter_due
  next_short e h = rw (eq-eqb _ _ e, lt-ltb _ _ h)

  pub next_taken : frame_pci f ≡ 32 + m.counter → m.length ≤ length b → message_outcome m f b ≡ continued m f
  unfolding message_outcome counter_due
  next_taken e h = rw (eq-eqb _ _ e, le-ltb _ _ h)

  -- the bytes due are delivered, and the count of bytes rises by them
  pub leaves_continued : (n : ℕ) (r : Taken) (after : List ℕ) → message_outcome m f b ≡ continued m f → n ≡ bytes_due m → r ≡ reached m (m.count + n)
      → after ≡ written b m.count (take n (drop 2 f)) → Leaves (message_outcome m f b) b r after
  unfolding continued
  leaves_continued n r after e d h w = rw e (record { handed = h ∙ rw d; left = w ∙ rw d })
