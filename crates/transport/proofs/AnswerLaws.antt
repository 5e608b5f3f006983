-- What every call tells, by the rows of the paper's table: the first test that fails, and else the values.
use Prim.Native.Nat.{ℕ, ◌+◌}
use mathlib.Core.Path.{◌≡◌, refl}
use mathlib.Core.List.{List, [], ◌∷◌}
use borrow.Author.Tests.{ltb-true, ltb-false, lt-leb, le-leb}
use lib.Dec.{ltb, eqb}
use lib.ListN.{length}
use Rattle.refusal.specs.Answers.{gives, test, first_failing}
use Rattle.transport.specs.Answers.{Counted, Cut, count_told, cut_told, take_told}
use Rattle.transport.specs.Cutting.{is_length, message_frames, count_of, cut_of}
use Rattle.transport.specs.Reassembly.{Kind, single, first, next, other, kind_of, frame_pci, Leaves, step, fits, too_short, ignored, take_tests, kind_values, take_values}
use Rattle.transport.specs.Reassembly.{kind_step, single_step, first_step, next_step, counter_due, continued, bytes_due, reached, Taken, State}
use Rattle.std.specs.Prelude.{None, Some}
use Rattle.transport.proofs.Tests.{whether}

-- a length is refused with 9 exactly when it is 0 or above 4,095, and otherwise its number of frames is told
pub count_told_lem : (n : ℕ) (r : Counted) → r ≡ count_of n → (r ≡ count_of n) × (count_told r ≡ first_failing (test 9 (is_length n) ∷ []) (message_frames n ∷ []))
unfolding count_of first_failing
count_told_lem n r e = (e, rw e (whether (is_length n) (λ t. rw t) (λ t. rw t)))

-- a frame's number is never refused itself, the message's length as above
pub cut_told_lem : (nad : ℕ) (m : List ℕ) (k : ℕ) (r : Cut) → r ≡ cut_of nad m k
    → (r ≡ cut_of nad m k) × (cut_told r ≡ first_failing (test 9 (is_length (length m)) ∷ []) [])
unfolding cut_of first_failing
cut_told_lem nad m k r e = (
  e,
  rw e (whether (is_length (length m))
      (λ t. whether (ltb k (message_frames (length m))) (λ l. rw (t, l)) (λ l. rw (t, l)))
      (λ t. rw t)),
)

-- a frame that is neither refused nor ignored tells its values alone
kind_accepts : (k : Kind) (s : State) (f : List ℕ) → take_told (kind_step k s f).taken.answer ≡ gives (kind_values k s f)
unfolding kind_step single_step first_step next_step continued reached
kind_accepts single s f = refl
kind_accepts first s f = refl
kind_accepts next None f = refl
kind_accepts next (Some m) f =
    whether (counter_due m f)
    (λ t. whether (ltb (m.count + bytes_due m) m.length)
    (λ l. rw (t, l, lt-leb m.length (m.count + bytes_due m) (ltb-true (m.count + bytes_due m) m.length l)))
    (λ l. rw (t, l, le-leb m.length (m.count + bytes_due m) (ltb-false (m.count + bytes_due m) m.length l))))
    (λ t. rw t)
kind_accepts other s f = refl

-- a frame is refused with 2, 3 or 11 exactly when that row applies and no lower one does
step_told : (s : State) (f b : List ℕ)
    → take_told (step s f b).taken.answer ≡ first_failing (take_tests s f b) (take_values s f b)
unfolding step first_failing
step_told s f b =
    whether (too_short s f b) (λ t. rw t)
    (λ t. whether (fits s)
    (λ u. whether (eqb (length f) 8)
    (λ v. whether (ignored s f b) (λ i. rw (t, u, v, i)) (λ i. rw (t, u, v, i) (kind_accepts (kind_of (frame_pci f)) s f)))
    (λ v. rw (t, u, v)))
    (λ u. rw (t, u)))

pub take_told_lem : (s : State) (f b : List ℕ) (r : Taken) (after : List ℕ) → Leaves (step s f b) b r after
    → Leaves (step s f b) b r after × (take_told r.answer ≡ first_failing (take_tests s f b) (take_values s f b))
take_told_lem s f b r after e = (e, rw e.handed (step_told s f b))
