-- Laws of a step: a wrong counter, a frame for another node, what an ignored or a refused frame changes, and where bytes go.
use Prim.Native.Nat.{ℕ, ◌+◌, ◌≤◌, ◌<◌}
use mathlib.Core.Path.{◌≡◌, refl, ap, sym, ◌∙◌}
use mathlib.Core.Bool.{Bool, true, false, and-false}
use mathlib.Core.List.{List}
use native.Mathlib.Omega.{arith}
use borrow.Author.Tests.{ltb-false, eq-eqb, ne_eqb}
use lib.Dec.{ltb}
use lib.ListN.{length, length-take}
use Rattle.refusal.specs.declared.Refusal.{Refusal}
use Rattle.transport.specs.Reassembly.{step_to, step, too_short, fits, listens, ignored, Kind, single, first, next, other}
use Rattle.transport.specs.Reassembly.{frame_nad, frame_pci, kind_of, kind_ignored, kind_step, single_step, first_step, next_step}
use Rattle.transport.specs.Reassembly.{would_be_taken, counter_due, continued, reached, bytes_due, State}
use Rattle.transport.specs.Exchange.{Foreign}
use Rattle.transport.specs.declared.reassembly.Assembly.{Assembly}
use Rattle.std.specs.Prelude.{None, Some, Ok, Err}
use Rattle.transport.specs.Answers.{Answered}
use Rattle.transport.specs.declared.reassembly.Answer.TheVariants.{Ignored, Started, More, Done, Broken}
use Rattle.transport.proofs.FitLaws.{open_fits}
use Rattle.transport.proofs.KindLaws.{pci_of_kind}
use Rattle.transport.proofs.StepCases.{other_pci_not_too_short, early_not_too_short, step_by_kind, step_cases, Accepted, accepted_room, first_room}
use Rattle.transport.proofs.Tests.{whether}

-- a frame of the open NAD is not ignored for its NAD
heard_open : (m : Assembly) (f : List ℕ) → fits (Some m) ≡ true → frame_nad f ≡ m.nad → listens (Some m) (frame_nad f) ≡ true
unfolding listens
heard_open m f fit same = rw (same, ne_eqb m.nad 0 (open_fits m fit).nad_not_0, eq-eqb m.nad m.nad refl)

module _ (m : Assembly) (fit : fits (Some m) ≡ true) (f b : List ℕ) where
  -- a next frame of the open NAD with a wrong counter answers broken, closes the message and writes no byte
  pub wrong_counter : length f ≡ 8 → frame_nad f ≡ m.nad → kind_of (frame_pci f) ≡ next → (frame_pci f ≡ 32 + m.counter → ⊥)
      → step (Some m) f b ≡ step_to None (Ok Broken)
  unfolding kind_ignored kind_step next_step counter_due
  wrong_counter eight same kind wrong =
      step_by_kind (Some m) f b next (other_pci_not_too_short m f b wrong) fit eight (heard_open m f fit same) kind refl
      ∙ rw (ne_eqb (frame_pci f) (32 + m.counter) wrong)

  -- a frame for another node is ignored
  pub foreign_ignored : Foreign m.nad f → step (Some m) f b ≡ step_to (Some m) (Ok Ignored)
  unfolding step too_short would_be_taken ignored listens
  foreign_ignored foreign =
      simp (eq-eqb (length f) 8 foreign.eight, ne_eqb (frame_nad f) m.nad foreign.elsewhere, fit, and-false)

-- "A single or first frame of the open NAD drops the open message and begins anew, unless ignored": it does what it does with
-- nothing open
module _ (m : Assembly) (fit : fits (Some m) ≡ true) (f b : List ℕ) (eight : length f ≡ 8) (same : frame_nad f ≡ m.nad) where
  heard_anew : listens None (frame_nad f) ≡ true
  unfolding listens
  heard_anew = rw (same, ne_eqb m.nad 0 (open_fits m fit).nad_not_0)

  begins : (k : Kind) → frame_pci f < 32 → kind_of (frame_pci f) ≡ k → kind_ignored k (Some m) f b ≡ false → kind_ignored k None f b ≡ false
      → kind_step k (Some m) f ≡ kind_step k None f → step (Some m) f b ≡ step None f b
  unfolding fits
  begins k low kind i j e =
      step_by_kind (Some m) f b k (early_not_too_short (Some m) f b low) fit eight (heard_open m f fit same) kind i
      ∙ e
      ∙ sym (step_by_kind None f b k (early_not_too_short None f b low) refl eight heard_anew kind j)

  pub single_anew : kind_of (frame_pci f) ≡ single → kind_ignored single (Some m) f b ≡ false → step (Some m) f b ≡ step None f b
  unfolding kind_ignored kind_step
  single_anew kind h = let p = rw kind at (pci_of_kind (frame_pci f)) in begins single (omega arith) kind h h refl

  pub first_anew : kind_of (frame_pci f) ≡ first → kind_ignored first (Some m) f b ≡ false → step (Some m) f b ≡ step None f b
  unfolding kind_ignored kind_step
  first_anew kind h = let p = rw kind at (pci_of_kind (frame_pci f)) in begins first (omega arith) kind h h refl

-- ---- what changes nothing

-- the answers of a frame that is not taken
abbrev not_taken : Answered → Bool
not_taken (Ok Ignored) = true
not_taken (Ok Started) = false
not_taken (Ok More) = false
not_taken (Ok (Done n)) = false
not_taken (Ok Broken) = false
not_taken (Err r) = true

-- a next frame of an open message is taken, or breaks it
next_taken : (m : Assembly) (f : List ℕ) → not_taken (next_step (Some m) f).taken.answer ≡ false
unfolding next_step continued reached
next_taken m f =
    whether (counter_due m f)
    (λ t. whether (ltb (m.count + bytes_due m) m.length) (λ l. rw (t, l)) (λ l. rw (t, l)))
    (λ t. rw t)

-- by kind: a frame that is not taken changes nothing
kind_nothing : (k : Kind) (s : State) (f : List ℕ)
    → not_taken (kind_step k s f).taken.answer ≡ true → kind_step k s f ≡ step_to s (kind_step k s f).taken.answer
unfolding kind_step single_step first_step next_step
kind_nothing single s f h = cc
kind_nothing first s f h = cc
kind_nothing next None f h = refl
kind_nothing next (Some m) f h = cc (next_taken m f)
kind_nothing other s f h = refl

module _ (s : State) (f b : List ℕ) where
  nothing : not_taken (step s f b).taken.answer ≡ true → step s f b ≡ step_to s (step s f b).taken.answer
  nothing =
      step_cases s f b (λ st. not_taken st.taken.answer ≡ true → st ≡ step_to s st.taken.answer)
      (λ a h. refl)
      (λ a. kind_nothing (kind_of (frame_pci f)) s f)

  -- a refused frame changes nothing: the state is handed back and no byte is written
  pub refused_nothing : (r : Refusal) → (step s f b).taken.answer ≡ Err r → step s f b ≡ step_to s (Err r)
  refused_nothing r h = nothing (rw h) ∙ ap (step_to s) h

  -- an ignored frame changes nothing
  pub ignored_nothing : (step s f b).taken.answer ≡ Ok Ignored → step s f b ≡ step_to s (Ok Ignored)
  ignored_nothing h = nothing (rw h) ∙ ap (step_to s) h

-- ---- where the bytes go

-- by kind: the bytes of an accepted frame lie inside the buffer
kind_inside : (k : Kind) (s : State) (f b : List ℕ) → Accepted s f b → kind_ignored k s f b ≡ false
    → (kind_step k s f).place + length (kind_step k s f).bytes ≤ length b
unfolding kind_step kind_ignored single_step first_step next_step continued bytes_due
kind_inside single s f b a h = simp length-take (let l = ltb-false (length b) (frame_pci f) h in omega arith)
kind_inside first s f b a h = simp length-take (let l = first_room s f b h in omega arith)
kind_inside next None f b a h = omega arith
kind_inside next (Some m) f b a h =
    whether (counter_due m f)
    (λ t. rw t (simp length-take (let l = accepted_room m f b a t in let n = open_fits m a.fit in omega arith)))
    (λ t. rw t (omega arith))
kind_inside other s f b a h = omega arith

-- the bytes delivered lie inside the buffer
pub delivered_inside : (s : State) (f b : List ℕ) → (step s f b).place + length (step s f b).bytes ≤ length b
delivered_inside s f b =
    step_cases s f b (λ st. st.place + length st.bytes ≤ length b)
    (λ a. omega arith)
    (λ a. kind_inside (kind_of (frame_pci f)) s f b a a.not_ignored)
