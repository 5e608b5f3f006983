-- What a frame does, by the tests that the code makes in turn: the state, the length, the NAD, the kind.
use Prim.Native.Nat.{ℕ, ◌≤◌, ◌<◌}
use mathlib.Core.Logic.{inl, inr}
use native.Mathlib.Omega.{arith}
use mathlib.Core.Path.{◌≡◌, refl, sym, ◌∙◌}
use mathlib.Core.Bool.{Bool, true, false, and-false}
use mathlib.Core.List.{List}
use borrow.Author.Tests.{eq-eqb, ne_eqb, eqb-true}
use lib.Dec.{ltb, eqb}
use lib.ListN.{length}
use Rattle.refusal.specs.Numbers.{refused, state, frame}
use Rattle.transport.specs.Reassembly.{Leaves, Kind, single, first, next, other, step_to, frame_pci, frame_nad, kind_of, step, fits, assembly_fits, listens}
use Rattle.transport.specs.Reassembly.{counter_due, would_be_taken, too_short, kind_ignored, ignored, kind_step, next_step, State}
use Rattle.transport.specs.Parts.{kind_outcome, message_outcome, next_outcome}
use Rattle.transport.specs.declared.reassembly.Assembly.{Assembly}
use Rattle.std.specs.Prelude.{None, Some, Ok, Err}
use Rattle.transport.specs.declared.reassembly.Answer.TheVariants.{Ignored}
use Rattle.transport.proofs.Fitting.{counter_below}
use Rattle.transport.proofs.FitLaws.{fits_exactly}
use Rattle.transport.proofs.KindLaws.{NoKind, kind_next, kind_other}
use Rattle.transport.proofs.Outcomes.{leaves_plain}
use Rattle.transport.proofs.StepCases.{listens_same, other_pci_not_too_short}
use Rattle.transport.proofs.Tests.{whether}

-- a next frame, and not one of the other kinds
abbrev pub is_next : Kind → Bool
is_next single = false
is_next first = false
is_next next = true
is_next other = false

-- refusal 2 is not given where the state is refused, where the frame is not of eight bytes, where the NAD is ignored, and
-- where the frame is no next frame
not_short_unfit : (s : State) (f b : List ℕ) → fits s ≡ false → too_short s f b ≡ false
unfolding fits too_short
not_short_unfit None f b h = refl
not_short_unfit (Some m) f b h = rw h

not_short_length : (s : State) (f b : List ℕ) → (length f ≡ 8 → ⊥) → too_short s f b ≡ false
unfolding too_short would_be_taken
not_short_length None f b h = refl
not_short_length (Some m) f b h = simp (ne_eqb _ _ h, and-false)

not_short_nad : (s : State) (f b : List ℕ) → fits s ≡ true → listens s (frame_nad f) ≡ false → too_short s f b ≡ false
unfolding fits too_short would_be_taken listens
not_short_nad None f b e h = refl
not_short_nad (Some m) f b e h =
    whether (eqb (frame_nad f) m.nad)
    (λ q.
    let z : (frame_nad f ≡ 0 → ⊥) = (λ y. ((fits_exactly m).0 e).nad_not_0 (sym (eqb-true (frame_nad f) m.nad q) ∙ y)) in
    let t : listens (Some m) (frame_nad f) ≡ true = rw (ne_eqb (frame_nad f) 0 z, q) in
    let n : ◌≡◌ {A = ℕ} 0 1 = cc in
    absurd (omega arith))
    (λ q. simp (q, and-false))

not_short_kind : (s : State) (f b : List ℕ) → fits s ≡ true → is_next (kind_of (frame_pci f)) ≡ false → too_short s f b ≡ false
unfolding fits too_short
not_short_kind None f b e h = refl
not_short_kind (Some m) f b e h =
    let c = counter_below m e in
    other_pci_not_too_short m f b
    (λ q.
    let k = kind_next (frame_pci f) (omega (arith, q)) (omega (arith, q)) in
    let t : is_next (kind_of (frame_pci f)) ≡ true = rw k in
    let n : ◌≡◌ {A = ℕ} 0 1 = cc in
    omega arith)

module _ (s : State) (f b : List ℕ) where
  pub step_unfit : fits s ≡ false → step s f b ≡ step_to s (Err (refused state))
  unfolding step
  step_unfit h = rw (not_short_unfit s f b h, h)

  module _ (fit : fits s ≡ true) where
    pub step_length : (length f ≡ 8 → ⊥) → step s f b ≡ step_to s (Err (refused frame))
    unfolding step
    step_length h = rw (not_short_length s f b h, fit, ne_eqb (length f) 8 h)

    module _ (eight : length f ≡ 8) where
      pub step_nad : listens s (frame_nad f) ≡ false → step s f b ≡ step_to s (Ok Ignored)
      unfolding step ignored
      step_nad h = rw (not_short_nad s f b fit h, fit, eq-eqb (length f) 8 eight, h)

      module _ (heard : listens s (frame_nad f) ≡ true) where
        pub step_kind : (k : Kind) → kind_of (frame_pci f) ≡ k → is_next k ≡ false → step s f b ≡ kind_outcome k s f b
        unfolding step ignored kind_outcome
        step_kind k e n = rw (not_short_kind s f b fit (rw e n), fit, eq-eqb (length f) 8 eight, heard, e)

-- a next frame of the open NAD, in a state that fits
next_open : (m : Assembly) (f b : List ℕ) → assembly_fits m ≡ true → length f ≡ 8 → listens (Some m) (frame_nad f) ≡ true → kind_of (frame_pci f) ≡ next
    → step (Some m) f b ≡ message_outcome m f b
unfolding step fits too_short would_be_taken ignored kind_ignored kind_step next_step message_outcome
next_open m f b e l h k =
    let same : eqb (frame_nad f) m.nad ≡ true = eq-eqb _ _ (listens_same m (frame_nad f) h) in
    whether (counter_due m f)
    (λ d. whether (ltb (length b) m.length)
    (λ t. rw (e, eq-eqb (length f) 8 l, same, d, t))
    (λ t. rw (e, eq-eqb (length f) 8 l, same, d, t, h, k, d)))
    (λ d. rw (e, eq-eqb (length f) 8 l, same, d, h, k, d))

-- a next frame of a NAD that is not ignored
pub step_next : (s : State) (f b : List ℕ) → fits s ≡ true → length f ≡ 8 → listens s (frame_nad f) ≡ true → kind_of (frame_pci f) ≡ next
    → step s f b ≡ next_outcome s f b
unfolding step fits too_short ignored kind_ignored next_outcome
step_next None f b e l h k = rw (eq-eqb (length f) 8 l, h, k)
step_next (Some m) f b e l h k = next_open m f b e l h k

-- a frame that is none of the three kinds
pub step_other : (s : State) (f b : List ℕ) → fits s ≡ true → length f ≡ 8 → listens s (frame_nad f) ≡ true → kind_of (frame_pci f) ≡ other
    → step s f b ≡ step_to s (Ok Ignored)
unfolding kind_outcome kind_ignored
step_other s f b e l h k = step_kind s f b e l h other k refl

-- so it leaves all as it was
pub no_kind : (s : State) (f b : List ℕ) → fits s ≡ true → length f ≡ 8 → listens s (frame_nad f) ≡ true → NoKind (frame_pci f)
    → Leaves (step s f b) b (record { state = s; answer = Ok Ignored }) b
no_kind s f b e l h k = leaves_plain _ _ _ _ _ (step_other s f b e l h (kind_other (frame_pci f) k)) refl

pub no_kind_0 : (s : State) (f b : List ℕ) → fits s ≡ true → length f ≡ 8 → listens s (frame_nad f) ≡ true → frame_pci f < 1
    → Leaves (step s f b) b (record { state = s; answer = Ok Ignored }) b
no_kind_0 s f b e l h k = no_kind s f b e l h (inl (omega arith))

pub no_kind_7 : (s : State) (f b : List ℕ) → fits s ≡ true → length f ≡ 8 → listens s (frame_nad f) ≡ true → 7 ≤ frame_pci f → frame_pci f < 16
    → Leaves (step s f b) b (record { state = s; answer = Ok Ignored }) b
no_kind_7 s f b e l h k j = no_kind s f b e l h (inr (inl (k, omega arith)))

pub no_kind_48 : (s : State) (f b : List ℕ) → fits s ≡ true → length f ≡ 8 → listens s (frame_nad f) ≡ true → 48 ≤ frame_pci f
    → Leaves (step s f b) b (record { state = s; answer = Ok Ignored }) b
no_kind_48 s f b e l h k = no_kind s f b e l h (inr (inr k))

pub ruleset no_kinds = (no_kind_0, no_kind_7, no_kind_48)
