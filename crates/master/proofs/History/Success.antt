-- How `Succeeded` grows with the history: a success of f at the last event, or one before it.
use Prim.Native.Nat.{ℕ}
use mathlib.Core.Path.{◌≡◌, ap}
use mathlib.Core.Logic.{◌⊎◌, inl, inr, ⊎_elim}
use mathlib.Core.Bool.{true, false}
use mathlib.Core.List.{List}
use native.Mathlib.Omega.{arith}
use Rattle.master.specs.Seq.{Seq, ∅, ◌▹◌, ◌⋈◌, Each}
use Rattle.master.specs.Schedule.{Scheduled}
use Rattle.master.specs.History.{closes, succeeds, open_after, carries, Succeeded}
use Rattle.master.proofs.Tests.{never}
use Rattle.master.proofs.History.Events.{opens_closes}
use Rattle.master.proofs.History.Opening.{open_quiet, open_since, started}

-- the two halves of an equation between sequences, and one that cannot be
pub same_past : {A : Type 0} {g h : Seq A} {d e : A} → g ▹ d ≡ h ▹ e → g ≡ h
same_past p = cc

pub same_last : {A : Type 0} {g h : Seq A} {d e : A} → g ▹ d ≡ h ▹ e → d ≡ e
same_last p = cc

pub not_empty : {A : Type 0} (g : Seq A) (e : A) (h : Seq A) → ¬ (∅ ≡ g ▹ e ⋈ h)
not_empty g e ∅ p = let z : ◌≡◌ {A = ℕ} 0 1 = cc in omega arith
not_empty g e (h ▹ d) p = let z : ◌≡◌ {A = ℕ} 0 1 = cc in omega arith

module _ (t : List ℕ) where
  module _ (h : Seq Scheduled) (x : Scheduled) (f : ℕ) where
    pub success_now : carries (open_after t h) f ≡ true → succeeds x ≡ true → Succeeded t (h ▹ x) f
    success_now o w =
        let s = started t h f o in
        record {
          before = s.before;
          start = s.start;
          during = s.during;
          end = x;
          after = ∅;
          split = ap (λ g. g ▹ x) s.split;
          opened = s.opened;
          open_on = s.open_on;
          well = w;
        }

    pub success_before : Succeeded t h f → Succeeded t (h ▹ x) f
    success_before s = record {
      before = s.before;
      start = s.start;
      during = s.during;
      end = s.end;
      after = s.after ▹ x;
      split = ap (λ g. g ▹ x) s.split;
      opened = s.opened;
      open_on = s.open_on;
      well = s.well;
    }

    pub success_cases : Succeeded t (h ▹ x) f → Succeeded t h f ⊎ ((carries (open_after t h) f ≡ true) × (succeeds x ≡ true))
    success_cases s = go s.after s.split
      where
        go : (after : Seq Scheduled) → h ▹ x ≡ s.before ▹ s.start ⋈ s.during ▹ s.end ⋈ after
            → Succeeded t h f ⊎ ((carries (open_after t h) f ≡ true) × (succeeds x ≡ true))
        go ∅ p =
            let o = open_since t s.before s.start s.during (opens_closes t s.start f s.opened) s.open_on in
            inr (rw (same_past p, o) s.opened, rw (same_last p) s.well)
        go (after ▹ y) p = inl (record {
          before = s.before;
          start = s.start;
          during = s.during;
          end = s.end;
          after = after;
          split = same_past p;
          opened = s.opened;
          open_on = s.open_on;
          well = s.well;
        })

    pub unsent_next : ¬ Succeeded t h f → (carries (open_after t h) f ≡ true → succeeds x ≡ true → ⊥) → ¬ Succeeded t (h ▹ x) f
    unsent_next u v s = ⊎_elim u (λ w. v w.0 w.1) (success_cases s)

  pub unsent_empty : (f : ℕ) → ¬ Succeeded t ∅ f
  unsent_empty f s = not_empty (s.before ▹ s.start ⋈ s.during) s.end s.after s.split

  -- where nothing closes, nothing succeeds, nor at the event that comes next
  pub unsent_quiet : (h : Seq Scheduled) (f : ℕ) → Each (λ x. closes x ≡ false) h → ¬ Succeeded t h f
  unsent_quiet ∅ f q = unsent_empty f
  unsent_quiet (h ▹ x) f q = unsent_next h x f (unsent_quiet h f q.0) (λ o s. never (rw (open_quiet t h q.0) at o))

  pub unsent_quiet_next : (h : Seq Scheduled) (x : Scheduled) (f : ℕ) → Each (λ y. closes y ≡ false) h → ¬ Succeeded t (h ▹ x) f
  unsent_quiet_next h x f q = unsent_next h x f (unsent_quiet h f q) (λ o s. never (rw (open_quiet t h q) at o))
