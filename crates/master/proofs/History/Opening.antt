-- Which transfer is open: what the last closing event opened. And the slot that was started last.
use Prim.Native.Nat.{ℕ}
use mathlib.Core.Path.{◌≡◌, refl, ap, ◌∙◌}
use mathlib.Core.Bool.{true, false, cond}
use mathlib.Core.List.{List}
use Rattle.transport.proofs.Tests.{whether}
use Rattle.master.specs.declared.state.Opened.TheVariants.{Nothing}
use Rattle.master.specs.Seq.{Seq, ∅, ◌▹◌, ◌⋈◌, Each}
use Rattle.master.specs.Schedule.{Scheduled, slot_after}
use Rattle.master.specs.History.{opens, closes, open_after, is_transfer, carries}
use Rattle.master.proofs.Tests.{never}
use Rattle.master.proofs.History.Events.{keeps_slot, opens_starts}

module _ (t : List ℕ) where
  -- one more event
  module _ (h : Seq Scheduled) (x : Scheduled) where
    pub open_new : closes x ≡ true → open_after t (h ▹ x) ≡ opens t x
    unfolding open_after
    open_new c = rw c

    pub open_kept : closes x ≡ false → open_after t (h ▹ x) ≡ open_after t h
    unfolding open_after
    open_kept c = rw c

  -- what was opened in the later part is what is open after the whole
  pub open_part : (g h : Seq Scheduled) (f : ℕ) → carries (open_after t h) f ≡ true → open_after t (g ⋈ h) ≡ open_after t h
  unfolding open_after
  open_part g ∅ f o = never o
  open_part g (h ▹ x) f o = whether (closes x) (λ c. rw c) (λ c. rw c (open_part g h f (rw c at o)))

  -- after a moment with no open transfer, the later part says what is open
  pub open_from_idle : (g h : Seq Scheduled) → open_after t g ≡ Nothing → open_after t (g ⋈ h) ≡ open_after t h
  unfolding open_after
  open_from_idle g ∅ n = n
  open_from_idle g (h ▹ x) n = ap (cond (closes x) (opens t x)) (open_from_idle g h n)

  -- where nothing closes, nothing was opened
  pub open_quiet : (h : Seq Scheduled) → Each (λ x. closes x ≡ false) h → open_after t h ≡ Nothing
  unfolding open_after
  open_quiet ∅ q = refl
  open_quiet (h ▹ x) q = open_kept h x q.1 ∙ open_quiet h q.0

  -- what was opened stays open while nothing closes
  pub open_since : (before : Seq Scheduled) (start : Scheduled) (during : Seq Scheduled) → closes start ≡ true → Each (λ x. closes x ≡ false) during
      → open_after t (before ▹ start ⋈ during) ≡ opens t start
  open_since before start ∅ c q = open_new before start c
  open_since before start (during ▹ x) c q = open_kept _ x q.1 ∙ open_since before start during c q.0

  -- what is open in the later part was opened by the slot that was started last there
  pub slot_part : (g h : Seq Scheduled) → is_transfer (open_after t h) ≡ true → slot_after (g ⋈ h) ≡ slot_after h
  unfolding open_after slot_after
  slot_part g ∅ o = never o
  slot_part g (h ▹ x) o =
      whether (closes x)
      (λ c. rw (opens_starts t x (rw c at o)))
      (λ c. rw (keeps_slot x c) (slot_part g h (rw c at o)))

  -- a transfer of f is open after h: where it started
  pub record Started (h : Seq Scheduled) (f : ℕ) : Type 0 where
    pub before : Seq Scheduled
    pub start : Scheduled
    pub during : Seq Scheduled
    pub split : h ≡ before ▹ start ⋈ during
    pub opened : carries (opens t start) f ≡ true
    pub open_on : Each (λ x. closes x ≡ false) during

  still_started : (h : Seq Scheduled) (x : Scheduled) (f : ℕ) → closes x ≡ false → Started h f → Started (h ▹ x) f
  still_started h x f c s = record {
    before = s.before;
    start = s.start;
    during = s.during ▹ x;
    split = ap (λ g. g ▹ x) s.split;
    opened = s.opened;
    open_on = (s.open_on, c);
  }

  pub started : (h : Seq Scheduled) (f : ℕ) → carries (open_after t h) f ≡ true → Started h f
  unfolding open_after
  started ∅ f o = never o
  started (h ▹ x) f o =
      whether (closes x)
      (λ c. record { before = h; start = x; during = ∅; split = refl; opened = rw c at o; open_on = tt })
      (λ c. still_started h x f c (started h f (rw c at o)))
