-- What a history says of the pending bits, computed event by event: a device of the proofs, between the state and the definitions of specs/History.antt.
use Prim.Native.Nat.{ℕ}
use mathlib.Core.Path.{◌≡◌, refl, sym, ◌∙◌}
use mathlib.Core.Bool.{Bool, true, false, cond, not, ◌&&◌, ◌||◌}
use mathlib.Core.List.{List}
use borrow.Author.Tests.{eqb-true}
use Rattle.transport.proofs.Tests.{whether}
use Rattle.master.specs.declared.state.Opened.{Opened}
use Rattle.master.specs.declared.state.Opened.TheVariants.{Nothing, Frame, Request, Response}
use Rattle.master.specs.Seq.{Seq, ∅, ◌▹◌}
use Rattle.master.specs.Schedule.{Scheduled}
use Rattle.master.specs.History.{writes, closes, succeeds, open_after, carries}
use Rattle.master.proofs.Tests.{never}
use Rattle.master.proofs.History.Events.{keeps_unsent}
use Rattle.master.proofs.History.Opening.{open_kept}

-- the event wrote the frame of the transfer
abbrev pub hits : List ℕ → Opened → Scheduled → Bool
hits t Nothing x = false
hits t (Frame f) x = writes t x f
hits t Request x = false
hits t Response x = false

-- the frame of the open transfer was written since its start
unfoldable pub rewritten_after : List ℕ → Seq Scheduled → Bool
rewritten_after t ∅ = false
rewritten_after t (h ▹ x) = cond (closes x) false (rewritten_after t h || hits t (open_after t h) x)

-- after h the event x ends the pending of f
unfoldable pub wipes : List ℕ → Seq Scheduled → Scheduled → ℕ → Bool
wipes t h x f = succeeds x && (carries (open_after t h) f && not (rewritten_after t h))

unfoldable pub pending_after : List ℕ → Seq Scheduled → ℕ → Bool
pending_after t ∅ f = false
pending_after t (h ▹ x) f = writes t x f || cond (wipes t h x f) false (pending_after t h f)

pub hits_carried : (t : List ℕ) (o : Opened) (x : Scheduled) (f : ℕ) → carries o f ≡ true → hits t o x ≡ writes t x f
hits_carried t Nothing x f c = never c
hits_carried t (Frame g) x f c = rw (eqb-true g f c)
hits_carried t Request x f c = never c
hits_carried t Response x f c = never c

module _ (t : List ℕ) (h : Seq Scheduled) (x : Scheduled) where
  pub rewritten_new : closes x ≡ true → rewritten_after t (h ▹ x) ≡ false
  unfolding rewritten_after
  rewritten_new c = rw c

  pub rewritten_on : closes x ≡ false → rewritten_after t (h ▹ x) ≡ (rewritten_after t h || hits t (open_after t h) x)
  unfolding rewritten_after
  rewritten_on c = rw c

-- where nothing is open, nothing was written since
pub rewritten_closed : (t : List ℕ) (h : Seq Scheduled) → open_after t h ≡ Nothing → rewritten_after t h ≡ false
unfolding rewritten_after
rewritten_closed t ∅ n = refl
rewritten_closed t (h ▹ x) n =
    whether (closes x)
    (λ c. rw c)
    (λ c. let o = sym (open_kept t h x c) ∙ n in rw (c, o, rewritten_closed t h o))

module _ (t : List ℕ) (h : Seq Scheduled) (x : Scheduled) (f : ℕ) where
  -- what wipes, and what does not
  pub wipes_when : succeeds x ≡ true → carries (open_after t h) f ≡ true → rewritten_after t h ≡ false → wipes t h x f ≡ true
  unfolding wipes
  wipes_when s o r = rw (s, o, r)

  pub wiped_by : wipes t h x f ≡ true → (succeeds x ≡ true) × (carries (open_after t h) f ≡ true) × (rewritten_after t h ≡ false)
  unfolding wipes
  wiped_by = go (succeeds x) (carries (open_after t h) f) (rewritten_after t h)
    where
      go : (s o r : Bool) → (s && (o && not r)) ≡ true → (s ≡ true) × (o ≡ true) × (r ≡ false)
      go true true true z = never z
      go true true false z = (refl, refl, refl)
      go true false r z = never z
      go false o r z = never z

  pub unwiped : ((succeeds x ≡ true) × (carries (open_after t h) f ≡ true) × (rewritten_after t h ≡ false) → ⊥) → wipes t h x f ≡ false
  unwiped n = whether (wipes t h x f) (λ z. absurd (n (wiped_by z))) (λ z. z)

  pub unwiped_unsent : succeeds x ≡ false → wipes t h x f ≡ false
  unwiped_unsent s = unwiped (λ w. never (sym s ∙ w.0))

  pub unwiped_open_on : closes x ≡ false → wipes t h x f ≡ false
  unwiped_open_on c = unwiped_unsent (keeps_unsent x c)

  pub unwiped_elsewhere : carries (open_after t h) f ≡ false → wipes t h x f ≡ false
  unwiped_elsewhere o = unwiped (λ w. never (sym o ∙ w.1))

  pub unwiped_rewritten : rewritten_after t h ≡ true → wipes t h x f ≡ false
  unwiped_rewritten r = unwiped (λ w. never (sym w.2 ∙ r))

  -- the bit after one more event
  pub pending_wrote : writes t x f ≡ true → pending_after t (h ▹ x) f ≡ true
  unfolding pending_after
  pending_wrote w = rw w

  pub pending_wiped : writes t x f ≡ false → wipes t h x f ≡ true → pending_after t (h ▹ x) f ≡ false
  unfolding pending_after
  pending_wiped w z = rw (w, z)

  pub pending_kept : writes t x f ≡ false → wipes t h x f ≡ false → pending_after t (h ▹ x) f ≡ pending_after t h f
  unfolding pending_after
  pending_kept w z = rw (w, z)

  pub pending_stays : wipes t h x f ≡ false → pending_after t h f ≡ true → pending_after t (h ▹ x) f ≡ true
  pending_stays z p = whether (writes t x f) pending_wrote (λ w. pending_kept w z ∙ p)

  pub pending_was : writes t x f ≡ false → pending_after t (h ▹ x) f ≡ true → (wipes t h x f ≡ false) × (pending_after t h f ≡ true)
  pending_was w p = whether (wipes t h x f) (λ z. never (sym (pending_wiped w z) ∙ p)) (λ z. (z, sym (pending_kept w z) ∙ p))
