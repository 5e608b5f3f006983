-- Laws of the pending bits: what a write and a successful transfer do to each of them, and which frame a list opens.
use Prim.Native.Nat.{ℕ, zero, suc, ◌+◌, ◌<◌}
use mathlib.Core.Path.{◌≡◌, refl, ap, sym, ◌∙◌}
use mathlib.Core.Bool.{Bool, true, false, ◌&&◌, ◌||◌}
use mathlib.Core.List.{List, [], ◌∷◌, ◌++◌}
use native.Mathlib.Omega.{arith}
use lib.ListN.{length, get_or, set, length-set, get_or-eq_default}
use lib.Seq.{get_or-set_same, get_or-set_other}
use Rattle.cluster.specs.Values.{touches}
use Rattle.transport.proofs.Tests.{whether, order}
use Rattle.master.specs.declared.state.Opened.{Opened}
use Rattle.master.specs.declared.state.Opened.TheVariants.{Nothing, Frame, Request, Response}
use Rattle.master.specs.Write.{marked_from}
use Rattle.master.specs.Closing.{cleared_bit, pending_sent}
use Rattle.master.specs.Tick.{first_pending}
use Rattle.master.proofs.PendingLength.{marked_length}
use Rattle.master.proofs.Tests.{or_false}

-- ---- a write

module _ (t : List ℕ) (s : ℕ) where
  bit_from : (g i : ℕ) (bits : List Bool) → i < length bits → get_or (marked_from t s g bits) i false ≡ (get_or bits i false || touches t s (g + i))
  unfolding marked_from
  bit_from g i [] h = absurd (omega arith)
  bit_from g zero (bit ∷ bits) h = let e : g + 0 ≡ g = omega arith in rw e
  bit_from g (suc i) (bit ∷ bits) h =
      let e : suc g + i ≡ g + suc i = omega arith in rw e at (bit_from (suc g) i bits (omega arith))

  -- a write sets the bit of each frame that its signal touches, and leaves every other bit
  pub marked_bit : (f : ℕ) (bits : List Bool) → f < length bits → get_or (marked_from t s 0 bits) f false ≡ (get_or bits f false || touches t s f)
  marked_bit f bits h = let e : 0 + f ≡ f = omega arith in rw e at (bit_from 0 f bits h)

  -- a write leaves the bit of a frame that its signal does not touch
  pub marked_only : (f : ℕ) (bits : List Bool) → touches t s f ≡ false → get_or (marked_from t s 0 bits) f false ≡ get_or bits f false
  marked_only f bits n =
      order (length bits) f
      (λ h. get_or-eq_default (marked_from t s 0 bits) false (omega (arith, marked_length t s 0 bits))
      ∙ sym (get_or-eq_default bits false h))
      (λ h. marked_bit f bits h ∙ rw (n, or_false (get_or bits f false)))

-- ---- a successful transfer

-- a successful transfer of a frame ends its pending, unless the frame was written since its opening
pub sent_bit_same : (f : ℕ) (written : Bool) (bits : List Bool) → get_or (pending_sent (Frame f) written bits) f false ≡ (written && get_or bits f false)
unfolding pending_sent cleared_bit
sent_bit_same f true bits = refl
sent_bit_same f false bits =
    order (length bits) f
    (λ h. get_or-eq_default (set bits f false) false (omega (arith, length-set bits f false)))
    (λ h. get_or-set_same bits f false false h)

-- a successful transfer leaves the bit of every other frame
pub sent_bit_other : (o : Opened) (written : Bool) (bits : List Bool) (f : ℕ) → (o ≡ Frame f → ⊥)
    → get_or (pending_sent o written bits) f false ≡ get_or bits f false
unfolding pending_sent cleared_bit
sent_bit_other Nothing written bits f n = refl
sent_bit_other (Frame g) true bits f n = refl
sent_bit_other (Frame g) false bits f n = get_or-set_other bits g f false false (λ e. n (ap Frame (sym e)))
sent_bit_other Request written bits f n = refl
sent_bit_other Response written bits f n = refl

-- ---- the first pending member

-- none of some frames is pending
abbrev pub NonePending : List Bool → List ℕ → Type 0
NonePending bits fs = (i : ℕ) → i < length fs → get_or bits (get_or fs i 0) false ≡ false

-- a frame is pending, and none of those ahead of it
pub record First (bits : List Bool) (fs : List ℕ) (f : ℕ) : Type 0 where
  pub ahead : List ℕ
  pub behind : List ℕ
  pub parts : fs ≡ ahead ++ (f ∷ behind)
  pub none_ahead : NonePending bits ahead
  pub is_pending : get_or bits f false ≡ true

-- none of some frames is pending, nor one more
pub one_none : (bits : List Bool) (g : ℕ) (fs : List ℕ) → get_or bits g false ≡ false → NonePending bits fs → NonePending bits (g ∷ fs)
one_none bits g fs p n zero h = p
one_none bits g fs p n (suc i) h = n i (omega arith)

module _ (bits : List Bool) where
  -- a list is silent: none of its frames is pending
  pub first_pending_none : (fs : List ℕ) → first_pending bits fs ≡ Nothing → NonePending bits fs
  unfolding first_pending
  first_pending_none [] h = λ i b. absurd (omega arith)
  first_pending_none (g ∷ fs) h =
      whether (get_or bits g false)
      (λ y. let q : Frame g ≡ Nothing = rw y at h in let z : ◌≡◌ {A = ℕ} 0 1 = cc in absurd (omega arith))
      (λ n. one_none bits g fs n (first_pending_none fs (rw n at h)))

  -- none of a list's frames is pending: it is silent
  pub none_first_pending : (fs : List ℕ) → NonePending bits fs → first_pending bits fs ≡ Nothing
  unfolding first_pending
  none_first_pending [] h = refl
  none_first_pending (g ∷ fs) h = rw (h 0 (omega arith)) (none_first_pending fs (λ i b. h (suc i) (omega arith)))

  -- a list opens a frame: it is pending, and none of those ahead of it
  pub first_pending_is : (fs : List ℕ) (f : ℕ) → first_pending bits fs ≡ Frame f → First bits fs f
  unfolding first_pending
  first_pending_is [] f h = let z : ◌≡◌ {A = ℕ} 0 1 = cc in absurd (omega arith)
  first_pending_is (g ∷ fs) f h =
      whether (get_or bits g false)
      (λ y. let q : Frame g ≡ Frame f = rw y at h in let e : g ≡ f = cc in
      record { ahead = []; behind = fs; parts = rw e; none_ahead = λ i b. absurd (omega arith); is_pending = rw e at y })
      (λ n. let w = first_pending_is fs f (rw n at h) in
      record {
        ahead = g ∷ w.ahead;
        behind = w.behind;
        parts = ap (λ (r : List ℕ). g ∷ r) w.parts;
        none_ahead = one_none bits g w.ahead n w.none_ahead;
        is_pending = w.is_pending;
      })

  skips : (gs : List ℕ) (f : ℕ) (hs : List ℕ) → NonePending bits gs → get_or bits f false ≡ true → first_pending bits (gs ++ (f ∷ hs)) ≡ Frame f
  unfolding first_pending
  skips [] f hs n p = rw p
  skips (g ∷ gs) f hs n p = rw (n 0 (omega arith)) (skips gs f hs (λ i b. n (suc i) (omega arith)) p)

  -- a frame is pending and none of those ahead of it: the list opens it
  pub first_pending_of : (fs : List ℕ) (f : ℕ) → First bits fs f → first_pending bits fs ≡ Frame f
  first_pending_of fs f w = rw w.parts (skips w.ahead f w.behind w.none_ahead w.is_pending)
