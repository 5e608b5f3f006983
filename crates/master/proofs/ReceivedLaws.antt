-- Laws of the receptions: when they fit, and what a success sets of each signal.
use Prim.Native.Nat.{ℕ, zero, suc, ◌+◌, ◌≤◌, ◌<◌}
use mathlib.Core.Path.{◌≡◌, refl, sym, ◌∙◌, ap}
use mathlib.Core.Bool.{true, false, cond}
use mathlib.Core.List.{List, [], ◌∷◌}
use native.Mathlib.Decide.{ℕ_discrete}
use native.Mathlib.Omega.{arith}
use borrow.Author.Tests.{lt-ltb, eq-eqb, ne_eqb, eqb-true, eqb-false}
use lib.Dec.{eqb}
use lib.ListN.{length, set, replicate, length-set, get_or-replicate, get_or-eq_default}
use lib.Seq.{get_or-set_same, get_or-set_other}
use Rattle.wire.proofs.Tests.{and_left, and_right}
use Rattle.cluster.specs.Check.{RightTable}
use Rattle.cluster.specs.Table.{signal_count, published, placement_count, placement_signal, placement_frame}
use Rattle.cluster.specs.Values.{touches, placement_in}
use Rattle.cluster.proofs.PlacementLaws.{placement_signal_below, one_a_frame, in_touched}
use Rattle.cluster.proofs.SomePlacement.{Of, some_none}
use Rattle.transport.proofs.Tests.{whether, order}
use Rattle.master.specs.declared.state.Opened.{Opened}
use Rattle.master.specs.declared.state.Opened.TheVariants.{Nothing, Frame, Request, Response}
use Rattle.master.specs.declared.state.Reception.{Reception}
use Rattle.master.specs.Fresh.{never_received}
use Rattle.master.specs.Received.{reception_of, last_of, received_up_to, received_by, last_fits, received_fits}
use Rattle.master.specs.Transfers.{format_of, sends}
use Rattle.master.proofs.Tests.{and_true}
use Rattle.std.specs.Prelude.{Some, None}

-- ---- one of them set

pub set_last : (rs : List Reception) (s k x : ℕ) → s < length rs → last_of (set rs s (reception_of k)) x ≡ cond (eqb s x) (Some k) (last_of rs x)
unfolding last_of
set_last rs s k x h =
    elim (ℕ_discrete x s) [
      | yes e ↦ rw (e, eq-eqb s s refl) (ap (λ (r : Reception). r.last) (get_or-set_same rs s (reception_of k) never_received h))
      | no d ↦ rw (ne_eqb s x (λ e. d (sym e))) (ap (λ (r : Reception). r.last) (get_or-set_other rs s x (reception_of k) never_received d))
    ]

set_kept : (rs : List Reception) (s k x : ℕ) → (s ≡ x → ⊥) → last_of (set rs s (reception_of k)) x ≡ last_of rs x
unfolding last_of
set_kept rs s k x d = ap (λ (r : Reception). r.last) (get_or-set_other rs s x (reception_of k) never_received (λ e. d (sym e)))

module _ (t : List ℕ) where
  -- ---- when they fit

  -- each of some receptions that fit fits
  pub fits_at : (s i : ℕ) (rs : List Reception) → received_fits t s rs ≡ true → last_fits t (s + i) (last_of rs i) ≡ true
  unfolding received_fits last_fits last_of
  fits_at s i [] h = refl
  fits_at s zero (r ∷ rs) h =
      let e : s + 0 ≡ s = omega arith in rw e (and_left (last_fits t s r.last) (received_fits t (suc s) rs) h)
  fits_at s (suc i) (r ∷ rs) h =
      let e : suc s + i ≡ s + suc i = omega arith in
      rw e at (fits_at (suc s) i rs (and_right (last_fits t s r.last) (received_fits t (suc s) rs) h))

  -- and back
  pub at_fits : (s : ℕ) (rs : List Reception) → ((i : ℕ) → i < length rs → last_fits t (s + i) (last_of rs i) ≡ true) → received_fits t s rs ≡ true
  unfolding received_fits last_of
  at_fits s [] h = refl
  at_fits s (r ∷ rs) h =
      let e : s + 0 ≡ s = omega arith in
      and_true (last_fits t s r.last) (received_fits t (suc s) rs) (rw e at (h 0 (omega arith)))
      (at_fits (suc s) rs (λ i b. let q : s + suc i ≡ suc s + i = omega arith in rw q at (h (suc i) (omega arith))))

  -- none received
  pub never_fits : (s n : ℕ) → received_fits t s (replicate n never_received) ≡ true
  unfolding received_fits last_fits
  never_fits s zero = refl
  never_fits s (suc n) = never_fits (suc s) n

  pub never_last : (n s : ℕ) → last_of (replicate n never_received) s ≡ None
  unfolding last_of
  never_last n s =
      order n s
      (λ b. ap (λ (r : Reception). r.last) (get_or-eq_default (replicate n never_received) never_received {n = s} (omega (arith, length_never n))))
      (λ b. ap (λ (r : Reception). r.last) (get_or-replicate n s never_received never_received b))
    where
      length_never : (n : ℕ) → length (replicate n never_received) ≡ n
      length_never zero = refl
      length_never (suc n) = ap suc (length_never n)

  -- ---- a success of a frame

  module _ (f : ℕ) where
    pub up_to_length : (n : ℕ) (rs : List Reception) → length (received_up_to t f n rs) ≡ length rs
    unfolding received_up_to
    up_to_length zero rs = refl
    up_to_length (suc n) rs =
        whether (eqb (placement_frame t n) f)
        (λ y. rw y (length-set (received_up_to t f n rs) (placement_signal t n) (reception_of n) ∙ up_to_length n rs))
        (λ z. rw z (up_to_length n rs))

    -- a signal that none of the placements in the frame is of keeps its own
    pub up_to_other : (n : ℕ) (rs : List Reception) (s : ℕ) → ((k : ℕ) → k < n → placement_frame t k ≡ f → placement_signal t k ≡ s → ⊥)
        → last_of (received_up_to t f n rs) s ≡ last_of rs s
    unfolding received_up_to
    up_to_other zero rs s none = refl
    up_to_other (suc n) rs s none =
        whether (eqb (placement_frame t n) f)
        (λ y. rw y (kept n rs s (λ e. none n (omega arith) (eqb-true (placement_frame t n) f y) e)
        ∙ up_to_other n rs s (λ k b. none k (omega arith))))
        (λ z. rw z (up_to_other n rs s (λ k b. none k (omega arith))))
      where
        kept : (n : ℕ) (rs : List Reception) (s : ℕ) → (placement_signal t n ≡ s → ⊥)
            → last_of (set (received_up_to t f n rs) (placement_signal t n) (reception_of n)) s ≡ last_of (received_up_to t f n rs) s
        kept n rs s d = set_kept (received_up_to t f n rs) (placement_signal t n) n s d

  -- a frame that a signal does not touch has no placement of it
  pub not_touched : (s f : ℕ) → touches t s f ≡ false → (k : ℕ) → k < placement_count t → placement_frame t k ≡ f → placement_signal t k ≡ s → ⊥
  unfolding touches
  not_touched s f n k b e q =
      eqb-false (placement_frame t k) f (some_none t s (λ j. eqb (placement_frame t j) f) n k (record { there = b; is = q })) e

  -- a placement that is not in a published frame may be received
  may_receive : RightTable t → (k : ℕ) → k < placement_count t → published t (placement_frame t k) ≡ false → last_fits t (placement_signal t k) (Some k) ≡ true
  unfolding last_fits
  may_receive ok k h p =
      rw (
        lt-ltb (placement_signal t k) (signal_count t) (placement_signal_below t ok k h),
        lt-ltb k (placement_count t) h,
        eq-eqb (placement_signal t k) (placement_signal t k) refl,
        p,
      )

  set_fits : RightTable t → (k : ℕ) (rs : List Reception) → k < placement_count t → published t (placement_frame t k) ≡ false → received_fits t 0 rs ≡ true
      → received_fits t 0 (set rs (placement_signal t k) (reception_of k)) ≡ true
  set_fits ok k rs h p fits =
      at_fits 0 (set rs (placement_signal t k) (reception_of k)) (λ i b. each i (omega (arith, length-set rs (placement_signal t k) (reception_of k))))
    where
      each : (i : ℕ) → i < length rs → last_fits t (0 + i) (last_of (set rs (placement_signal t k) (reception_of k)) i) ≡ true
      each i b =
          elim (ℕ_discrete (placement_signal t k) i) [
            | yes e ↦
                let z : 0 + i ≡ placement_signal t k = omega arith in
                rw (z, set_last rs (placement_signal t k) k i (omega arith), eq-eqb (placement_signal t k) i e) (may_receive ok k h p)
            | no d ↦ rw (set_kept rs (placement_signal t k) k i d) (fits_at 0 i rs fits)
          ]

  module _ (ok : RightTable t) (f : ℕ) where
    -- the placement of a signal in the frame is the one received last
    up_to_own : (n : ℕ) (rs : List Reception) → n ≤ placement_count t → (s k : ℕ) → Of t s k → k < n → placement_frame t k ≡ f → s < length rs
        → last_of (received_up_to t f n rs) s ≡ Some k
    unfolding received_up_to
    up_to_own zero rs a s k o b e l = absurd (omega arith)
    up_to_own (suc n) rs a s k o b e l =
        elim (ℕ_discrete n k) [
          | yes q ↦ rw (q, eq-eqb (placement_frame t k) f e, o.is)
              (set_last (received_up_to t f k rs) s k s (omega (arith, up_to_length f k rs)) ∙ rw (eq-eqb s s refl))
          | no d ↦ whether (eqb (placement_frame t n) f)
              (λ y. rw y (set_kept (received_up_to t f n rs) (placement_signal t n) n s
              (λ q. d (one_a_frame t ok s n k (record { there = omega arith; is = q }) o (eqb-true (placement_frame t n) f y ∙ sym e)))
              ∙ up_to_own n rs (omega arith) s k o (omega arith) e l))
              (λ z. rw z (up_to_own n rs (omega arith) s k o (omega arith) e l))
        ]

    -- of every signal, by the frames that it touches
    pub frame_received : (rs : List Reception) (s : ℕ) → signal_count t ≤ length rs
        → last_of (received_up_to t f (placement_count t) rs) s ≡ cond (touches t s f) (Some (placement_in t s f)) (last_of rs s)
    frame_received rs s l =
        whether (touches t s f)
        (λ y. let w = in_touched t ok s f y in
        rw y (up_to_own (placement_count t) rs (omega arith) s (placement_in t s f) w.0 w.0.there w.1
        (omega (arith, rw w.0.is at (placement_signal_below t ok (placement_in t s f) w.0.there)))))
        (λ n. rw n (up_to_other f (placement_count t) rs s (λ k b e q. untouched s n k b e q)))
      where
        untouched : (s : ℕ) → touches t s f ≡ false → (k : ℕ) → k < placement_count t → placement_frame t k ≡ f → placement_signal t k ≡ s → ⊥
        untouched s n k b e q = not_touched s f n k b e q

    -- the receptions fit after a success of a frame that is not published
    pub frame_fits : published t f ≡ false → (n : ℕ) (rs : List Reception) → n ≤ placement_count t → received_fits t 0 rs ≡ true
        → received_fits t 0 (received_up_to t f n rs) ≡ true
    unfolding received_up_to
    frame_fits p zero rs a h = h
    frame_fits p (suc n) rs a h =
        whether (eqb (placement_frame t n) f)
        (λ y. rw y (one_more n rs a (eqb-true (placement_frame t n) f y) p (frame_fits p n rs (omega arith) h)))
        (λ z. rw z (frame_fits p n rs (omega arith) h))
      where
        one_more : (n : ℕ) (rs : List Reception) → suc n ≤ placement_count t → placement_frame t n ≡ f → published t f ≡ false
            → received_fits t 0 (received_up_to t f n rs) ≡ true
            → received_fits t 0 (set (received_up_to t f n rs) (placement_signal t n) (reception_of n)) ≡ true
        one_more n rs a e p h = set_fits ok n (received_up_to t f n rs) (omega arith) (rw e p) h

  -- ---- a success of a transfer

  pub received_length : (o : Opened) (rs : List Reception) → length (received_by t o rs) ≡ length rs
  unfolding received_by
  received_length Nothing rs = refl
  received_length (Frame f) rs = up_to_length f (placement_count t) rs
  received_length Request rs = refl
  received_length Response rs = refl

  pub by_fits : RightTable t → (o : Opened) (rs : List Reception) → sends t o ≡ false → received_fits t 0 rs ≡ true → received_fits t 0 (received_by t o rs) ≡ true
  unfolding received_by format_of
  by_fits ok Nothing rs n h = h
  by_fits ok (Frame f) rs n h = frame_fits ok f n (placement_count t) rs (omega arith) h
  by_fits ok Request rs n h = h
  by_fits ok Response rs n h = h
