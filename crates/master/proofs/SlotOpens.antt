-- The entry due at a slot is there, and what the slot opens is what the entry can open.
use Prim.Native.Nat.{ℕ, suc, ◌<◌}
use mathlib.Core.Path.{◌≡◌, refl}
use mathlib.Core.Bool.{Bool, true, false, cond}
use mathlib.Core.List.{List, [], ◌∷◌}
use native.Mathlib.Omega.{arith}
use borrow.Author.Tests.{ltb-true, lt-ltb, eqb-true, eqb-false, eq-eqb}
use lib.Dec.{eqb}
use lib.ListN.{length, get_or}
use Rattle.cluster.specs.Check.{RightTable}
use Rattle.cluster.specs.Table.{frame_count, entry_count, schedule_count, entry_kind, entry_target}
use Rattle.cluster.specs.Lists.{members, first_entry, next_entry}
use Rattle.cluster.proofs.EntryLaws.{entry_kind_high, frame_target}
use Rattle.cluster.proofs.ListLaws.{listed_below}
use Rattle.cluster.proofs.ScheduleLaws.{first_entry_below, next_entry_below}
use Rattle.transport.proofs.Tests.{whether}
use Rattle.master.specs.declared.state.Opened.{Opened}
use Rattle.master.specs.declared.state.Opened.TheVariants.{Nothing, Frame, Request, Response}
use Rattle.master.specs.declared.state.Message.{Message}
use Rattle.master.specs.Fits.{entry_there, schedule_there, frame_there, is_sending, entry_opens}
use Rattle.cluster.specs.Lists.{is_one_of}
use Rattle.master.specs.Plan.{entry_due}
use Rattle.master.specs.Tick.{first_pending, slot_opens}
use Rattle.std.specs.Prelude.{Some, None, Option}

-- an entry that is there is one of the table's
pub entry_below : (t : List ℕ) (e : ℕ) → entry_there t (Some e) ≡ true → e < entry_count t
entry_below t e h = ltb-true e (entry_count t) h

-- ---- what a slot opens

-- the first pending frame is one of those asked for
first_one : (bits : List Bool) (f : ℕ) (fs : List ℕ) → first_pending bits fs ≡ Frame f → is_one_of f fs ≡ true
unfolding first_pending is_one_of
first_one bits f [] h = cc
first_one bits f (g ∷ fs) h =
    whether (get_or bits g false)
    (λ y. let q : Frame g ≡ Frame f = rw y at h in let e : g ≡ f = cc in rw (eq-eqb g f e))
    (λ n. whether (eqb g f) (λ y. rw y) (λ m. rw m (first_one bits f fs (rw n at h))))

-- one of some numbers below a limit is below it
one_below : (n f : ℕ) (fs : List ℕ) → ((i : ℕ) → i < length fs → get_or fs i 0 < n) → is_one_of f fs ≡ true → f < n
unfolding is_one_of
one_below n f [] b h = let z : ◌≡◌ {A = ℕ} 0 1 = cc in absurd (omega arith)
one_below n f (g ∷ fs) b h =
    whether (eqb g f)
    (λ y. rw (eqb-true g f y) at (b 0 (omega arith)))
    (λ m. one_below n f fs (λ i k. b (suc i) (omega arith)) (rw m at h))

-- only frames and nothing are first pending
first_kind : (bits : List Bool) (fs : List ℕ) → (P : Opened → Type 0) → P Nothing → ((f : ℕ) → first_pending bits fs ≡ Frame f → P (Frame f))
    → P (first_pending bits fs)
unfolding first_pending
first_kind bits [] P none some = none
first_kind bits (g ∷ fs) P none some =
    whether (get_or bits g false)
    (λ y. rw y (some g (rw y)))
    (λ n. rw n (first_kind bits fs P none (λ f e. some f (rw n e))))

-- an entry of the table can open what its slot opens
pub record Opens (t : List ℕ) (x : Message) (e : ℕ) (o : Opened) : Type 0 where
  pub frame_there_lem : frame_there t o ≡ true
  pub can_open_lem : entry_opens t x e o ≡ true

module _ (t : List ℕ) (ok : RightTable t) where
  module _ (bits : List Bool) (x : Message) (e : ℕ) (h : e < entry_count t) where
    frame_opens : eqb (entry_kind t e) 0 ≡ true → Opens t x e (Frame (entry_target t e))
    unfolding entry_opens
    frame_opens k = record {
      frame_there_lem = lt-ltb (entry_target t e) (frame_count t) (frame_target t ok e h (eqb-true (entry_kind t e) 0 k));
      can_open_lem = rw k (eq-eqb (entry_target t e) (entry_target t e) refl);
    }

    list_opens : eqb (entry_kind t e) 0 ≡ false → eqb (entry_kind t e) 1 ≡ true → Opens t x e (first_pending bits (members t (entry_target t e)))
    unfolding entry_opens
    list_opens k l =
        let fs = members t (entry_target t e) in
        first_kind bits fs (λ o. Opens t x e o)
        (record { frame_there_lem = refl; can_open_lem = refl })
        (λ f p. let one = first_one bits f fs p in record {
          frame_there_lem = lt-ltb f (frame_count t) (one_below (frame_count t) f fs (listed_below t ok (entry_target t e)) one);
          can_open_lem = rw (k, l) one;
        })

    request_opens : eqb (entry_kind t e) 2 ≡ true → Opens t x e (cond (is_sending x) Request Nothing)
    unfolding entry_opens
    request_opens k =
        whether (is_sending x)
        (λ y. rw y (record { frame_there_lem = refl; can_open_lem = rw (k, y) }))
        (λ n. rw n (record { frame_there_lem = refl; can_open_lem = refl }))

    response_opens : eqb (entry_kind t e) 0 ≡ false → eqb (entry_kind t e) 1 ≡ false → eqb (entry_kind t e) 2 ≡ false → Opens t x e Response
    unfolding entry_opens
    response_opens k l m = record {
      frame_there_lem = refl;
      can_open_lem = eq-eqb (entry_kind t e) 3 (three (eqb-false (entry_kind t e) 0 k) (eqb-false (entry_kind t e) 1 l) (eqb-false (entry_kind t e) 2 m));
    }
      where
        three : (entry_kind t e ≡ 0 → ⊥) → (entry_kind t e ≡ 1 → ⊥) → (entry_kind t e ≡ 2 → ⊥) → entry_kind t e ≡ 3
        three a b c = omega (arith, entry_kind_high t ok e h)

    -- what a slot opens is what its entry can open
    pub slot_opens_lem : Opens t x e (slot_opens t bits x e)
    unfolding slot_opens
    slot_opens_lem =
        whether (eqb (entry_kind t e) 0) (λ k. rw k (frame_opens k))
        (λ k. whether (eqb (entry_kind t e) 1) (λ l. rw (k, l) (list_opens k l))
        (λ l. whether (eqb (entry_kind t e) 2) (λ m. rw (k, l, m) (request_opens m))
        (λ m. rw (k, l, m) (response_opens k l m))))

  -- ---- the entry due

  -- the entry due is there
  pub due_there : (r : Option ℕ) (c : Option ℕ) → schedule_there t r ≡ true → entry_there t c ≡ true → entry_there t (entry_due t r c) ≡ true
  due_there (Some n) c h k =
      lt-ltb (first_entry t n) (entry_count t) (first_entry_below t ok n (ltb-true n (schedule_count t) h))
  due_there None None h k = k
  due_there None (Some e) h k =
      lt-ltb (next_entry t e) (entry_count t) (next_entry_below t ok e (ltb-true e (entry_count t) k))
