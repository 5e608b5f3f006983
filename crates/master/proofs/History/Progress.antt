-- Progress: while f waits, each success in a slot of its list is that of a frame ahead of it, which then waits no more.
use Prim.Native.Nat.{ℕ, ◌+◌, ◌≤◌, ◌<◌}
use mathlib.Core.Path.{◌≡◌, refl, sym, ◌∙◌}
use mathlib.Core.Logic.{◌⊎◌, inl, inr, ⊎_elim}
use mathlib.Core.Bool.{true, false, ◌&&◌}
use mathlib.Core.List.{List, ◌∷◌, ◌++◌, Memᴰ}
use native.Mathlib.Omega.{arith}
use lib.Dec.{eqb}
use borrow.Author.Tests.{eqb-true, eq-eqb}
use Rattle.cluster.specs.Table.{entry_kind, entry_target}
use Rattle.cluster.specs.Lists.{members}
use Rattle.transport.proofs.Tests.{whether, and_left, and_right}
use Rattle.master.specs.declared.state.Opened.TheVariants.{Nothing, Frame}
use Rattle.master.specs.Seq.{Seq, ∅, ◌▹◌, ◌⋈◌, Each}
use Rattle.master.specs.Schedule.{Slot, none, unscheduled, entry, Scheduled, starts, slot_after, of_list}
use Rattle.master.specs.History.{opens, closes, succeeds, open_after, is_transfer, carries, Succeeded, successes}
use Rattle.master.specs.Claim.{Spares}
use Rattle.master.proofs.Tests.{never}
use Rattle.master.proofs.History.Along.{Along}
use Rattle.master.proofs.History.Events.{keeps_slot, opens_starts, starts_unsent}
use Rattle.master.proofs.History.Opening.{open_new, open_kept, open_from_idle, slot_part}
use Rattle.master.proofs.History.Success.{success_now, success_before}
use Rattle.master.proofs.History.Computed.{rewritten_after, pending_after, pending_wiped, pending_stays, pending_was, unwiped, unwiped_unsent}
use Rattle.master.proofs.History.Computed.{unwiped_open_on, wipes_when, rewritten_new, rewritten_on}
use Rattle.master.proofs.History.First.{first_with, first_reaches}
use Rattle.master.proofs.History.Counting.{count_if, count_le, count_lt}

-- a slot of a list opens the first member that is pending after h
abbrev pub Lawful : List ℕ → Seq Scheduled → Scheduled → Type 0
Lawful t h x =
    (e : ℕ) → starts x ≡ true → x.slot ≡ entry e → entry_kind t e ≡ 1 → opens t x ≡ first_with (pending_after t h) (members t (entry_target t e))

-- a slot of list l is one with an entry of kind 1 and that target
of_list_lem : (t : List ℕ) (s : Slot) (l : ℕ) → of_list t s l ≡ true → (e : ℕ) × (s ≡ entry e) × (entry_kind t e ≡ 1) × (entry_target t e ≡ l)
of_list_lem t none l h = never h
of_list_lem t unscheduled l h = never h
of_list_lem t (entry e) l h =
    let a = eqb (entry_kind t e) 1 in
    let b = eqb (entry_target t e) l in
    (e, refl, eqb-true (entry_kind t e) 1 (and_left a b h), eqb-true (entry_target t e) l (and_right a b h))

-- a transfer of g is due: g is f, or a frame ahead of it that waits after h and was not written since the start
abbrev Due : List ℕ → ℕ → List ℕ → Seq Scheduled → ℕ → Type 0
Due t f ahead h g = (g ≡ f) ⊎ (Memᴰ g ahead × (pending_after t h g ≡ true) × (rewritten_after t h ≡ false))

-- after h and then k, f still waits; each success of list l has taken one of those ahead; and what is open in a slot of l is due
record Waits (t : List ℕ) (h : Seq Scheduled) (l f : ℕ) (ahead : List ℕ) (k : Seq Scheduled) : Type 0 where
  waits : pending_after t (h ⋈ k) f ≡ true
  fewer : count_if (pending_after t (h ⋈ k)) ahead + successes t l k ≤ count_if (pending_after t h) ahead
  due :
      is_transfer (open_after t (h ⋈ k)) ≡ true →
      of_list t (slot_after (h ⋈ k)) l ≡ true →
      (g : ℕ) × (open_after t (h ⋈ k) ≡ Frame g) × Due t f ahead (h ⋈ k) g

-- one more event, which is no success of f
module _ (t : List ℕ) (h : Seq Scheduled) (l f : ℕ) (ahead behind : List ℕ) (idle : open_after t h ≡ Nothing)
    (place : members t l ≡ ahead ++ (f ∷ behind)) (k : Seq Scheduled) (w : Waits t h l f ahead k) (x : Scheduled)
    (lawful : Lawful t (h ⋈ k) x) (spares : Spares t ahead x) (unsent : carries (open_after t k) f ≡ true → succeeds x ≡ true → ⊥) where
  same_open : open_after t (h ⋈ k) ≡ open_after t k
  same_open = open_from_idle t h k idle

  no_more : (g : ℕ) → Memᴰ g ahead → pending_after t (h ⋈ k ▹ x) g ≡ true → pending_after t (h ⋈ k) g ≡ true
  no_more g i p = (pending_was t (h ⋈ k) x g (spares g i) p).1

  -- a success in a slot of l: it is that of a frame ahead, which waits no more
  one_less_at : (g : ℕ) → open_after t (h ⋈ k) ≡ Frame g → Due t f ahead (h ⋈ k) g → succeeds x ≡ true
      → count_if (pending_after t (h ⋈ k ▹ x)) ahead < count_if (pending_after t (h ⋈ k)) ahead
  one_less_at g p d s =
      ⊎_elim
      (λ q. absurd (unsent (rw (← same_open, p) (eq-eqb g f q)) s))
      (λ q. count_lt (pending_after t (h ⋈ k ▹ x)) (pending_after t (h ⋈ k)) ahead g no_more q.0
      (pending_wiped t (h ⋈ k) x g (spares g q.0) (wipes_when t (h ⋈ k) x g s (rw p (eq-eqb g g refl)) q.2))
      q.1)
      d

  one_less : succeeds x ≡ true → (is_transfer (open_after t k) && of_list t (slot_after k) l) ≡ true
      → count_if (pending_after t (h ⋈ k ▹ x)) ahead < count_if (pending_after t (h ⋈ k)) ahead
  one_less s o =
      let a = and_left (is_transfer (open_after t k)) (of_list t (slot_after k) l) o in
      let b = and_right (is_transfer (open_after t k)) (of_list t (slot_after k) l) o in
      let d = w.due (rw same_open a) (rw (slot_part t h k a) b) in
      one_less_at d.0 d.1 d.2 s

  fewer_next : count_if (pending_after t (h ⋈ k ▹ x)) ahead + successes t l (k ▹ x) ≤ count_if (pending_after t h) ahead
  unfolding successes
  fewer_next =
      let as_many = count_le (pending_after t (h ⋈ k ▹ x)) (pending_after t (h ⋈ k)) ahead no_more in
      whether (succeeds x)
      (λ s. whether (is_transfer (open_after t k) && of_list t (slot_after k) l)
      (λ o. rw (s, o) (omega (arith, one_less s o, w.fewer)))
      (λ o. rw (s, o) (omega (arith, as_many, w.fewer))))
      (λ s. rw s (omega (arith, as_many, w.fewer)))

  -- a slot of l that starts takes the first that waits, and f waits
  due_new : closes x ≡ true → is_transfer (opens t x) ≡ true → of_list t (slot_after (h ⋈ k ▹ x)) l ≡ true
      → (g : ℕ) × (opens t x ≡ Frame g) × Due t f ahead (h ⋈ k ▹ x) g
  unfolding slot_after
  due_new c o s =
      let b = opens_starts t x o in
      let e = of_list_lem t x.slot l (rw b at s) in
      let r = first_reaches (pending_after t (h ⋈ k)) ahead behind f w.waits in (
        r.0,
        lawful e.0 b e.1 e.2 ∙ rw (e.3, place) r.1,
        ⊎_elim (λ q. inl q)
            (λ q. inr (q.0, pending_stays t (h ⋈ k) x r.0 (unwiped_unsent t (h ⋈ k) x r.0 (starts_unsent x b)) q.1, rewritten_new t (h ⋈ k) x c))
            r.2,
      )

  due_still : closes x ≡ false → (g : ℕ) → open_after t (h ⋈ k) ≡ Frame g → Due t f ahead (h ⋈ k) g → Due t f ahead (h ⋈ k ▹ x) g
  due_still c g o =
      ⊎_elim (λ q. inl q)
      (λ q. inr (q.0, pending_stays t (h ⋈ k) x g (unwiped_open_on t (h ⋈ k) x g c) q.1, rw (rewritten_on t (h ⋈ k) x c, o, spares g q.0, q.2)))

  due_next : is_transfer (open_after t (h ⋈ k ▹ x)) ≡ true → of_list t (slot_after (h ⋈ k ▹ x)) l ≡ true
      → (g : ℕ) × (open_after t (h ⋈ k ▹ x) ≡ Frame g) × Due t f ahead (h ⋈ k ▹ x) g
  unfolding slot_after
  due_next o s =
      whether (closes x)
      (λ c. let q = open_new t (h ⋈ k) x c in let d = due_new c (rw q at o) s in (d.0, q ∙ d.1, d.2))
      (λ c.
      let q = open_kept t (h ⋈ k) x c in
      let d = w.due (rw q at o) (rw (keeps_slot x c) at s) in
      (d.0, q ∙ d.1, due_still c d.0 d.1 d.2))

  waits_next : Waits t h l f ahead (k ▹ x)
  waits_next = record {
    waits = pending_stays t (h ⋈ k) x f (unwiped t (h ⋈ k) x f (λ z. unsent (rw same_open at z.1) z.0)) w.waits;
    fewer = fewer_next;
    due = due_next;
  }

module _ (t : List ℕ) (h : Seq Scheduled) (l f : ℕ) (ahead behind : List ℕ) (idle : open_after t h ≡ Nothing)
    (place : members t l ≡ ahead ++ (f ∷ behind)) (p : pending_after t h f ≡ true) where
  waits_first : Waits t h l f ahead ∅
  unfolding successes
  waits_first = record {
    waits = p;
    fewer = omega arith;
    due = λ o s. never (rw idle at o);
  }

  sent_or_waits : (k : Seq Scheduled) → Along (Lawful t) (h ⋈ k) → Each (Spares t ahead) k → Succeeded t k f ⊎ Waits t h l f ahead k
  sent_or_waits ∅ a u = inr waits_first
  sent_or_waits (k ▹ x) a u =
      ⊎_elim
      (λ s. inl (success_before t k x f s))
      (λ w.
      let next = waits_next t h l f ahead behind idle place k w x a.1 u.1 in
      whether (succeeds x)
      (λ s. whether (carries (open_after t k) f)
      (λ o. inl (success_now t k x f o s))
      (λ o. inr (next (λ y z. never (sym o ∙ y)))))
      (λ s. inr (next (λ y z. never (sym s ∙ z)))))
      (sent_or_waits k a.0 u.0)

  -- f is sent once the list has had more successes than frames were pending ahead of f
  pub sent_in_time : (k : Seq Scheduled) → Along (Lawful t) (h ⋈ k) → Each (Spares t ahead) k →
      count_if (pending_after t h) ahead < successes t l k → Succeeded t k f
  sent_in_time k a u n = ⊎_elim (λ s. s) (λ w. absurd (omega (arith, w.fewer))) (sent_or_waits k a u)
