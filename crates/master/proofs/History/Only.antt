-- Part (f) leaves no choice: of every call after every history, what the core answers is the only answer that `Replies` takes. The claim's proof uses none of this.
use Prim.Native.Nat.{ℕ, ◌≤◌, ◌<◌}
use mathlib.Core.Path.{◌≡◌, refl, sym, ap, subst, ◌∙◌}
use mathlib.Core.Logic.{◌↔◌, ⊎_elim}
use mathlib.Core.Bool.{false, cond}
use mathlib.Core.List.Memᴰ
use mathlib.Core.List.{List, [], ◌∷◌, ◌++◌, Memᴰ}
use native.Mathlib.Decide.{ℕ_discrete}
use native.Mathlib.Omega.{arith}
use lib.Dec.{ltb}
use lib.ListN.{length, replicate, length-replicate}
use borrow.Author.Tests.{ltb-true, ltb-false}
use Rattle.wire.specs.Identifier.{protected_byte}
use Rattle.cluster.specs.Check.{RightTable}
use Rattle.cluster.specs.Table.{identifier, member_count, member_list, entry_count, entry_kind, entry_target}
use Rattle.cluster.specs.Lists.{members}
use Rattle.cluster.proofs.EntryLaws.{entry_kind_high}
use Rattle.transport.proofs.Tests.{whether}
use Rattle.master.specs.declared.tick.TickAnswer.TheVariants.{Opened}
use Rattle.master.specs.Start.{fresh_of}
use Rattle.master.specs.Plan.{waits, entry_due}
use Rattle.cluster.specs.Lists.{member_of, frames_ahead}
use Rattle.master.specs.Seq.{Seq, ∅, ◌▹◌}
use Rattle.master.specs.Calls as call
use Rattle.master.specs.Calls.{Call, Answer, Event, ◌⇒◌}
use Rattle.master.specs.Run.{Held, answer_of, held_after, history_of}
use Rattle.master.specs.Schedule.{Slot, none, unscheduled, entry, Scheduled, slot_due, plan_after}
use Rattle.master.specs.History.{Pending}
use Rattle.master.specs.Answering.{message_after}
use Rattle.master.specs.Replies.{Takes, takes, leaves, EntryReply, SlotReply, lent_right, TickReply, AheadReply, Replies}
use Rattle.master.specs.Claim.{record_of, calls_of, Meets}
use Rattle.master.specs.Admit.{buffer_size}
use Rattle.cluster.proofs.TakenLaws.{right_taken}
use Rattle.master.proofs.Admitted.{fits_clauses}
use Rattle.cluster.proofs.MemberOf.{ahead_parts, listed_member}
use Rattle.master.proofs.SlotOpens.{due_there, entry_below}
use Rattle.master.proofs.History.Computed.{pending_after}
use Rattle.master.proofs.History.PendingLaw.{pending_iff}
use Rattle.master.proofs.History.Counting.{count_is}
use Rattle.master.proofs.History.Words.{slot_with, slot_due_lem}
use Rattle.master.proofs.History.Agrees.{Agrees}
use Rattle.master.proofs.History.Steps.{steps}
use Rattle.master.proofs.History.Runs.{fresh_taken, table_taken, fresh_table, agrees}
use Rattle.std.specs.Prelude.{Ok}
use Rattle.master.specs.Calls.{AheadAnswer}
use Rattle.master.specs.Calls.{TickResult}
use Rattle.std.specs.Prelude.{Some, None, Option}

-- ---- a list slot

-- the first of a list with P is one
first_one : (P : ℕ → Type 0) (us : List ℕ) (f : ℕ) (bs cs : List ℕ) (g : ℕ) (ds : List ℕ) → us ++ (f ∷ bs) ≡ cs ++ (g ∷ ds)
    → ((k : ℕ) → Memᴰ k us → ¬ P k) → ((k : ℕ) → Memᴰ k cs → ¬ P k) → P f → P g → f ≡ g
first_one P [] f bs [] g ds e n m x y = cc
first_one P [] f bs (k ∷ cs) g ds e n m x y = let i : f ≡ k = cc in absurd (m f (Memᴰ.head i) x)
first_one P (k ∷ us) f bs [] g ds e n m x y = let i : g ≡ k = cc in absurd (n g (Memᴰ.head i) y)
first_one P (k ∷ us) f bs (l ∷ cs) g ds e n m x y =
    let i : us ++ (f ∷ bs) ≡ cs ++ (g ∷ ds) = cc in
    first_one P us f bs cs g ds i (λ j w. n j (Memᴰ.tail w)) (λ j w. m j (Memᴰ.tail w)) x y

-- so its answer is one
takes_one : (t : List ℕ) (P : ℕ → Type 0) (fs : List ℕ) {a b : TickResult} → Takes t P fs a → Takes t P fs b → a ≡ b
takes_one t P fs (takes us bs f e n x) (takes cs ds g q m y) = ap (λ k. Ok (Opened (protected_byte (identifier t k)))) (first_one P us f bs cs g ds (sym e ∙ q) n m x y)
takes_one t P fs (takes us bs f e n x) (leaves m) = absurd (m f (subst (λ gs. Memᴰ f gs) (sym e) (Memᴰ.append_right us (Memᴰ.head refl))) x)
takes_one t P fs (leaves n) (takes cs ds g q m y) = absurd (n g (subst (λ gs. Memᴰ g gs) (sym q) (Memᴰ.append_right cs (Memᴰ.head refl))) y)
takes_one t P fs (leaves n) (leaves m) = refl

-- ---- number ahead

-- a frame of a list stands somewhere in it
stands : (f : ℕ) (fs : List ℕ) → Memᴰ f fs → (us : List ℕ) × (bs : List ℕ) × (fs ≡ us ++ (f ∷ bs))
stands f [] i = absurd (Memᴰ.not-nil i)
stands f (g ∷ fs) i =
    ⊎_elim
    (λ e. ([], fs, rw e))
    (λ j. let r = stands f fs j in (g ∷ r.0, r.1, ap (λ (k : List ℕ). g ∷ k) r.2))
    (Memᴰ.cases_cons i)

ahead_one : (t : List ℕ) → RightTable t → (h : Seq Scheduled) (f : ℕ) (a b : AheadAnswer) → AheadReply t h f a → AheadReply t h f b → a ≡ b
ahead_one t ok h f a b x y =
    whether (ltb (member_of t f) (member_count t))
    (λ l.
    let p = ahead_parts t f (ltb-true (member_of t f) (member_count t) l) in
    let u = x.listed (member_list t (member_of t f)) (frames_ahead t f) p.0 p.1 in
    let v = y.listed (member_list t (member_of t f)) (frames_ahead t f) p.0 p.1 in
    let same : u.0 ≡ v.0 =
    sym (count_is (pending_after t h) (Pending t h) (pending_iff t h) u.2) ∙ count_is (pending_after t h) (Pending t h) (pending_iff t h) v.2 in
    u.1 ∙ ap Ok same ∙ sym v.1)
    (λ l. x.unlisted (nowhere l) ∙ sym (y.unlisted (nowhere l)))
  where
    nowhere : ltb (member_of t f) (member_count t) ≡ false → (l : ℕ) → ¬ Memᴰ f (members t l)
    nowhere n l i =
        let s = stands f (members t l) i in
        omega (arith, (listed_member t ok l f s.0 s.1 s.2).0, ltb-false (member_of t f) (member_count t) n)

-- ---- tick

-- the four kinds
kinds : {A : Type 0} (k : ℕ) → k ≤ 3 → (k ≡ 0 → A) → (k ≡ 1 → A) → (k ≡ 2 → A) → (k ≡ 3 → A) → A
kinds k h a b c d =
    elim (ℕ_discrete k 0) [
      | yes p ↦ a p
      | no p ↦ elim (ℕ_discrete k 1) [
        | yes q ↦ b q
        | no q ↦ elim (ℕ_discrete k 2) [ yes r ↦ c r | no r ↦ d (omega arith) ]
      ]
    ]

entry_one : (t : List ℕ) (h : Seq Scheduled) (e : ℕ) (a b : TickResult) → entry_kind t e ≤ 3 → EntryReply t h e a → EntryReply t h e b → a ≡ b
entry_one t h e a b k x y =
    kinds (entry_kind t e) k
    (λ p. x.frame p ∙ sym (y.frame p))
    (λ p. takes_one t (Pending t h) (members t (entry_target t e)) (x.list p) (y.list p))
    (λ p. x.request p ∙ sym (y.request p))
    (λ p. x.response p ∙ sym (y.response p))

-- the entry due is one of the table
entry_of : (c : Option ℕ) (e : ℕ) → slot_with c ≡ entry e → c ≡ Some e
entry_of None e p = cc
entry_of (Some k) e p = let i : k ≡ e = cc in ap Some i

due_below : (t : List ℕ) → RightTable t → (h : Seq Scheduled) (x : Held) → Agrees t h x → (e : ℕ) → slot_due t (plan_after t h) ≡ entry e → e < entry_count t
due_below t ok h x is e p =
    let plan = x.state.plan in
    let cl = fits_clauses t x.state is.fits in
    let d : cond (waits plan) none (slot_with (entry_due t plan.requested plan.current)) ≡ entry e = sym (slot_due_lem t plan) ∙ rw is.plan_is p in
    whether (waits plan)
    (λ w. let z : none ≡ entry e = rw w at d in absurd (let y : ◌≡◌ {A = ℕ} 0 1 = cc in omega arith))
    (λ w. entry_below t e (rw (entry_of (entry_due t plan.requested plan.current) e (rw w at d)) at
    (due_there t ok plan.requested plan.current cl.schedule_there_lem cl.entry_there_lem)))

module _ (t : List ℕ) (ok : RightTable t) (h : Seq Scheduled) (x : Held) (is : Agrees t h x) where
  slot_one : (s : Slot) → slot_due t (plan_after t h) ≡ s → (a b : TickResult) → SlotReply t h s a → SlotReply t h s b → a ≡ b
  slot_one none d a b p q = p ∙ sym q
  slot_one unscheduled d a b p q = p ∙ sym q
  slot_one (entry e) d a b p q = entry_one t h e a b (entry_kind_high t ok e (due_below t ok h x is e d)) p q

  tick_one : (m : List ℕ) (a b : TickResult) → TickReply t h m a → TickReply t h m b → a ≡ b
  tick_one m a b p q =
      whether (lent_right (message_after t h) (length m))
      (λ l. slot_one (slot_due t (plan_after t h)) refl a b (p.goes_on l) (q.goes_on l))
      (λ l. p.refuses l ∙ sym (q.refuses l))

  -- ---- every call

  one_reply : (c : Call) (a b : Answer c) → Replies t h c a → Replies t h c b → a ≡ b
  one_reply (call.write w) a b p q = p ∙ sym q
  one_reply (call.read s) a b p q = p ∙ sym q
  one_reply (call.read_array s) a b p q = p ∙ sym q
  one_reply (call.select n) a b p q = p ∙ sym q
  one_reply (call.tick m) a b p q = tick_one m a b p q
  one_reply (call.byte_in b') a b p q = p ∙ sym q
  one_reply call.read_status a b p q = p ∙ sym q
  one_reply (call.send nad n) a b p q = p ∙ sym q
  one_reply call.message_state a b p q = p ∙ sym q
  one_reply (call.number_ahead f) a b p q = ahead_one t ok h f a b p q

-- after every history, an answer that the claim takes is the one that the core gives
pub only_answer : (t bs : List ℕ) → (fresh_of t bs).given.answer ≡ Ok tt → (cs : Seq Call) (c : Call) (a : Answer c) → Replies t (record_of t bs cs) c a
    → a ≡ answer_of t (held_after t bs cs) c
only_answer t bs accepted cs c a r =
    let is = agrees t bs accepted cs in
    one_reply t (fresh_table t bs accepted) (record_of t bs cs) (held_after t bs cs) is c a (answer_of t (held_after t bs cs) c) r
    (steps t (table_taken t bs accepted) (record_of t bs cs) (held_after t bs cs) is c).replies

-- ---- whatever the core

module _ (t bs : List ℕ) (accepted : (fresh_of t bs).given.answer ≡ Ok tt) where
  -- the core's own events meet (f)
  core_meets : (cs : Seq Call) → Meets t (history_of t bs cs)
  unfolding history_of
  core_meets ∅ = tt
  core_meets (cs ▹ c) = (core_meets cs, (steps t (table_taken t bs accepted) (record_of t bs cs) (held_after t bs cs) (agrees t bs accepted cs) c).replies)

  -- and events that meet it are those of the core on the same calls
  meets_core : (h : Seq Event) → Meets t h → h ≡ history_of t bs (calls_of h)
  unfolding history_of
  meets_core ∅ m = refl
  meets_core (h ▹ (c ⇒ a)) m =
      let e = meets_core h m.0 in
      let r : Replies t (record_of t bs (calls_of h)) c a = rw e at m.1 in
      let q = only_answer t bs accepted (calls_of h) c a r in
      cc

  -- any core meets (f) exactly where it answers as ours does
  pub claim_exactly : (h : Seq Event) → Meets t h ↔ (h ≡ history_of t bs (calls_of h))
  claim_exactly h = (meets_core h, λ e. subst (Meets t) (sym e) (core_meets (calls_of h)))

-- the claim decides every answer, whatever the core: two sequences of events with the same calls, each of whose answers meets `Replies` after the
-- events before it, are equal
pub claim_decides : (t : List ℕ) → RightTable t → (g h : Seq Event) → calls_of g ≡ calls_of h → Meets t g → Meets t h → g ≡ h
claim_decides t ok g h e m n =
    let bs : List ℕ = replicate (buffer_size t) 0 in
    let accepted = fresh_taken t bs (right_taken t ok) (length-replicate (buffer_size t) 0) in
    meets_core t bs accepted g m ∙ ap (history_of t bs) e ∙ sym (meets_core t bs accepted h n)
