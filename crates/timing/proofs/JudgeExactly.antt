-- The judge in the paper's own words (specs/InWords.antt): when it answers holds, short, and each refusal.
use Prim.Native.Nat.{ℕ, ◌≤◌, ◌<◌}
use mathlib.Core.Path.{◌≡◌, refl, sym, ◌∙◌}
use mathlib.Core.Bool.{Bool, true, false, not, ◌&&◌, true≢false}
use mathlib.Core.List.{List}
use mathlib.Core.Logic.{◌↔◌, ◌⊎◌, inl, inr, ⊎_elim}
use native.Mathlib.Omega.{arith}
use borrow.Author.Tests.{leb-true, le-leb, not-true, not-false}
use lib.Dec.{leb}
use Rattle.refusal.specs.Numbers.{refused, time}
use Rattle.refusal.proofs.NumberLaws as number
use Rattle.refusal.specs.declared.Refusal.{Refusal}
use Rattle.wire.proofs.Tests.{whether, and_left, and_right}
use Rattle.signal.proofs.Inside.{order}
use Rattle.cluster.specs.Check as checked
use Rattle.cluster.specs.Check.{judged, taken_of, RightTable}
use Rattle.cluster.specs.Table.{entry_count}
use Rattle.cluster.proofs.HeaderLaws.{entry_count_lem}
use Rattle.cluster.proofs.Searching.{first_holds, first_before, first_least}
use Rattle.cluster.proofs.TakenLaws.{taken_right, right_taken, taken_refused, taken_high, taken_number}
use Rattle.timing.specs.InWords.{Room, NoRoom, Time, WrongTime}
use Rattle.timing.specs.Judge.{judge_of}
use Rattle.timing.specs.Slots.{entry_holds, first_short, time_right}
use Rattle.timing.proofs.OpensExactly.{room_exactly, no_room_exactly}
use Rattle.timing.proofs.Steps.{table_refused, time_refused, short_told_lem, none_short}
use Rattle.std.specs.Prelude.{Ok, Err}
use Rattle.std.specs.Prelude.{None, Some}

-- ---- the times

time_exactly : (x : ℕ) → (time_right x ≡ true) ↔ Time x
unfolding time_right
time_exactly x = (
  (λ h. (leb-true 1 x (and_left (leb 1 x) (leb x 65535) h), leb-true x 65535 (and_right (leb 1 x) (leb x 65535) h))),
  (λ h. rw (le-leb 1 x h.0, le-leb x 65535 h.1)),
)

pub times_exactly : (tick bit : ℕ) → ((time_right tick && time_right bit) ≡ true) ↔ (Time tick × Time bit)
times_exactly tick bit = (
  (λ h. ((time_exactly tick).0 (and_left (time_right tick) (time_right bit) h), (time_exactly bit).0 (and_right (time_right tick) (time_right bit) h))),
  (λ h. rw ((time_exactly tick).1 h.0, (time_exactly bit).1 h.1)),
)

wrong_or_right : (x : ℕ) → WrongTime x ⊎ Time x
wrong_or_right x = order x 1 (λ a. inl (inl (omega arith))) (λ a. order 65535 x (λ b. inl (inr b)) (λ b. inr (a, b)))

not_both : (x : ℕ) → WrongTime x → Time x → ⊥
not_both x w h = ⊎_elim (λ e. omega arith) (λ b. omega arith) w

pub times_wrong : (tick bit : ℕ) → ((time_right tick && time_right bit) ≡ false) ↔ (WrongTime tick ⊎ WrongTime bit)
times_wrong tick bit = (
  (λ h. ⊎_elim inl
      (λ a. ⊎_elim inr (λ b. absurd (contrary ((times_exactly tick bit).1 (a, b)) h)) (wrong_or_right bit))
      (wrong_or_right tick)),
  (λ w. whether (time_right tick && time_right bit)
      (λ h. let b = (times_exactly tick bit).0 h in absurd (⊎_elim (λ a. not_both tick a b.0) (λ a. not_both bit a b.1) w))
      (λ h. h)),
)
  where
    contrary : {b : Bool} → b ≡ true → b ≡ false → ⊥
    contrary p q = true≢false (sym p ∙ q)

module _ (t : List ℕ) (tick bit : ℕ) where
  -- ---- the first short entry

  abbrev is_short : ℕ → Bool
  is_short e = not (entry_holds t tick bit e)

  -- the entries before the first short one hold
  before : (d : ℕ) → d < first_short t tick bit → entry_holds t tick bit d ≡ true
  unfolding first_short
  before d h = not-false (entry_holds t tick bit d) (first_before is_short 0 (entry_count t) d (omega arith) h)

  -- and it does not
  at : first_short t tick bit < entry_count t → entry_holds t tick bit (first_short t tick bit) ≡ false
  unfolding first_short
  at h = not-true (entry_holds t tick bit (first_short t tick bit)) (first_holds is_short 0 (entry_count t) (omega arith))

  -- no short entry stands before it
  least : (e : ℕ) → entry_holds t tick bit e ≡ false → first_short t tick bit ≤ e
  unfolding first_short
  least e h = first_least is_short 0 (entry_count t) e (omega arith) (rw h)

  -- ---- the four ways to answer

  cases : {A : Type 0} → ((r : Refusal) → taken_of t ≡ Err r → A)
      → (taken_of t ≡ Ok tt → (time_right tick && time_right bit) ≡ false → A)
      → (taken_of t ≡ Ok tt → (time_right tick && time_right bit) ≡ true → first_short t tick bit < entry_count t → A)
      → (taken_of t ≡ Ok tt → (time_right tick && time_right bit) ≡ true → entry_count t ≤ first_short t tick bit → A)
      → A
  cases {A} one thirteen short holds = by (taken_of t) refl
    where
      by : (v : checked.Verdict) → taken_of t ≡ v → A
      by (Err r) e = one r e
      by (Ok tt) e =
          whether (time_right tick && time_right bit)
          (λ b. order (first_short t tick bit) (entry_count t) (short e b) (holds e b))
          (thirteen e)

  -- "accepts exactly when every slot holds its longest frame": when every frame that any entry can open fits its slot
  pub holds_exactly : (judge_of t tick bit ≡ Ok None)
      ↔ (RightTable t × Time tick × Time bit × ((e : ℕ) → e < entry_count t → Room t tick bit e))
  holds_exactly = (forward, backward)
    where
      forward : judge_of t tick bit ≡ Ok None → RightTable t × Time tick × Time bit × ((e : ℕ) → e < entry_count t → Room t tick bit e)
      forward j =
          cases
          (λ r e. let z : ◌≡◌ {A = ℕ} 0 1 = cc (table_refused t tick bit r e) in absurd (omega arith))
          (λ e b. let z : ◌≡◌ {A = ℕ} 0 1 = cc (time_refused t tick bit e b) in absurd (omega arith))
          (λ e b l. let z : ◌≡◌ {A = ℕ} 0 1 = cc (short_told_lem t tick bit e b l) in absurd (omega arith))
          (λ e b l.
          let ok = taken_right t e in
          let right = (times_exactly tick bit).0 b in
          (ok, right.0, right.1, λ k h. (room_exactly t ok tick bit k h).0 (before k (omega arith))))

      backward : RightTable t × Time tick × Time bit × ((e : ℕ) → e < entry_count t → Room t tick bit e) → judge_of t tick bit ≡ Ok None
      backward w =
          none_short t tick bit (right_taken t w.0) ((times_exactly tick bit).1 (w.1, w.2))
          (order (first_short t tick bit) (entry_count t)
          (λ l. absurd (true≢false (sym ((room_exactly t w.0 tick bit (first_short t tick bit) l).1 (w.3 (first_short t tick bit) l)) ∙ at l)))
          (λ l. l))

  -- "It also reports the first short entry": by its number in the table, the first that can open a frame which does not fit its slot
  pub short_exactly : (e : ℕ) → (judge_of t tick bit ≡ Ok (Some e))
      ↔ (RightTable t × Time tick × Time bit × (e < entry_count t) × ((d : ℕ) → d < e → Room t tick bit d) × NoRoom t tick bit e)
  short_exactly e = (forward, backward)
    where
      forward : judge_of t tick bit ≡ Ok (Some e)
          → RightTable t × Time tick × Time bit × (e < entry_count t) × ((d : ℕ) → d < e → Room t tick bit d) × NoRoom t tick bit e
      forward j =
          cases
          (λ r q. let z : ◌≡◌ {A = ℕ} 0 1 = cc (table_refused t tick bit r q) in absurd (omega arith))
          (λ q b. let z : ◌≡◌ {A = ℕ} 0 1 = cc (time_refused t tick bit q b) in absurd (omega arith))
          (λ q b l.
          let ok = taken_right t q in
          let right = (times_exactly tick bit).0 b in
          let same : e ≡ first_short t tick bit = cc (short_told_lem t tick bit q b l) in
          let short = (no_room_exactly t ok tick bit _ l).0 (at l) in
          rw same (ok, right.0, right.1, l, (λ d h. (room_exactly t ok tick bit d (omega arith)).0 (before d h)), short))
          (λ q b l. let z : ◌≡◌ {A = ℕ} 0 1 = cc (none_short t tick bit q b l) in absurd (omega arith))

      backward : RightTable t × Time tick × Time bit × (e < entry_count t) × ((d : ℕ) → d < e → Room t tick bit d) × NoRoom t tick bit e
          → judge_of t tick bit ≡ Ok (Some e)
      backward w =
          let low = least e ((no_room_exactly t w.0 tick bit e w.3).1 w.5) in
          let same : first_short t tick bit ≡ e =
          order (first_short t tick bit) e
          (λ l. let b : first_short t tick bit < entry_count t = omega (arith, w.3) in
          absurd (true≢false (sym ((room_exactly t w.0 tick bit (first_short t tick bit) b).1 (w.4 (first_short t tick bit) l)) ∙ at b)))
          (λ l. omega arith) in
          rw same at (short_told_lem t tick bit (right_taken t w.0) ((times_exactly tick bit).1 (w.1, w.2)) (omega (arith, w.3)))

  -- refusal 1 as the table check gives it; 13 "a tick or bit time of 0 or above 65,535", "tested after 1"
  pub refused_exactly : (r : Refusal) → (judge_of t tick bit ≡ Err r)
      ↔ ((judged t ≡ Err r) ⊎ (RightTable t × (WrongTime tick ⊎ WrongTime bit) × (r.number ≡ 13) × (r.place ≡ 0)))
  refused_exactly r = (forward, ⊎_elim (λ e. table_refused t tick bit r ((taken_refused t r).1 e)) backward)
    where
      forward : judge_of t tick bit ≡ Err r
          → (judged t ≡ Err r) ⊎ (RightTable t × (WrongTime tick ⊎ WrongTime bit) × (r.number ≡ 13) × (r.place ≡ 0))
      forward j =
          cases
          (λ q e. let same : q ≡ r = cc (table_refused t tick bit q e) in inl ((taken_refused t r).0 (rw same at e)))
          (λ e b.
          let same : r ≡ refused time = cc (time_refused t tick bit e b) in
          inr (taken_right t e, (times_wrong tick bit).0 b, rw same, rw same))
          (λ e b l. let z : ◌≡◌ {A = ℕ} 0 1 = cc (short_told_lem t tick bit e b l) in absurd (omega arith))
          (λ e b l. let z : ◌≡◌ {A = ℕ} 0 1 = cc (none_short t tick bit e b l) in absurd (omega arith))

      backward : RightTable t × (WrongTime tick ⊎ WrongTime bit) × (r.number ≡ 13) × (r.place ≡ 0) → judge_of t tick bit ≡ Err r
      backward w =
          let same : r ≡ refused time = (number.refused_exactly r 13).1 (w.2, w.3) in
          rw same (time_refused t tick bit (right_taken t w.0) ((times_wrong tick bit).1 w.1))

  -- a refusal has one of two numbers
  pub refused_number : (r : Refusal) → judge_of t tick bit ≡ Err r → (r.number ≡ 1) ⊎ (r.number ≡ 13)
  refused_number r j = ⊎_elim (λ e. inl (taken_number t r ((taken_refused t r).1 e))) (λ w. inr w.2) ((refused_exactly r).0 j)

  -- and its place is small
  pub refused_high : (r : Refusal) → judge_of t tick bit ≡ Err r → r.place ≤ 3633
  refused_high r j = ⊎_elim (λ e. taken_high t r ((taken_refused t r).1 e)) (λ w. omega (arith, w.3)) ((refused_exactly r).0 j)

  -- the number of a short entry is small
  pub short_high : (e : ℕ) → judge_of t tick bit ≡ Ok (Some e) → e < 256
  short_high e j = let w = (short_exactly e).0 j in omega (arith, w.3, entry_count_lem t w.0)
