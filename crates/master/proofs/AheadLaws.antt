-- Laws of the number ahead: the frames that it counts are those ahead in the list, and with none of them pending the frame is opened.
use Prim.Native.Nat.{ℕ, suc, ◌<◌}
use mathlib.Core.Path.{◌≡◌, refl}
use mathlib.Core.Bool.{Bool, true, false}
use mathlib.Core.List.{List, [], ◌∷◌}
use native.Mathlib.Omega.{arith}
use lib.ListN.{get_or}
use Rattle.cluster.specs.Check.{RightTable}
use Rattle.cluster.specs.Lists.{members}
use Rattle.cluster.specs.Table.{member_count, member_list}
use Rattle.transport.proofs.Tests.{whether}
use Rattle.master.specs.declared.state.Opened.TheVariants.{Frame}
use Rattle.master.specs.Tick.{first_pending}
use Rattle.master.specs.Ahead.{pending_count}
use Rattle.cluster.specs.Lists.{member_of, frames_ahead}
use Rattle.master.proofs.PendingLaws.{NonePending, one_none, first_pending_is, first_pending_of}
use Rattle.cluster.proofs.MemberOf.{ahead_parts, same_ahead}

-- ---- counting

module _ (bits : List Bool) where
  -- none is counted where none is pending
  pub none_counted : (fs : List ℕ) → NonePending bits fs → pending_count bits fs ≡ 0
  unfolding pending_count
  none_counted [] n = refl
  none_counted (f ∷ fs) n = rw (n 0 (omega arith)) (none_counted fs (λ i b. n (suc i) (omega arith)))

  -- none is pending where none is counted
  pub counted_none : (fs : List ℕ) → pending_count bits fs ≡ 0 → NonePending bits fs
  unfolding pending_count
  counted_none [] e = λ i b. absurd (omega arith)
  counted_none (f ∷ fs) e =
      whether (get_or bits f false)
      (λ y. let q : suc (pending_count bits fs) ≡ 0 = rw y at e in absurd (omega arith))
      (λ n. one_none bits f fs n (counted_none fs (rw n at e)))

-- ---- the frames ahead

module _ (t : List ℕ) (ok : RightTable t) (bits : List Bool) (f : ℕ) (h : member_of t f < member_count t) where
  abbrev list : List ℕ
  list = members t (member_list t (member_of t f))

  -- a pending frame with none pending ahead of it is the one that its list opens
  pub ahead_opens : get_or bits f false ≡ true → pending_count bits (frames_ahead t f) ≡ 0 → first_pending bits (members t (member_list t (member_of t f))) ≡ Frame f
  ahead_opens p c =
      first_pending_of bits list f
      (record {
        ahead = frames_ahead t f;
        behind = (ahead_parts t f h).0;
        parts = (ahead_parts t f h).1;
        none_ahead = counted_none bits (frames_ahead t f) c;
        is_pending = p;
      })

  -- the frame that its list opens has none pending ahead of it
  pub opens_ahead : first_pending bits (members t (member_list t (member_of t f))) ≡ Frame f → pending_count bits (frames_ahead t f) ≡ 0
  opens_ahead e =
      let w = first_pending_is bits list f e in
      rw (same_ahead t ok f h w.ahead w.behind w.parts) at (none_counted bits w.ahead w.none_ahead)
