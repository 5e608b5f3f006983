-- Number ahead answers the count by the history.
use Prim.Native.Nat.{ℕ, ◌<◌}
use mathlib.Core.Path.{◌≡◌, refl, ap, ◌∙◌}
use mathlib.Core.Bool.{Bool, false}
use mathlib.Core.List.Memᴰ
use mathlib.Core.List.{List, [], ◌∷◌}
use lib.Dec.{ltb}
use lib.ListN.{get_or}
use borrow.Author.Tests.{ltb-true, lt-ltb}
use Rattle.cluster.specs.Check.{TakenTable, RightTable}
use Rattle.cluster.specs.Table.{member_count, member_list}
use Rattle.transport.proofs.Tests.{whether}
use Rattle.master.specs.Admit.{buffer_size}
use Rattle.master.specs.Ahead.{pending_count, ahead_verdict, ahead_of}
use Rattle.cluster.specs.Lists.{member_of, frames_ahead}
use Rattle.master.specs.Seq.{Seq}
use Rattle.master.specs.Schedule.{Scheduled}
use Rattle.master.specs.Run.{Held}
use Rattle.master.specs.History.{Pending}
use Rattle.master.specs.Replies.{AheadReply}
use Rattle.master.proofs.Admitted.{admits}
use Rattle.cluster.proofs.MemberOf.{ahead_parts, same_ahead, listed_member}
use Rattle.master.proofs.History.Computed.{pending_after}
use Rattle.master.proofs.History.PendingLaw.{pending_iff}
use Rattle.master.proofs.History.Counting.{count_if, count_holds}
use Rattle.master.proofs.History.Agrees.{Agrees}
use Rattle.std.specs.Prelude.{Ok}

-- bits that say what p says count what p counts
count_pending : (bits : List Bool) (p : ℕ → Bool) → ((f : ℕ) → get_or bits f false ≡ p f) → (fs : List ℕ) → pending_count bits fs ≡ count_if p fs
unfolding pending_count count_if
count_pending bits p e [] = refl
count_pending bits p e (f ∷ fs) = rw (e f, count_pending bits p e fs)

module _ (t : List ℕ) (is-taken : TakenTable t) (ok : RightTable t) (h : Seq Scheduled) (x : Held) (is : Agrees t h x) (f : ℕ) where
  counts : member_of t f < member_count t → ahead_of t x.state f ≡ Ok (count_if (pending_after t h) (frames_ahead t f))
  unfolding ahead_of ahead_verdict
  counts b =
      rw (admits t (buffer_size t) x.state is-taken refl is.fits, lt-ltb (member_of t f) (member_count t) b)
      (ap Ok (count_pending x.state.pending (pending_after t h) is.frames.bits_are (frames_ahead t f)))

  pub ahead_replies : AheadReply t h f (ahead_of t x.state f)
  unfolding ahead_of ahead_verdict
  ahead_replies = record {
    listed = λ l ahead behind p.
        let w = listed_member t ok l f ahead behind p in
        let same = same_ahead t ok f w.0 ahead behind (rw w.1 p) in (
          count_if (pending_after t h) ahead,
          counts w.0 ∙ rw same,
          count_holds (pending_after t h) (Pending t h) (pending_iff t h) ahead,
        );
    unlisted = λ none.
        whether (ltb (member_of t f) (member_count t))
        (λ b.
        let p = ahead_parts t f (ltb-true (member_of t f) (member_count t) b) in
        absurd (none (member_list t (member_of t f)) (rw p.1 (Memᴰ.append_right (frames_ahead t f) (Memᴰ.head refl)))))
        (λ b. rw (admits t (buffer_size t) x.state is-taken refl is.fits, b));
  }
