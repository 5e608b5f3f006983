-- The member that `find` answers is the first pending one, and where it answers none there is none.
use Rattle.std.proofs.Common.{◌≡◌, sym, true, false, rules, MatchOption}
use Rattle.std.proofs.lemmas.Iterator.{first_from_Range}
use Rattle.cluster.specs.Lists.{members, members_from}
use Rattle.cluster.specs.Table.{member_frame}
use Rattle.master.specs.Tick.{first_pending}
use Rattle.master.specs.declared.state.Opened.TheVariants.{Nothing, Frame}
use Rattle.master.proofs.Walks.{Pends, pending_found}
use Rattle.master.proofs.pending.PendingList.first.Goals as goal

pub returns-in-Some : goal.returns-in-Some
unfolding members
returns-in-Some c =
    let a = c.args in
    let t = a.self.t.words.now in
    let pends = Pends t a.self.pending a.self.list in
    let all = first_pending a.self.pending (members_from t a.self.list 0 c.count-n.result) in
    let found : MatchOption c.find.result (all ≡ Nothing) (λ i. all ≡ Frame (member_frame t i)) =
    pending_found t a.self.pending a.self.list c.count-n.result c.find.result
    (first_from_Range _ _ _ _ (λ j. pends j ≡ true) (λ j. pends j ≡ false) c.find.ensures.ran (λ x q k. search rules) (λ x q k. search rules)) in
    rw (c.frame.ensures, ← c.count-n.ensures) (sym (rw c.in-Some.is at found))

pub returns-in-None : goal.returns-in-None
unfolding members
returns-in-None c =
    let a = c.args in
    let t = a.self.t.words.now in
    let pends = Pends t a.self.pending a.self.list in
    let all = first_pending a.self.pending (members_from t a.self.list 0 c.count-n.result) in
    let found : MatchOption c.find.result (all ≡ Nothing) (λ i. all ≡ Frame (member_frame t i)) =
    pending_found t a.self.pending a.self.list c.count-n.result c.find.result
    (first_from_Range _ _ _ _ (λ j. pends j ≡ true) (λ j. pends j ≡ false) c.find.ensures.ran (λ x q k. search rules) (λ x q k. search rules)) in
    rw (← c.count-n.ensures) (sym (rw c.in-None.is at found))
