-- Each way out has the tests that led there.
use mathlib.Core.Bool.{and-false}
use mathlib.Core.Path.{◌≡◌, sym, ◌∙◌}
use native.Mathlib.Omega.{arith}
use borrow.Author.Tests.{lt-ltb, le-ltb, not-true, not-false}
use lib.ListN.{get_or}
use Rattle.cluster.specs.Columns.{member_columns}
use Rattle.cluster.specs.Read.{leading}
use Rattle.cluster.specs.Table.{frame_count, member_words}
use Rattle.cluster.proofs.MemberTurn.{seen, stops, goes_on, passes}
use Rattle.cluster.proofs.members.PassedSection.pass.Goals as goal
use Rattle.cluster.proofs.members.PassedSection.pass.Goals.{then-count-frame-via-then-count-frame}
use Rattle.cluster.proofs.members.PassedSection.pass.Goals.{then-count-frame-via-else-count-frame+then-self-frame}
use Rattle.cluster.proofs.members.PassedSection.pass.Goals.{then-count-frame-via-else-count-frame+else-self-frame+then-not-room_of}

pub follows-requires : goal.follows-requires
follows-requires c = c.record.ensures.upper_bound 0

pub returns-then-not-follows-clause-told : goal.returns-then-not-follows-clause-told
unfolding member_columns leading
returns-then-not-follows-clause-told c rest =
    rw c.fault.ensures
    (stops c.args.t.now c.args.m c.args.self.now c.requires.1 c.requires.0 c.record.result c.record.ensures.words 0 _
    (simp (sym c.follows.ensures ∙ c.if-not-follows.true)) (omega arith) (omega arith) rest)

pub returns-then-count-frame-clause-told : goal.returns-then-count-frame-clause-told
unfolding member_columns leading
returns-then-count-frame-clause-told c rest =
    let up = sym c.follows.ensures ∙ c.if-not-follows.false in
    rw c.fault-then-count-frame.ensures
    (stops c.args.t.now c.args.m c.args.self.now c.requires.1 c.requires.0 c.record.result c.record.ensures.words 1 _
    (elim c.then-count-frame.branch [
      | then-count-frame-via-then-count-frame w ↦
          simp (up, le-ltb (get_or c.record.result 1 0) (frame_count c.args.t.now) (omega (arith, c.count.ensures, w.if-count-frame.true)))
      | then-count-frame-via-else-count-frame+then-self-frame w ↦ simp (up, w.if-self-frame.true, and-false)
      | then-count-frame-via-else-count-frame+else-self-frame+then-not-room_of w ↦
          simp (up, sym w.room_of.ensures.1 ∙ not-true w.room_of.result.published w.if-not-room_of.true, and-false)
    ]) (omega arith) (omega arith) rest)

pub overflow_add-self : goal.overflow_add-self
overflow_add-self c = omega (arith, c.record.ensures.upper_bound 0)

pub returns : goal.returns
unfolding member_columns leading
returns c =
    let below = lt-ltb (get_or c.record.result 1 0) (frame_count c.args.t.now) (omega (arith, c.count.ensures, c.if-count-frame.false)) in
    let publishes = sym c.room_of.ensures.1 ∙ not-false c.room_of.result.published c.if-not-room_of.false in
    let right : leading (seen c.args.t.now c.args.m c.args.self.now c.requires.1 c.requires.0 c.record.result c.record.ensures.words) ≡ member_words =
    simp (sym c.follows.ensures ∙ c.if-not-follows.false, below, c.if-self-frame.false, publishes) in
    record {
      told = goes_on c.args.t.now c.args.m c.args.self.now c.requires.1 c.requires.0 c.record.result c.record.ensures.words right;
      passed =
          passes c.args.t.now c.args.m c.args.self.now c.requires.1 c.requires.0 c.record.result c.record.ensures.words right
          (omega (arith, c.count.ensures, c.if-count-frame.false));
    }
