-- Each way out has the tests that led there.
use mathlib.Core.Bool.{and-false}
use mathlib.Core.Path.{◌≡◌, sym, ◌∙◌}
use native.Mathlib.Omega.{arith}
use borrow.Author.Tests.{le-leb, lt-leb}
use Rattle.cluster.specs.Columns.{entry_columns}
use Rattle.cluster.specs.Read.{leading}
use Rattle.cluster.specs.Table.{entry_words}
use Rattle.cluster.proofs.EntryTurn.{seen, stops, goes_on, passes}
use Rattle.cluster.proofs.entries.PassedSection.pass.Goals as goal
use Rattle.cluster.proofs.entries.PassedSection.pass.Goals.{then-delay-lt1-via-then-delay-lt1, then-delay-lt1-via-else-delay-lt1+then-delay-gt65535}

pub record-requires : goal.record-requires
record-requires c = (
  omega arith,
  (
    (omega arith, omega (arith, c.requires.0, c.requires.1.first, c.requires.1.limits.frames, c.requires.1.limits.signals, c.requires.1.limits.placements, c.requires.1.limits.members, c.requires.1.limits.entries)),
    λ e. omega (arith, c.requires.0, c.requires.1.first, c.requires.1.whole e),
  ),
)

pub follows-requires : goal.follows-requires
follows-requires c = c.record.ensures.upper_bound 0

pub returns-then-not-follows-clause-told : goal.returns-then-not-follows-clause-told
unfolding entry_columns leading
returns-then-not-follows-clause-told c rest =
    rw c.fault.ensures
    (stops c.args.t.now c.args.e c.args.self.now c.requires.1 c.requires.0 c.record.result c.record.ensures.words 0 _
    (simp (sym c.follows.ensures ∙ c.if-not-follows.true)) (omega arith) (omega arith) rest)

pub returns-then-kind-gt3-clause-told : goal.returns-then-kind-gt3-clause-told
unfolding entry_columns leading
returns-then-kind-gt3-clause-told c rest =
    let up = sym c.follows.ensures ∙ c.if-not-follows.false in
    rw c.fault-then-kind-gt3.ensures
    (stops c.args.t.now c.args.e c.args.self.now c.requires.1 c.requires.0 c.record.result c.record.ensures.words 1 _
    (simp (up, lt-leb _ _ c.if-kind-gt3.true)) (omega arith) (omega arith) rest)

pub returns-then-not-target_right-clause-told : goal.returns-then-not-target_right-clause-told
unfolding entry_columns leading
returns-then-not-target_right-clause-told c rest =
    let up = sym c.follows.ensures ∙ c.if-not-follows.false in
    rw c.fault-then-not-target_right.ensures
    (stops c.args.t.now c.args.e c.args.self.now c.requires.1 c.requires.0 c.record.result c.record.ensures.words 2 _
    (simp (up, le-leb _ _ c.if-kind-gt3.false, sym c.target_right.ensures ∙ c.if-not-target_right.true)) (omega arith) (omega arith) rest)

pub returns-then-delay-lt1-clause-told : goal.returns-then-delay-lt1-clause-told
unfolding entry_columns leading
returns-then-delay-lt1-clause-told c rest =
    let up = sym c.follows.ensures ∙ c.if-not-follows.false in
    let target = sym c.target_right.ensures ∙ c.if-not-target_right.false in
    rw c.fault-then-delay-lt1.ensures
    (stops c.args.t.now c.args.e c.args.self.now c.requires.1 c.requires.0 c.record.result c.record.ensures.words 3 _
    (elim c.then-delay-lt1.branch [
      | then-delay-lt1-via-then-delay-lt1 w ↦ simp (up, le-leb _ _ c.if-kind-gt3.false, target, lt-leb _ _ w.if-delay-lt1.true)
      | then-delay-lt1-via-else-delay-lt1+then-delay-gt65535 w ↦ simp
          (up, le-leb _ _ c.if-kind-gt3.false, target, lt-leb _ _ w.if-delay-gt65535.true, and-false)
    ]) (omega arith) (omega arith) rest)

pub overflow_add-self : goal.overflow_add-self
overflow_add-self c = omega (arith, c.record.ensures.upper_bound 0)

pub returns : goal.returns
unfolding entry_columns leading
returns c =
    let target = sym c.target_right.ensures ∙ c.if-not-target_right.false in
    let right : leading (seen c.args.t.now c.args.e c.args.self.now c.requires.1 c.requires.0 c.record.result c.record.ensures.words) ≡ entry_words =
    simp (
      sym c.follows.ensures ∙ c.if-not-follows.false,
      le-leb _ _ c.if-kind-gt3.false,
      target,
      le-leb _ _ c.if-delay-lt1.false,
      le-leb _ _ c.if-delay-gt65535.false,
    ) in
    record {
      told = goes_on c.args.t.now c.args.e c.args.self.now c.requires.1 c.requires.0 c.record.result c.record.ensures.words right;
      passed = passes c.args.t.now c.args.e c.args.self.now c.requires.1 c.requires.0 c.record.result c.record.ensures.words right;
    }
