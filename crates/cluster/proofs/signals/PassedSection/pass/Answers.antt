-- Each way out has the tests that led there.
use borrow.Author.Tests.{lt-ltb, le-ltb, le-leb, lt-leb}
use mathlib.Core.Path.{sym, ◌∙◌}
use native.Mathlib.Omega.{arith}
use Rattle.cluster.specs.Columns.{signal_columns}
use Rattle.cluster.specs.Read.{leading}
use Rattle.cluster.proofs.SignalTurn.{stops, goes_on}
use Rattle.cluster.proofs.signals.PassedSection.pass.Goals as goal

pub returns-then-kind-gt1-clause-told : goal.returns-then-kind-gt1-clause-told
unfolding signal_columns leading
returns-then-kind-gt1-clause-told c rest =
    rw c.fault.ensures
    (stops c.args.t.now c.args.s c.args.self.now c.requires.1 c.record.result c.record.ensures.words 0 _
    (simp (lt-leb _ _ c.if-kind-gt1.true)) (omega arith) (omega arith) rest)

pub returns-then-not-width_right-clause-told : goal.returns-then-not-width_right-clause-told
unfolding signal_columns leading
returns-then-not-width_right-clause-told c rest =
    rw c.fault-then-not-width_right.ensures
    (stops c.args.t.now c.args.s c.args.self.now c.requires.1 c.record.result c.record.ensures.words 1 _
    (simp (le-leb _ _ c.if-kind-gt1.false, sym c.width_right.ensures ∙ c.if-not-width_right.true)) (omega arith) (omega arith) rest)

pub returns-then-start_limit-start-clause-told : goal.returns-then-start_limit-start-clause-told
unfolding signal_columns leading
returns-then-start_limit-start-clause-told c rest =
    let width = sym c.width_right.ensures ∙ c.if-not-width_right.false in
    rw c.fault-then-start_limit-start.ensures
    (stops c.args.t.now c.args.s c.args.self.now c.requires.1 c.record.result c.record.ensures.words 2 _
    (simp (le-leb _ _ c.if-kind-gt1.false, width, sym c.start_limit.ensures.value, le-ltb _ _ c.if-start_limit-start.true)) (omega arith)
    (omega arith) rest)

pub returns-clause-told : goal.returns-clause-told
unfolding signal_columns leading
returns-clause-told c rest =
    let width = sym c.width_right.ensures ∙ c.if-not-width_right.false in
    goes_on c.args.t.now c.args.s c.args.self.now c.requires.1 c.record.result c.record.ensures.words
    (simp (le-leb _ _ c.if-kind-gt1.false, width, sym c.start_limit.ensures.value, lt-ltb _ _ c.if-start_limit-start.false)) rest
