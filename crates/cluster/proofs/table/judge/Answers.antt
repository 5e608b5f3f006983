-- Each way out has the tests that led there.
use borrow.Author.Tests.{le-leb, lt-leb}
use mathlib.Core.Path.{sym, ◌∙◌}
use native.Mathlib.Omega.{arith}
use Rattle.cluster.specs.Columns.{header_columns}
use Rattle.cluster.specs.Read.{leading}
use Rattle.cluster.proofs.HeaderTurn.{stops, goes_on}
use Rattle.cluster.proofs.table.judge.Goals as goal

pub returns-then-frames-gt-FRAMES : goal.returns-then-frames-gt-FRAMES
unfolding header_columns leading
returns-then-frames-gt-FRAMES c =
    c.fault.ensures
    ∙ sym (stops c.args.t.now c.record.result c.record.ensures.words 0 (simp (lt-leb _ _ c.if-frames-gt-FRAMES.true)) (omega arith))

pub returns-then-signals-gt-SIGNALS : goal.returns-then-signals-gt-SIGNALS
unfolding header_columns leading
returns-then-signals-gt-SIGNALS c =
    c.fault-then-signals-gt-SIGNALS.ensures
    ∙ sym (stops c.args.t.now c.record.result c.record.ensures.words 1
    (simp (le-leb _ _ c.if-frames-gt-FRAMES.false, lt-leb _ _ c.if-signals-gt-SIGNALS.true)) (omega arith))

pub returns-then-members-gt-MEMBERS : goal.returns-then-members-gt-MEMBERS
unfolding header_columns leading
returns-then-members-gt-MEMBERS c =
    let frames = le-leb _ _ c.if-frames-gt-FRAMES.false in
    let signals = le-leb _ _ c.if-signals-gt-SIGNALS.false in
    c.fault-then-members-gt-MEMBERS.ensures
    ∙ sym (stops c.args.t.now c.record.result c.record.ensures.words 2 (simp (frames, signals, lt-leb _ _ c.if-members-gt-MEMBERS.true))
    (omega arith))

pub returns-then-entries-gt-ENTRIES : goal.returns-then-entries-gt-ENTRIES
unfolding header_columns leading
returns-then-entries-gt-ENTRIES c =
    let frames = le-leb _ _ c.if-frames-gt-FRAMES.false in
    let signals = le-leb _ _ c.if-signals-gt-SIGNALS.false in
    let members = le-leb _ _ c.if-members-gt-MEMBERS.false in
    c.fault-then-entries-gt-ENTRIES.ensures
    ∙ sym (stops c.args.t.now c.record.result c.record.ensures.words 3 (simp (frames, signals, members, lt-leb _ _ c.if-entries-gt-ENTRIES.true))
    (omega arith))

pub returns-then-placements-gt-PLACEMENTS : goal.returns-then-placements-gt-PLACEMENTS
unfolding header_columns leading
returns-then-placements-gt-PLACEMENTS c =
    let frames = le-leb _ _ c.if-frames-gt-FRAMES.false in
    let signals = le-leb _ _ c.if-signals-gt-SIGNALS.false in
    let members = le-leb _ _ c.if-members-gt-MEMBERS.false in
    let entries = le-leb _ _ c.if-entries-gt-ENTRIES.false in
    c.fault-then-placements-gt-PLACEMENTS.ensures
    ∙ sym (stops c.args.t.now c.record.result c.record.ensures.words 4
    (simp (frames, signals, members, entries, lt-leb _ _ c.if-placements-gt-PLACEMENTS.true)) (omega arith))

pub returns : goal.returns
unfolding header_columns leading
returns c =
    let frames = le-leb _ _ c.if-frames-gt-FRAMES.false in
    let signals = le-leb _ _ c.if-signals-gt-SIGNALS.false in
    let members = le-leb _ _ c.if-members-gt-MEMBERS.false in
    let entries = le-leb _ _ c.if-entries-gt-ENTRIES.false in
    sym (goes_on c.args.t.now c.record.result c.record.ensures.words
    (simp (frames, signals, members, entries, le-leb _ _ c.if-placements-gt-PLACEMENTS.false)))
