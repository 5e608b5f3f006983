-- Each way out has the tests that led there.
use mathlib.Core.Bool.{and-false}
use mathlib.Core.Path.{◌≡◌}
use borrow.Author.Tests.{le-leb, lt-leb, lt-ltb, le-ltb}
use native.Mathlib.Omega.{arith}
use Rattle.cluster.specs.Columns.{frame_columns}
use Rattle.cluster.specs.Read.{leading}
use Rattle.cluster.specs.Table.{frame_words}
use Rattle.cluster.proofs.FrameTurn.{seen, stops, goes_on, passes}
use Rattle.cluster.proofs.frames.PassedSection.pass.Goals as goal
use Rattle.cluster.proofs.frames.PassedSection.pass.Goals.{then-id-ge-IDENTIFIERS-via-then-id-ge-IDENTIFIERS}
use Rattle.cluster.proofs.frames.PassedSection.pass.Goals.{then-id-ge-IDENTIFIERS-via-else-id-ge-IDENTIFIERS+then-self-id}
use Rattle.cluster.proofs.frames.PassedSection.pass.Goals.{then-bytes-lt1-via-then-bytes-lt1, then-bytes-lt1-via-else-bytes-lt1+then-bytes-gt8}

pub record-requires : goal.record-requires
record-requires c =
    (omega arith, ((omega arith, omega (arith, c.requires.0, c.requires.1.limits.frames)), λ e. omega (arith, c.requires.0, c.requires.1.whole e)))

pub returns-then-id-ge-IDENTIFIERS-clause-told : goal.returns-then-id-ge-IDENTIFIERS-clause-told
unfolding frame_columns leading
returns-then-id-ge-IDENTIFIERS-clause-told c rest =
    rw (c.fault.ensures)
    (stops c.args.t.now c.args.f c.args.self.now c.requires.1 c.record.result c.record.ensures.words 0 _
    (elim c.then-id-ge-IDENTIFIERS.branch [
      | then-id-ge-IDENTIFIERS-via-then-id-ge-IDENTIFIERS w ↦ simp (le-ltb _ _ w.if-id-ge-IDENTIFIERS.true)
      | then-id-ge-IDENTIFIERS-via-else-id-ge-IDENTIFIERS+then-self-id w ↦ simp (w.if-self-id.true, and-false)
    ]) (omega arith) (omega arith) rest)

pub returns-then-bytes-lt1-clause-told : goal.returns-then-bytes-lt1-clause-told
unfolding frame_columns leading
returns-then-bytes-lt1-clause-told c rest =
    let id = lt-ltb _ _ c.if-id-ge-IDENTIFIERS.false in
    rw (c.fault-then-bytes-lt1.ensures)
    (stops c.args.t.now c.args.f c.args.self.now c.requires.1 c.record.result c.record.ensures.words 1 _
    (elim c.then-bytes-lt1.branch [
      | then-bytes-lt1-via-then-bytes-lt1 w ↦ simp (id, c.if-self-id.false, lt-leb _ _ w.if-bytes-lt1.true)
      | then-bytes-lt1-via-else-bytes-lt1+then-bytes-gt8 w ↦ simp (id, c.if-self-id.false, lt-leb _ _ w.if-bytes-gt8.true, and-false)
    ]) (omega arith) (omega arith) rest)

pub returns-then-flags-gt3-clause-told : goal.returns-then-flags-gt3-clause-told
unfolding frame_columns leading
returns-then-flags-gt3-clause-told c rest =
    let id = lt-ltb _ _ c.if-id-ge-IDENTIFIERS.false in
    rw (c.fault-then-flags-gt3.ensures)
    (stops c.args.t.now c.args.f c.args.self.now c.requires.1 c.record.result c.record.ensures.words 2 _
    (simp (id, c.if-self-id.false, le-leb _ _ c.if-bytes-lt1.false, le-leb _ _ c.if-bytes-gt8.false, lt-leb _ _ c.if-flags-gt3.true))
    (omega arith) (omega arith) rest)

pub returns : goal.returns
unfolding frame_columns leading
returns c =
    let id = lt-ltb _ _ c.if-id-ge-IDENTIFIERS.false in
    let right : leading (seen c.args.t.now c.args.f c.args.self.now c.requires.1 c.record.result c.record.ensures.words) ≡ frame_words =
    simp (id, c.if-self-id.false, le-leb _ _ c.if-bytes-lt1.false, le-leb _ _ c.if-bytes-gt8.false, le-leb _ _ c.if-flags-gt3.false) in
    record {
      told = goes_on c.args.t.now c.args.f c.args.self.now c.requires.1 c.record.result c.record.ensures.words right;
      passed = passes c.args.t.now c.args.f c.args.self.now c.requires.1 c.record.result c.record.ensures.words right c.if-id-ge-IDENTIFIERS.false;
    }
