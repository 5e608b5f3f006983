-- Each way out has the tests that led to it, and what the calls answer is put in.
use Rattle.std.proofs.Common.{◌<◌, ◌∙◌, refl, ⊎_elim, arith, eq-eqb, ne_eqb}
use Rattle.cluster.specs.Table.{frame_count}
use Rattle.cluster.proofs.FrameLaws.{frame_length_low, frame_length_high}
use Rattle.buslog.proofs.Judging.{diagnostic, listed, unlisted}
use Rattle.buslog.proofs.judge.of_identifier.Goals as goal

pub returns-then-id-eq60 : goal.returns-then-id-eq60
returns-then-id-eq60 c =
    c.of_known.ensures
    ∙ diagnostic _ _ _ (⊎_elim (λ w. rw (eq-eqb _ 60 w)) (λ w. rw (ne_eqb _ 60 w.0, w.1)) c.then-id-eq60.either)

pub of_known-requires-in-Some : goal.of_known-requires-in-Some
of_known-requires-in-Some c =
    let t = c.args.t.words.now in
    let f = c.in-Some.f in
    let there : f < frame_count t = omega (arith, c.in-Some.ensures.0, c.in-Some.ensures.1) in
    let n = c.length.ensures in
    (c.requires, omega (arith, frame_length_low t c.args.t.right f there, n), omega (arith, frame_length_high t c.args.t.right f there, n))

pub returns-in-Some : goal.returns-in-Some
returns-in-Some c =
    let f = c.in-Some.ensures in
    let there : c.in-Some.f < frame_count c.args.t.words.now = omega (arith, f.0, f.1) in
    c.of_known-in-Some.ensures
    ∙ listed _ _ _ (rw (ne_eqb _ 60 c.if-id-eq60.false, ne_eqb _ 61 c.if-id-eq61.false)) _ _ _ f.1 there c.length.ensures c.model.ensures

pub returns-in-None : goal.returns-in-None
returns-in-None c =
    let none = c.in-None.ensures in
    unlisted _ _ _ (rw (ne_eqb _ 60 c.if-id-eq60.false, ne_eqb _ 61 c.if-id-eq61.false)) _ refl (omega (arith, none))
