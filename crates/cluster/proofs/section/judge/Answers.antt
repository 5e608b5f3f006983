-- A record is passed, or its fault is the answer.
use Rattle.std.proofs.Common.{◌+◌, ◌∙◌, sym}
use Rattle.refusal.proofs.PassedOn.{passed_on}
use Rattle.cluster.proofs.Scan.{next_record, no_record}
use Rattle.cluster.proofs.section.judge.Goals as goal

pub returns-in_err-pass-clause-told : goal.returns-in_err-pass-clause-told
returns-in_err-pass-clause-told g c =
    let s = g.S.Section in
    let t = c.args.t.now in
    let k = c.loop-k.k in
    let told = next_record t (s.at t k) (s.at t (k + 1)) (s.right t) k c.args.n _ c.loop-k-test.true c.pass.ensures.told in
    let is = passed_on c.from_residual.result c.in_err-pass.field-0.0 c.from_residual.ensures.1 in
    is ∙ sym (c.loop-k.invariant.left ∙ told ∙ rw c.in_err-pass.was)

pub loop-k-preserved : goal.loop-k-preserved
loop-k-preserved g c =
    let s = g.S.Section in
    let t = c.args.t.now in
    let k = c.loop-k.k in
    let told = next_record t (s.at t k) (s.at t (k + 1)) (s.right t) k c.args.n _ c.loop-k-test.true c.pass.ensures.told in
    record { known = c.in_ok-pass.ensures.passed; left = c.loop-k.invariant.left ∙ told ∙ rw c.in_ok-pass.was }

pub returns-clause-told : goal.returns-clause-told
returns-clause-told g c =
    let s = g.S.Section in
    sym (c.loop-k.invariant.left ∙ no_record c.args.t.now (s.at c.args.t.now c.loop-k.k)
    (s.right c.args.t.now) c.loop-k.k c.args.n c.loop-k-test.false)
