-- For an identifier and a length that a frame has, there is a checksum.
use Rattle.std.proofs.Common.{◌≡◌, ◌+◌, length, take, sym, ◌∙◌, arith, length-take-le}
use Rattle.wire.proofs.AnswerLaws.{summed, not_summed}
use Rattle.buslog.proofs.Judging.{other_length, right_sum, other_sum}
use Rattle.buslog.proofs.judge.of_known.Goals as goal

pub returns-then-rest-n : goal.returns-then-rest-n
returns-then-rest-n c = other_length _ _ c.args.wish c.args.rest.now c.if-rest-n.true

pub returns-in-Ok : goal.returns-in-Ok
returns-in-Ok c =
    let a = c.args in
    let h : length a.rest.now ≡ a.length + 1 = c.if-rest-n.false in
    let l : length (take a.length a.rest.now) ≡ a.length = length-take-le a.length a.rest.now (omega arith) in
    let e = summed a.id a.wish (take a.length a.rest.now) c.in-Ok.sum (omega arith, omega arith, omega arith) (sym c.in-Ok.ensures.value) in
    right_sum _ _ a.wish a.rest.now _ h e c.if-rest-n-2.true

pub returns-in_default : goal.returns-in_default
returns-in_default c =
    let a = c.args in
    let h : length a.rest.now ≡ a.length + 1 = c.if-rest-n.false in
    let l : length (take a.length a.rest.now) ≡ a.length = length-take-le a.length a.rest.now (omega arith) in
    let e = summed a.id a.wish (take a.length a.rest.now) c.in-Ok.sum (omega arith, omega arith, omega arith) (sym c.in-Ok.ensures.value) in
    other_sum _ _ a.wish a.rest.now _ h e c.if-rest-n-2.false

pub returns-in_default-2 : goal.returns-in_default-2
returns-in_default-2 c =
    let a = c.args in
    let h : length a.rest.now ≡ a.length + 1 = c.if-rest-n.false in
    let l : length (take a.length a.rest.now) ≡ a.length = length-take-le a.length a.rest.now (omega arith) in
    absurd (not_summed a.id a.wish (take a.length a.rest.now) c.in_default.field-0 (omega arith, omega arith, omega arith)
    (sym c.of.ensures.value ∙ c.in_default.is))
