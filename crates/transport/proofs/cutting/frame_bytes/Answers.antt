-- Each way out has the tests that led to it, and the frame's definition is opened.
use native.Mathlib.Omega.{arith}
use mathlib.Core.Path.{◌≡◌, sym, ◌∙◌}
use Rattle.transport.specs.Cutting.{single_frame, first_frame}
use Rattle.transport.proofs.Counting.{later_frame}
use Rattle.transport.proofs.CuttingLaws.{frame_single, frame_first}
use Rattle.transport.proofs.cutting.frame_bytes.Goals as goal

pub returns-then-k-gt0 : goal.returns-then-k-gt0
returns-then-k-gt0 c = later_frame _ _ _ _ c.if-k-gt0.true c.with_data.ensures

pub returns-then-n-le6 : goal.returns-then-n-le6
unfolding single_frame
returns-then-n-le6 c =
    let e : c.args.k ≡ 0 = omega arith in
    rw e (c.with_data-then-n-le6.ensures ∙ sym (frame_single _ _ c.if-n-le6.true))

pub returns-else-n-le6 : goal.returns-else-n-le6
unfolding first_frame
returns-else-n-le6 c =
    let e : c.args.k ≡ 0 = omega arith in
    rw e (c.with_data-else-n-le6.ensures ∙ sym (frame_first _ _ c.if-n-le6.false))
