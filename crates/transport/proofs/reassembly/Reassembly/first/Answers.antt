-- A first frame is ignored or opens a message, by the tests of the length that it tells.
use mathlib.Core.Path.{refl}
use Rattle.transport.specs.Reassembly.{first_step}
use Rattle.transport.proofs.Outcomes.{leaves_plain, leaves_written, first_low, first_high, first_taken}
use Rattle.transport.proofs.reassembly.Reassembly.first.Goals as goal
use Rattle.transport.proofs.reassembly.Reassembly.first.Goals.{then-length-lt7-via-then-length-lt7, then-length-lt7-via-else-length-lt7+then-buffer-length}

pub returns-then-length-lt7 : goal.returns-then-length-lt7
returns-then-length-lt7 c =
    elim c.then-length-lt7.branch [
      | then-length-lt7-via-then-length-lt7 w ↦ leaves_plain _ _ _ _ _ (first_low _ _ _ w.if-length-lt7.true) refl
      | then-length-lt7-via-else-length-lt7+then-buffer-length w ↦
          leaves_plain _ _ _ _ _ (first_high _ _ _ w.if-length-lt7.false w.if-buffer-length.true) refl
    ]

pub returns : goal.returns
unfolding first_step
returns c =
    let a = c.args in
    leaves_written _ (first_step a.frame.now) _ _ _
    (first_taken a.self.now.message a.frame.now a.buffer.now c.if-length-lt7.false c.if-buffer-length.false) refl c.deliver.ensures
