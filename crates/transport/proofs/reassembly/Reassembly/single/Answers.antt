-- A single frame is ignored or done, by the test of the buffer.
use mathlib.Core.Path.{refl, ◌∙◌}
use Rattle.transport.specs.Reassembly.{frame_pci, single_step}
use Rattle.transport.proofs.Bytes.{part}
use Rattle.transport.proofs.Outcomes.{leaves_plain, leaves_written, single_ignored, single_taken}
use Rattle.transport.proofs.reassembly.Reassembly.single.Goals as goal

pub returns-then-buffer-n : goal.returns-then-buffer-n
returns-then-buffer-n c = leaves_plain _ _ _ _ _ (single_ignored _ _ _ c.if-buffer-n.true) refl

pub returns : goal.returns
unfolding single_step
returns c =
    let a = c.args in
    leaves_written _ (single_step a.frame.now) _ _ _ (single_taken a.self.now.message a.frame.now a.buffer.now c.if-buffer-n.false)
    (rw (c.closed.ensures.state, c.closed.ensures.same))
    (c.deliver.ensures ∙ rw (part a.frame.now 2 (frame_pci a.frame.now)))
