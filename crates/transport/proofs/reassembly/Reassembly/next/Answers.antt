-- A next frame with none open is ignored, and otherwise the tests of the counter and of the buffer say what it does.
use mathlib.Core.Path.{◌≡◌, refl, ◌∙◌}
use mathlib.Core.Bool.{true}
use native.Mathlib.Omega.{arith}
use Rattle.transport.specs.Parts.{next_outcome}
use Rattle.transport.specs.Reassembly.{fits, assembly_fits}
use Rattle.transport.specs.declared.reassembly.Assembly.{Assembly}
use Rattle.std.specs.Prelude.{Option, Some}
use Rattle.transport.proofs.Bytes.{part, part_length}
use Rattle.transport.proofs.FitLaws.{fits_exactly}
use Rattle.transport.proofs.Fitting.{counter_below, due_left}
use Rattle.transport.proofs.Outcomes.{leaves_plain, next_broken, next_short, next_taken, leaves_continued}
use Rattle.transport.proofs.reassembly.Reassembly.next.Goals as goal

-- the open message of a state that fits
fitting : (s : Option Assembly) (m : Assembly) → fits s ≡ true → s ≡ Some m → assembly_fits m ≡ true
unfolding fits
fitting s m h e = rw e at h

pub returns-in_default : goal.returns-in_default
unfolding next_outcome
returns-in_default c = leaves_plain _ _ _ _ _ (rw c.in_default.is) refl

pub overflow_add-message : goal.overflow_add-message
overflow_add-message c = omega (arith, counter_below _ (fitting _ _ c.requires c.in-Some.is))

pub returns-then-frame-message : goal.returns-then-frame-message
unfolding next_outcome
returns-then-frame-message c =
    rw c.in-Some.is (leaves_plain _ _ _ _ _ (next_broken _ _ _ c.if-frame-message.true) (rw (c.closed.ensures.state, c.closed.ensures.same)))

pub returns-then-buffer-message : goal.returns-then-buffer-message
unfolding next_outcome
returns-then-buffer-message c =
    rw c.in-Some.is (leaves_plain _ _ _ _ _ (next_short _ _ _ c.if-frame-message.false c.if-buffer-message.true) (rw c.of.ensures))

pub deliver-requires : goal.deliver-requires
deliver-requires c =
    omega (
      arith,
      part_length c.args.frame.now 2 c.bytes_due-n.result (omega (arith, c.told-frame, c.bytes_due-n.ensures.few)),
      c.bytes_due-n.ensures.value,
      due_left _ (fitting _ _ c.requires c.in-Some.is),
    )

pub overflow_add-message-2 : goal.overflow_add-message-2
overflow_add-message-2 c =
    let h = fitting _ _ c.requires c.in-Some.is in
    omega (arith, c.bytes_due-n.ensures.value, due_left _ h, ((fits_exactly _).0 h).length_high)

pub returns : goal.returns
unfolding next_outcome
returns c =
    let m = c.in-Some.message in
    rw c.in-Some.is
    (leaves_continued m c.args.frame.now c.args.buffer.now c.bytes_due-n.result _ _
    (next_taken _ _ _ c.if-frame-message.false c.if-buffer-message.false)
    c.bytes_due-n.ensures.value
    c.reached.ensures
    (c.deliver.ensures ∙ rw (part c.args.frame.now 2 c.bytes_due-n.result)))
