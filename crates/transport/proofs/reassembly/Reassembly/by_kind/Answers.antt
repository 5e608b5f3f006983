-- The PCI's range says the kind.
use mathlib.Core.Path.{refl}
use native.Mathlib.Omega.{arith}
use Rattle.transport.specs.Reassembly.{single, first, frame_pci}
use Rattle.transport.proofs.KindLaws.{kind_single, kind_first, kind_next}
use Rattle.transport.proofs.Steps.{step_kind, step_next}
use Rattle.transport.proofs.reassembly.Reassembly.by_kind.Goals as goal

pub returns-in-1-to-6 : goal.returns-in-1-to-6
returns-in-1-to-6 c =
    let p = c.requires in
    rw (step_kind _ _ _ p.0 c.told-frame p.1 single (kind_single (frame_pci c.args.frame.now) (omega arith) (omega arith)) refl) c.single.ensures

pub returns-in-16-to-31 : goal.returns-in-16-to-31
returns-in-16-to-31 c =
    let p = c.requires in
    rw (step_kind _ _ _ p.0 c.told-frame p.1 first (kind_first (frame_pci c.args.frame.now) (omega arith) (omega arith)) refl) c.first.ensures

pub returns-in-32-to-47 : goal.returns-in-32-to-47
returns-in-32-to-47 c =
    let p = c.requires in
    rw (step_next _ _ _ p.0 c.told-frame p.1 (kind_next (frame_pci c.args.frame.now) (omega arith) (omega arith))) c.next.ensures
