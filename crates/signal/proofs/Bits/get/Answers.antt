-- The bits are a field of the window.
use native.Mathlib.Omega.{arith}
use Rattle.signal.proofs.Windows.{get_window}
use Rattle.signal.proofs.Bits.get.Goals as goal

pub returns : goal.returns
returns c =
    rw (c.power.ensures.value, c.power-2.ensures.value)
    (get_window _ _ _ _ _ (omega (arith, c.args.self.in_range)) c.window.ensures)
