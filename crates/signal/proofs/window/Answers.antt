-- Three bytes are 24 bits.
use Rattle.signal.proofs.Windows.{window_is}
use Rattle.signal.proofs.window.Goals as goal

pub returns : goal.returns
returns c =
    rw (c.byte.ensures.value, c.byte-2.ensures.value, c.byte-3.ensures.value)
    (window_is _ _ (λ i. (c.type_inv.bytes i).fits))
