-- The window is read, its field replaced, and its three bytes stored.
use mathlib.Core.Path.{◌∙◌}
use native.Mathlib.Omega.{arith}
use borrow.Author.Rules.{rules}
use Rattle.signal.proofs.Numbers.{number_below}
use Rattle.signal.proofs.Windows.{put_window}
use Rattle.signal.proofs.Bits.put.Goals as goal

pub replaced-new-requires : goal.replaced-new-requires
replaced-new-requires c = rw c.window.ensures (number_below 24 _)

pub returns : goal.returns
returns c =
    c.set_byte-3.ensures
    ∙ rw (c.set_byte-2.ensures, c.set_byte.ensures)
    (put_window _ _ _ _ _ _ _ (λ i. search rules) (omega (arith, c.args.self.in_range))
    c.window.ensures c.replaced-new.ensures)
