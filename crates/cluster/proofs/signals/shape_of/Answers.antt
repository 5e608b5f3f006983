-- Two words of the record, which are there.
use Prim.Native.Nat.{◌+◌, ◌*◌}
use mathlib.Core.Path.{◌≡◌, refl}
use native.Mathlib.Omega.{arith}
use Rattle.cluster.specs.Table.{word, is_array, signal_kind, signal_width, signal_at, signal_words}
use Rattle.cluster.proofs.signals.shape_of.Goals as goal

pub returns : goal.returns
unfolding is_array signal_kind signal_width word
returns c =
    let at : c.signal_at.result + signal_words * c.args.s ≡ signal_at c.args.t.now c.args.s = omega (arith, c.signal_at.ensures.value) in
    rw at (refl, refl)
