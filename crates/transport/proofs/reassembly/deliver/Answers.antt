-- The part that was lent has the bytes.
use mathlib.Core.Path.{◌≡◌}
use Prim.Native.Nat.{◌+◌, ◌-◌}
use native.Mathlib.Omega.{arith}
use lib.ListN.{length}
use lib.Seq.{drop-drop}
use Rattle.transport.specs.Reassembly.{written}
use Rattle.transport.proofs.reassembly.deliver.Goals as goal

pub returns : goal.returns
unfolding written
returns c =
    let n = length c.args.bytes.now in
    let e : c.args.place + n - c.args.place ≡ n = omega arith in
    rw (e, c.copy_from_slice.ensures.after, drop-drop n c.args.place c.args.buffer.now)
