-- What stands behind is the bytes with the data put at their place.
use Rattle.std.proofs.Common.{arith, length, ◌*◌, ◌≡◌}
use Rattle.master.proofs.Nine.{stored}
use Rattle.master.proofs.transfer.store.Goals as goal

pub returns : goal.returns
returns c =
    let a = c.args in
    let asked = c.requires in
    let l : length a.nine ≡ 9 = search in
    stored a.bytes.now a.nine _ (8 * a.f) a.n (omega (arith, asked.0, asked.1)) (omega (arith, l, asked.1)) c.copy_from_slice.ensures.after
