-- An open transfer has 1 to 8 data bytes.
use Rattle.std.proofs.Common.{arith, length, ◌≡◌}
use lib.Seq.{length-take-le}
use Rattle.master.proofs.TransferTypes.{known_low, known_high}
use Rattle.master.proofs.transfer.Known.checksum_right.Goals as goal

pub bounds-nine-n : goal.bounds-nine-n
bounds-nine-n c = omega (arith, c.length-n.ensures, known_high c.args.self)

pub slice_bounds-nine-end : goal.slice_bounds-nine-end
slice_bounds-nine-end c =
    let nine : length c.args.nine ≡ 9 = search in
    omega (arith, c.length-n.ensures, known_high c.args.self, nine)

pub slice_bounds-checksum-end : goal.slice_bounds-checksum-end
slice_bounds-checksum-end c =
    let high = known_high c.args.self in
    let nine : length c.args.nine ≡ 9 = search in
    omega (arith, length-take-le c.length-n.result c.args.nine (omega (arith, c.length-n.ensures, high, nine)))

pub checksum-requires : goal.checksum-requires
checksum-requires c =
    let low = known_low c.args.self c.requires in
    let high = known_high c.args.self in
    let nine : length c.args.nine ≡ 9 = search in
    let n = length-take-le c.length-n.result c.args.nine (omega (arith, c.length-n.ensures, high, nine)) in
    (omega (arith, c.length-n.ensures, low, n), omega (arith, c.length-n.ensures, high, n))
