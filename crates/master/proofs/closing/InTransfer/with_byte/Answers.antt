-- An open transfer has at most eight bytes passed.
use Rattle.std.proofs.Common.{arith}
use Rattle.master.proofs.TransferTypes.{transfer_count}
use Rattle.master.proofs.closing.InTransfer.with_byte.Goals as goal

pub bounds-nine-self : goal.bounds-nine-self
bounds-nine-self c = omega (arith, transfer_count c.args.self)
