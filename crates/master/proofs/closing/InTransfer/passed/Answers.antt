-- An open transfer has at most eight bytes passed.
use Rattle.std.proofs.Common.{arith}
use Rattle.master.proofs.TransferTypes.{transfer_count}
use Rattle.master.proofs.closing.InTransfer.passed.Goals as goal

pub overflow_add-transfer : goal.overflow_add-transfer
overflow_add-transfer c = omega (arith, transfer_count c.args.self)
