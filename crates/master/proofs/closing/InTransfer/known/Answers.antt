-- A state that fits has a transfer that the table has.
use Rattle.master.proofs.TransferTypes.{transfer_there}
use Rattle.master.proofs.closing.InTransfer.known.Goals as goal

pub invariant_of-result : goal.invariant_of-result
invariant_of-result c = record { there = transfer_there c.args.self }
