-- The message of a state that fits fits.
use Rattle.master.proofs.TransferTypes.{transfer_message}
use Rattle.master.proofs.closing.InTransfer.sent.Goals as goal

pub sent-requires : goal.sent-requires
sent-requires c = transfer_message c.args.self
