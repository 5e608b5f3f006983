-- The header and the part of the message are put over eight bytes of 255.
use Rattle.transport.proofs.Bytes.{framed}
use Rattle.transport.proofs.cutting.with_data.Goals as goal

pub returns : goal.returns
returns c =
    let a = c.args in
    rw c.copy_from_slice.ensures.after
    (framed a.header.now a.message.now _ a.place _ _ c.requires c.min.ensures c.min-n.ensures c.copy_from_slice-2.ensures.after)
