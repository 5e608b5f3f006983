-- By cases of what is open.
use Rattle.std.proofs.Common.{◌∙◌, sym, refl, arith}
use Rattle.master.specs.Byte.{last_byte}
use Rattle.master.proofs.TransferTypes.{transfer_there, transfer_length}
use Rattle.master.proofs.LastByte.{last_frame, last_other, last_response}
use Rattle.master.proofs.Parts.{frame_end}
use Rattle.master.proofs.closing.InTransfer.last_byte.Goals as goal

pub checksum_right-requires : goal.checksum_right-requires
checksum_right-requires c = rw c.known.ensures.opened c.args.self.opened

pub returns-then-not-checksum_right : goal.returns-then-not-checksum_right
unfolding last_byte
returns-then-not-checksum_right c =
    let wrong = sym (rw (c.known.ensures.table, c.known.ensures.opened) at c.checksum_right.ensures) ∙ c.if-not-checksum_right.true in
    record { handed = rw (wrong, c.failed.ensures); kept = rw wrong }

pub store-requires : goal.store-requires
store-requires c =
    let a = c.args in
    let there = rw c.in-Frame.is at (transfer_there a.self) in
    let high = rw c.in-Frame.is at (transfer_length a.self) in
    (frame_end _ a.self.t.right a.bytes.now c.requires c.in-Frame.f there _ refl, omega (arith, c.length.ensures, high))

pub returns-in-Frame : goal.returns-in-Frame
returns-in-Frame c =
    let right = sym (rw (c.known.ensures.table, c.known.ensures.opened) at c.checksum_right.ensures) ∙ c.if-not-checksum_right.false in
    last_frame _ c.args.self.state c.args.nine c.args.bytes.now right _ _ c.in-Frame.f c.length.result
    c.in-Frame.is (rw c.received-next.ensures) c.length.ensures c.store.ensures

pub returns-in-Response : goal.returns-in-Response
returns-in-Response c =
    let right = sym (rw (c.known.ensures.table, c.known.ensures.opened) at c.checksum_right.ensures) ∙ c.if-not-checksum_right.false in
    last_response _ c.args.self.state c.args.nine c.args.bytes.now right _ _
    c.in-Response.is (rw (c.received-next.ensures, c.responding.ensures)) refl

pub returns-in_default : goal.returns-in_default
returns-in_default c =
    let right = sym (rw (c.known.ensures.table, c.known.ensures.opened) at c.checksum_right.ensures) ∙ c.if-not-checksum_right.false in
    last_other _ c.args.self.state c.args.nine c.args.bytes.now right _ _
    c.in_default.not-Frame c.in_default.not-Response (rw c.received-next.ensures) refl
