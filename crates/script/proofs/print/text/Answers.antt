-- No text has room behind the end, and any other is copied as far as there is room.
use Rattle.std.proofs.Common.{refl, arith}
use Rattle.script.proofs.Putting.{puts_behind, copied_length, room_length, puts_copied}
use Rattle.script.proofs.print.text.Goals as goal

pub returns-then-out-at : goal.returns-then-out-at
returns-then-out-at c = puts_behind _ _ _ c.if-out-at.true

pub returns : goal.returns
returns c =
    let copied = copied_length c.args.text.now c.args.out.now c.args.at c.min-n.result c.if-out-at.false c.min-n.ensures in
    let room = room_length c.args.text.now c.args.out.now c.args.at c.min-n.result c.if-out-at.false c.min-n.ensures in
    puts_copied c.args.text.now c.args.out.now c.args.at c.min-n.result c.if-out-at.false c.min-n.ensures
    (c.copy.ensures.count (omega (arith, c.min-n.ensures, copied, room)))
    (c.copy.ensures.left (omega (arith, c.min-n.ensures, copied, room))) refl
