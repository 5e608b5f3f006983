-- A line of pairs is read to its end, and any other is text.
use Rattle.std.proofs.Common.{arith}
use Rattle.buslog.proofs.Reading.{is_text, uneven, too_long, pairs_begin, no_pair, room_left, next_pair, all_pairs}
use Rattle.buslog.proofs.pairs.read.Goals as goal
use Rattle.buslog.proofs.pairs.read.Goals.{then-line-gt29-via-then-line-gt29, then-line-gt29-via-else-line-gt29+then-line-ne2}

pub returns-then-line-gt29 : goal.returns-then-line-gt29
returns-then-line-gt29 c =
    elim c.then-line-gt29.branch [
      | then-line-gt29-via-then-line-gt29 w ↦ too_long c.args.line.now w.if-line-gt29.true
      | then-line-gt29-via-else-line-gt29+then-line-ne2 w ↦ is_text c.args.line.now (uneven c.args.line.now w.if-line-ne2.true)
    ]

pub loop-part-init : goal.loop-part-init
loop-part-init c =
    rw (c.into_iter-part-iterator.ensures.into_iter_gives, c.chunks-part-items.ensures.rest, c.chunks-part-items.ensures.size, c.new-bytes.ensures)
    (pairs_begin c.args.line.now c.if-line-gt29.false c.if-line-ne2.false)

pub returns-in_err-part_byte : goal.returns-in_err-part_byte
returns-in_err-part_byte c =
    rw c.from_residual.ensures
    (no_pair c.args.line.now c.loop-part.bytes.items c.loop-part.invariant c.in-Some.part.now c.next.new.self.rest.now c.next.new.self.size
    c.in-Some.ensures.steps c.in_err-part_byte.ensures)

pub push-requires : goal.push-requires
push-requires c = (
  omega arith,
  room_left c.args.line.now c.loop-part.bytes.items c.loop-part.invariant c.in-Some.part.now c.next.new.self.rest.now
      c.next.new.self.size c.in-Some.ensures.steps,
)

pub loop-part-preserved : goal.loop-part-preserved
loop-part-preserved c =
    rw c.push.ensures.items
    (next_pair c.args.line.now c.loop-part.bytes.items c.loop-part.invariant c.in-Some.part.now c.next.new.self.rest.now c.next.new.self.size
    c.in-Some.ensures.steps c.in_ok-part_byte.ensures)

pub returns : goal.returns
returns c =
    all_pairs c.args.line.now c.loop-part.bytes.items c.loop-part.part-iterator.rest.now c.loop-part.invariant c.if-line-gt29.false
    c.in-None.ensures.steps.1.0
