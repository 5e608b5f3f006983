-- The frame's part of the buffer is there, and has 1 to 8 bytes.
use Rattle.std.proofs.Common.{ap}
use Rattle.master.proofs.Parts.{part_data, part_end, part_high, part_low}
use Rattle.master.specs.Transfers.{copied}
use Rattle.master.specs.declared.state.Opened.TheVariants.{Frame}
use Rattle.master.proofs.transfer.Opening.frame_copy.Goals as goal

pub slice_bounds-copied-end : goal.slice_bounds-copied-end
slice_bounds-copied-end c =
    let x = c.args.self in
    part_end _ x.known.t.right x.bytes.now x.size c.args.f (rw c.requires at x.known.there) c.length.result c.length.ensures

pub copied-requires : goal.copied-requires
copied-requires c =
    let x = c.args.self in
    let there = rw c.requires at x.known.there in (
      part_low _ x.known.t.right x.bytes.now x.size c.args.f there c.length.result c.length.ensures,
      part_high _ x.known.t.right x.bytes.now x.size c.args.f there c.length.result c.length.ensures,
    )

pub returns : goal.returns
returns c =
    let x = c.args.self in
    let there = rw c.requires at x.known.there in
    rw (← c.published.ensures, c.if-not-published.false, c.copied.ensures, c.requires)
    (ap (copied x.known.t.words.now (Frame c.args.f))
    (part_data _ x.known.t.right x.bytes.now x.size c.args.f there c.length.result c.length.ensures))
