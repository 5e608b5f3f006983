-- Each way out has the tests that led there.
use Prim.Native.Nat.{ℕ, ◌<◌}
use mathlib.Core.Bool.{Bool, true, and-false}
use mathlib.Core.Path.{◌≡◌, refl, sym, ◌∙◌, ap}
use Rattle.std.specs.Prelude.{is_some}
use native.Mathlib.Omega.{arith}
use lib.Dec.{ltb}
use lib.ListN.{get_or}
use Rattle.cluster.specs.Columns.{follows, placement_columns, placement_signal_right}
use Rattle.cluster.specs.Read.{leading}
use Rattle.cluster.specs.Table.{frame_count, signal_count, signal_width, is_array}
use Rattle.cluster.proofs.Clauses.{signal_says, frame_says}
use Rattle.cluster.proofs.PlacementTurn.{stops, all_right, goes_on, passes}
use Rattle.cluster.proofs.Widths.{width_range}
use Rattle.cluster.proofs.placements.PassedSection.pass.Goals as goal
use Rattle.cluster.proofs.placements.PassedSection.pass.Goals.{then-not-follows-via-then-not-follows}
use Rattle.cluster.proofs.placements.PassedSection.pass.Goals.{then-not-follows-via-else-not-follows+then-not-signal_there}

signal_is : (signals : ℕ) (up : Bool) (s : ℕ) → up ≡ true → ltb s signals ≡ true → placement_signal_right signals up s ≡ true
signal_is signals up s u there = rw (u, there) refl

pub returns-then-not-follows-clause-told : goal.returns-then-not-follows-clause-told
unfolding placement_columns leading
returns-then-not-follows-clause-told c rest =
    rw c.fault.ensures
    (stops c.args.t.now c.args.k c.args.self.now c.requires.1 c.requires.0 c.record.result c.record.ensures.words 0 _
    (elim c.then-not-follows.branch [
      | then-not-follows-via-then-not-follows w ↦ simp (sym c.follows.ensures ∙ w.if-not-follows.true)
      | then-not-follows-via-else-not-follows+then-not-signal_there w ↦ simp (sym w.signal_there.ensures ∙ w.if-not-signal_there.true, and-false)
    ]) (omega arith) (omega arith) rest)

pub returns-then-not-frame_right-clause-told : goal.returns-then-not-frame_right-clause-told
unfolding placement_columns leading
returns-then-not-frame_right-clause-told c rest =
    let signal = signal_is _ _ _ (sym c.follows.ensures ∙ c.if-not-follows.false) (sym c.signal_there.ensures ∙ c.if-not-signal_there.false) in
    rw c.fault-then-not-frame_right.ensures
    (stops c.args.t.now c.args.k c.args.self.now c.requires.1 c.requires.0 c.record.result c.record.ensures.words 1 _
    (simp (signal, sym c.frame_right.ensures ∙ c.if-not-frame_right.true)) (omega arith) (omega arith) rest)

pub with_placement-requires : goal.with_placement-requires
with_placement-requires c =
    let t = c.args.t.now in
    let s = get_or c.record.result 0 0 in
    let f = get_or c.record.result 1 0 in
    let records = c.requires.1.records in
    let signal : s < signal_count t = (signal_says (signal_count t) (follows c.args.self.now.placed s) s (signal_is _ _ _ (sym c.follows.ensures ∙ c.if-not-follows.false) (sym c.signal_there.ensures ∙ c.if-not-signal_there.false))).1 in
    let frame : f < frame_count t = (frame_says (frame_count t) _ _ f (sym c.frame_right.ensures ∙ c.if-not-frame_right.false)).0 in
    let width = width_range (is_array t s) (signal_width t s) (records.widths s signal) in
    (c.record.ensures.upper_bound 2, omega (arith, c.shape_of-shape.ensures.1, width.0), omega (arith, c.room_of-room.ensures.0, records.short f frame))

pub returns-in_default-clause-told : goal.returns-in_default-clause-told
unfolding placement_columns leading
returns-in_default-clause-told c rest =
    let signal = signal_is _ _ _ (sym c.follows.ensures ∙ c.if-not-follows.false) (sym c.signal_there.ensures ∙ c.if-not-signal_there.false) in
    let frame = sym c.frame_right.ensures ∙ c.if-not-frame_right.false in
    let offset = rw (c.shape_of-shape.ensures.0, c.shape_of-shape.ensures.1, c.room_of-room.ensures.0) at c.with_placement.ensures.right in
    rw c.fault-in_default.ensures
    (stops c.args.t.now c.args.k c.args.self.now c.requires.1 c.requires.0 c.record.result c.record.ensures.words 2 _
    (simp (signal, frame, sym offset ∙ ap is_some c.in_default.is)) (omega arith) (omega arith) rest)

pub returns : goal.returns
returns c =
    let a = c.args in
    let signal = signal_is _ _ _ (sym c.follows.ensures ∙ c.if-not-follows.false) (sym c.signal_there.ensures ∙ c.if-not-signal_there.false) in
    let frame = sym c.frame_right.ensures ∙ c.if-not-frame_right.false in
    let offset = rw (c.shape_of-shape.ensures.0, c.shape_of-shape.ensures.1, c.room_of-room.ensures.0) at c.with_placement.ensures.right in
    let right =
    all_right a.t.now a.k a.self.now c.requires.1 c.requires.0 c.record.result c.record.ensures.words signal frame
    (sym offset ∙ ap is_some c.in-Some.is) in
    record {
      told = goes_on a.t.now a.k a.self.now c.requires.1 c.requires.0 c.record.result c.record.ensures.words right;
      passed =
          passes a.t.now a.k a.self.now c.requires.1 c.requires.0 c.record.result c.record.ensures.words right _
          (rw (c.in-Some.is, c.shape_of-shape.ensures.1) at c.with_placement.ensures.bits);
    }
