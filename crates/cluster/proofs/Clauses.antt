-- What a right column says of its words, for the columns that are several tests.
use Prim.Native.Nat.{ℕ, ◌≤◌, ◌<◌}
use mathlib.Core.Path.{◌≡◌}
use mathlib.Core.Bool.{Bool, true, false, not, ◌&&◌}
use borrow.Author.Tests.{ltb-true, leb-true, not-true}
use lib.Dec.{ltb, leb}
use Rattle.wire.proofs.Tests.{and_left, and_right}
use Rattle.cluster.specs.Columns.{within, identifier_right, placement_signal_right, placement_frame_right, offset_right}
use Rattle.cluster.specs.Columns.{placement_offset_right, member_frame_right}
use Rattle.cluster.specs.Table.{identifiers}

pub within_low : (a b x : ℕ) → within a b x ≡ true → a ≤ x
within_low a b x h = leb-true a x (and_left (leb a x) (leb x b) h)

pub within_high : (a b x : ℕ) → within a b x ≡ true → x ≤ b
within_high a b x h = leb-true x b (and_right (leb a x) (leb x b) h)

pub identifier_says : (used : Bool) (id : ℕ) → identifier_right used id ≡ true → (id < identifiers) × (used ≡ false)
identifier_says used id h = (
  ltb-true id identifiers (and_left (ltb id identifiers) (not used) h),
  not-true used (and_right (ltb id identifiers) (not used) h),
)

pub member_says : (frames : ℕ) (published listed : Bool) (frame : ℕ) → member_frame_right frames published listed frame ≡ true
    → (frame < frames) × (published ≡ true) × (listed ≡ false)
member_says frames published listed frame h =
    let known : (ltb frame frames && published) ≡ true = and_left (ltb frame frames && published) (not listed) h in (
      ltb-true frame frames (and_left (ltb frame frames) published known),
      and_right (ltb frame frames) published known,
      not-true listed (and_right (ltb frame frames && published) (not listed) h),
    )

pub signal_says : (signals : ℕ) (up : Bool) (signal : ℕ) → placement_signal_right signals up signal ≡ true → (up ≡ true) × (signal < signals)
signal_says signals up signal h = (and_left up (ltb signal signals) h, ltb-true signal signals (and_right up (ltb signal signals) h))

pub frame_says : (frames : ℕ) (again mixed : Bool) (frame : ℕ) → placement_frame_right frames again mixed frame ≡ true
    → (frame < frames) × (again ≡ false) × (mixed ≡ false)
frame_says frames again mixed frame h =
    let known : (ltb frame frames && not again) ≡ true = and_left (ltb frame frames && not again) (not mixed) h in (
      ltb-true frame frames (and_left (ltb frame frames) (not again) known),
      not-true again (and_right (ltb frame frames) (not again) known),
      not-true mixed (and_right (ltb frame frames && not again) (not mixed) h),
    )

pub offset_says : (array : Bool) (bits : ℕ) (out overlap : Bool) (offset : ℕ) → placement_offset_right array bits out overlap offset ≡ true
    → (offset_right array bits offset ≡ true) × (out ≡ false) × (overlap ≡ false)
offset_says array bits out overlap offset h =
    let right = offset_right array bits offset in
    let known : (right && not out) ≡ true = and_left (right && not out) (not overlap) h in (
      and_left right (not out) known,
      not-true out (and_right right (not out) known),
      not-true overlap (and_right (right && not out) (not overlap) h),
    )
