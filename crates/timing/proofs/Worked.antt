-- The worked numbers of Req 02, computed in one theorem: "1,736 tenths of a bit for eight bytes", and slots that are exactly full or short by
-- one microsecond.
use mathlib.Core.Path.{◌≡◌, refl}
use mathlib.Core.Bool.{true, false}
use Rattle.timing.specs.FrameTime.{minimum_bits, maximum_tenths}
use Rattle.timing.specs.Slots.{slot_holds}

pub worked_slots : (maximum_tenths 8 ≡ 1736) × (minimum_bits 1 ≡ 54)
    × (slot_holds 434 25 1 8 ≡ true) × (slot_holds 433 25 1 8 ≡ false)
    × (slot_holds 18 1 1 8 ≡ true) × (slot_holds 17 1 1 8 ≡ false)
    × (slot_holds 76 10 1 1 ≡ true) × (slot_holds 75 10 1 1 ≡ false)
    × (slot_holds 656 65535 65535 8 ≡ true)
unfolding minimum_bits maximum_tenths slot_holds
worked_slots = (refl, refl, refl, refl, refl, refl, refl, refl, refl)
