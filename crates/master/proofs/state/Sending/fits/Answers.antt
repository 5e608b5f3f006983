-- What is counted of the message's length says whether a frame is left.
use Prim.Native.Nat.{◌<◌, ◌≤◌}
use mathlib.Core.Path.{sym, ◌∙◌}
use native.Mathlib.Omega.{arith}
use borrow.Author.Tests.{lt-ltb, le-ltb}
use Rattle.master.proofs.Counted.{counted_frames, counted_refused}
use Rattle.master.proofs.state.Sending.fits.Goals as goal

pub returns-in-Ok : goal.returns-in-Ok
returns-in-Ok c =
    let left : c.args.self.next < c.in-Ok.frames = omega arith in
    sym (lt-ltb _ _ left) ∙ counted_frames _ _ _ (sym c.count.ensures.value ∙ c.in-Ok.is)

pub returns-in_default : goal.returns-in_default
returns-in_default c =
    let none : c.in-Ok.frames ≤ c.args.self.next = omega arith in
    sym (le-ltb _ _ none) ∙ counted_frames _ _ _ (sym c.count.ensures.value ∙ c.in-Ok.is)

pub returns-in_default-2 : goal.returns-in_default-2
returns-in_default-2 c = counted_refused _ _ _ (sym c.count.ensures.value ∙ c.in_default.is)
