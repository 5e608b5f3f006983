-- A signal that is not the next one is that of the placement before.
use Prim.Native.Nat.{ℕ, ◌+◌}
use mathlib.Core.Bool.{Bool, true, false, not, ◌&&◌}
use mathlib.Core.Path.{◌≡◌, refl, ◌∙◌}
use native.Mathlib.Omega.{arith}
use borrow.Author.Tests.{eqb-true, eq-eqb, lt-ltb}
use lib.Dec.{eqb}
use Rattle.std.specs.Bool.{beq}
use Rattle.cluster.specs.Passed.{last_of}
use Rattle.cluster.specs.Table.{frame_count, published}
use Rattle.cluster.proofs.Counting.{follows_same}
use Rattle.cluster.proofs.placements.Passed.frame_right.Goals as goal

joined : (s placed last : ℕ) (same : Bool) → s + 1 ≡ placed
    → (not (eqb last placed) && same) ≡ (not (eqb last (s + 1)) && not (eqb (s + 1) placed && not same))
joined s placed last true e = rw (e, eq-eqb placed placed refl)
joined s placed last false e = rw (e, eq-eqb placed placed refl)

pub joins-requires-clause-there : goal.joins-requires-clause-there
joins-requires-clause-there c =
    let x = c.args.self.now in
    let before : c.args.s + 1 ≡ x.placed = eqb-true (c.args.s + 1) x.placed (follows_same x.placed c.args.s c.if-s-self.false ∙ c.requires.s_follows) in
    (omega (arith, before), omega (arith, c.count.ensures, c.if-f-count.true))

pub returns-else-s-self : goal.returns-else-s-self
returns-else-s-self c =
    let a = c.args in
    let x = a.self.now in
    let before : a.s + 1 ≡ x.placed = eqb-true (a.s + 1) x.placed (follows_same x.placed a.s c.if-s-self.false ∙ c.requires.s_follows) in
    rw (lt-ltb a.f (frame_count a.t.now) (omega (arith, c.count.ensures, c.if-f-count.true)))
    (c.joins.ensures ∙ joined a.s x.placed (last_of x a.f) (beq (published a.t.now x.frame) (published a.t.now a.f)) before)
