-- The pair behind a space, and the text behind it.
use Rattle.std.proofs.Common.{[], ◌∷◌, get_or, refl, arith}
use Rattle.buslog.specs.Pairs.{pair_of}
use Rattle.buslog.proofs.Fronting.{copied, behind}
use Rattle.buslog.proofs.row.put_identified.Goals as goal

pub returns : goal.returns
unfolding pair_of
returns c =
    let first = copied (32 ∷ get_or c.pair.result 0 0 ∷ get_or c.pair.result 1 0 ∷ []) c.args.out.now refl (c.copy.ensures.left (omega arith)) in
    let second = copied c.args.text.now _ (c.copy-2.ensures.count (omega arith)) (c.copy-2.ensures.left (omega arith)) in
    rw c.pair.ensures at (behind _ _ _ first second refl)
