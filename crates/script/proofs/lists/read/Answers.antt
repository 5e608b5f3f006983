-- Each turn reads one field more.
use Rattle.std.proofs.Common.{arith, length-set}
use Rattle.script.proofs.Listing.{listed_all, listed_wrong, listed_full, listed_next, list_over, list_next}
use Rattle.script.proofs.lists.read.Goals as goal

pub returns-then-list-n : goal.returns-then-list-n
returns-then-list-n g c =
    c.loop-place.invariant.rest _ _
    (rw (list_next g.T.Element.reads c.args.line.now c.loop-place.place c.find-end.result c.loop-place-test.true c.find-end.ensures.index
    (c.find-end.ensures.at_most (omega arith))) (listed_full _ _ _ _ c.if-list-n.true))

pub returns-in_err-list : goal.returns-in_err-list
returns-in_err-list g c =
    rw c.from_residual.ensures
    (c.loop-place.invariant.rest _ _
    (rw (
      list_next g.T.Element.reads c.args.line.now c.loop-place.place c.find-end.result c.loop-place-test.true c.find-end.ensures.index
          (c.find-end.ensures.at_most (omega arith)),
      ← c.in_err-list.ensures,
    ) (listed_wrong _ _ _)))

pub loop-place-preserved : goal.loop-place-preserved
loop-place-preserved g c = record {
  within = simp length-set (omega arith);
  size = simp length-set c.loop-place.invariant.size;
  rest = λ r after l.
      c.loop-place.invariant.rest r after
      (rw (
        list_next g.T.Element.reads c.args.line.now c.loop-place.place c.find-end.result c.loop-place-test.true c.find-end.ensures.index
            (c.find-end.ensures.at_most (omega arith)),
        ← c.in_ok-list.ensures,
      )
      (listed_next _ _ _ _ c.if-list-n.false l));
}

pub returns : goal.returns
returns g c =
    c.loop-place.invariant.rest _ _
    (rw (list_over g.T.Element.reads c.args.line.now c.loop-place.place c.loop-place-test.false) (listed_all _ _ c.loop-place.invariant.within))
