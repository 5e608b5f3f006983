-- Each way out has the tests that led to it, and what the calls answer is put in.
use mathlib.Core.Path.{sym}
use lib.Seq.{length-take-le}
use Rattle.cluster.proofs.Filling.{array_put, scalar_put}
use Rattle.cluster.proofs.fresh.start_at.Goals as goal

pub slice_bounds-put_array-end : goal.slice_bounds-put_array-end
slice_bounds-put_array-end c = sym (length-take-le _ _ c.array_length-n.ensures.upper_bound)

pub returns-then-is_array : goal.returns-then-is_array
returns-then-is_array c =
    array_put _ _ _ _ _ _ _ _
    c.is_array.ensures
    c.if-is_array.true
    c.start.ensures
    c.array_length-n.ensures.value
    c.array_length-n.ensures.upper_bound
    c.put_array.ensures

pub returns-else-is_array : goal.returns-else-is_array
returns-else-is_array c =
    scalar_put _ _ _ _ _ _ _ _
    c.is_array.ensures
    c.if-is_array.false
    c.width.ensures
    c.start-else-is_array.ensures
    c.put.ensures
