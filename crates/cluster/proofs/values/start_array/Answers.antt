-- The start value stands in each byte.
use Rattle.cluster.proofs.ValueSteps.{start_read_lem}
use Rattle.cluster.proofs.values.start_array.Goals as goal

pub returns : goal.returns
returns c = start_read_lem _ _ _ _ _ c.array_length-n.ensures.value c.array_length-n.ensures.upper_bound c.start.ensures
    (c.fill.ensures.after (λ y h. h))
