-- The bytes are got where the table has them.
use Rattle.cluster.proofs.ValueSteps.{array_read_lem}
use Rattle.cluster.proofs.values.array_at.Goals as goal

pub returns : goal.returns
returns c = array_read_lem _ _ _ _ _ _ _ c.array_length-n.ensures.value c.array_length-n.ensures.upper_bound c.place-place.ensures c.get_array.ensures
