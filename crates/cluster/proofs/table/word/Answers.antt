-- What is read is the element, and the default behind the last one.
use Rattle.std.proofs.Common.{◌∙◌, arith}
use Rattle.cluster.specs.Table.{word}
use Rattle.cluster.proofs.table.word.Goals as goal

pub returns : goal.returns
unfolding word
returns c = c.unwrap_or.ensures ∙ rw c.copied.ensures (c.get.ensures.lookup.4 (omega arith) 0)
