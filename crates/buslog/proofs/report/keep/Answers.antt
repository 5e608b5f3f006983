-- What is kept goes to the front, and the rest stays.
use Rattle.buslog.proofs.Keeping.{kept_none, kept_moved}
use Rattle.buslog.proofs.report.keep.Goals as goal

pub returns-then-n-eq0 : goal.returns-then-n-eq0
returns-then-n-eq0 c = kept_none _ _ _ c.kept_length-n.ensures c.if-n-eq0.true

pub returns : goal.returns
returns c = kept_moved _ _ _ c.kept_length-n.ensures _ c.copy_within.ensures.after
