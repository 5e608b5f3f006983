-- The entries end where the table does.
use lib.ListN.{length}
use native.Mathlib.Omega.{arith}
use mathlib.Core.Path.{◌≡◌, ◌∙◌}
use borrow.Author.Tests.{lt-ltb, le-ltb}
use Rattle.cluster.specs.Check.{surplus}
use Rattle.cluster.specs.Table.{size, entry_count}
use Rattle.cluster.proofs.table.surplus.Goals as goal

pub returns-then-end-t : goal.returns-then-end-t
unfolding surplus size entry_count
returns-then-end-t c =
    let t = c.args.t.now in
    let end : c.entry_at-end.result ≡ size t = omega arith in
    c.fault.ensures ∙ rw end (rw (lt-ltb (size t) (length t) (omega arith)))

pub returns-else-end-t : goal.returns-else-end-t
unfolding surplus size entry_count
returns-else-end-t c =
    let t = c.args.t.now in
    let end : c.entry_at-end.result ≡ size t = omega arith in
    rw (le-ltb (size t) (length t) (omega arith))
