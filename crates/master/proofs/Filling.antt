-- A buffer of the table's size, filled, has the fresh bytes.
use Prim.Native.Nat.{ℕ}
use mathlib.Core.Path.{◌≡◌}
use mathlib.Core.List.{List}
use lib.Dec.{eqb}
use lib.ListN.{length}
use borrow.Author.Tests.{eqb-true}
use Rattle.refusal.specs.Numbers.{buffer}
use Rattle.cluster.specs.Table.{placement_count}
use Rattle.cluster.specs.Check.{taken_of}
use Rattle.cluster.specs.Fresh.{filled, fresh_bytes}
use Rattle.cluster.proofs.Accepted.{then_second}
use Rattle.master.specs.Admit.{buffer_size}
use Rattle.master.specs.Start.{fresh_verdict}
use Rattle.master.proofs.Admitted.{unless_test}
use Rattle.std.specs.Prelude.{Ok}

pub fresh_size : (t : List ℕ) (n : ℕ) → fresh_verdict t n ≡ Ok tt → n ≡ buffer_size t
unfolding fresh_verdict
fresh_size t n h = eqb-true n (buffer_size t) (unless_test (eqb n (buffer_size t)) buffer (Ok tt) (then_second (taken_of t) _ h))

pub filled_fresh : (t bs : List ℕ) → fresh_verdict t (length bs) ≡ Ok tt → filled t (length bs) (placement_count t) ≡ fresh_bytes t
unfolding fresh_bytes buffer_size
filled_fresh t bs h = rw (fresh_size t (length bs) h)
