-- The walk over the placements of a received frame.
use Prim.Native.Nat.{ℕ, ◌+◌}
use mathlib.Core.Path.{◌≡◌}
use mathlib.Core.List.{List}
use native.Mathlib.Numerals.{add-one}
use borrow.Author.Tests.{eq-eqb, ne_eqb}
use lib.ListN.{set}
use Rattle.cluster.specs.Table.{placement_signal, placement_frame}
use Rattle.master.specs.declared.state.Reception.{Reception}
use Rattle.master.specs.Received.{reception_of, received_up_to}

module _ (t : List ℕ) (f k : ℕ) (rs next : List Reception) (is : next ≡ received_up_to t f k rs) where
  -- placement k is in the frame
  pub up_to_here : placement_frame t k ≡ f → set next (placement_signal t k) (reception_of k) ≡ received_up_to t f (k + 1) rs
  unfolding received_up_to
  up_to_here e = rw (add-one k, eq-eqb (placement_frame t k) f e, is)

  -- it is not
  pub up_to_not : (placement_frame t k ≡ f → ⊥) → next ≡ received_up_to t f (k + 1) rs
  unfolding received_up_to
  up_to_not d = rw (add-one k, ne_eqb (placement_frame t k) f d) is
