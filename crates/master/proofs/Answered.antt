-- What a call answers, by its verdict, and what a verdict that accepts says of each test.
use Prim.Native.Nat.{ℕ, ◌<◌}
use mathlib.Core.Path.{◌≡◌, refl}
use mathlib.Core.Bool.{Bool, true, beq}
use mathlib.Core.List.{List}
use borrow.Author.Tests.{ltb-true}
use lib.Dec.{ltb}
use Rattle.refusal.specs.declared.Refusal.{Refusal}
use Rattle.refusal.specs.Numbers as number
use Rattle.wire.proofs.Tests.{beq_true}
use Rattle.cluster.specs.Check.{then}
use Rattle.cluster.specs.Table.{signal_count, is_array}
use Rattle.cluster.specs.Values.{signal_published}
use Rattle.master.specs.Admit.{answered}
use Rattle.master.specs.Write.{writable}
use Rattle.master.proofs.Admitted.{unless_test, unless_rest}
use Rattle.std.specs.Prelude.{Ok, Err}
use Rattle.cluster.specs.Check.{Verdict}

-- what holds of each refusal, and of the rest where the verdict accepts, holds of the answer
pub by_verdict : {A : Type 0} (P : A → Type 0) (v : Verdict) (refuse : Refusal → A) (go : A)
    → ((r : Refusal) → v ≡ Err r → P (refuse r)) → (v ≡ Ok tt → P go) → P (answered v refuse go)
by_verdict P (Ok tt) refuse go other rest = rest refl
by_verdict P (Err r) refuse go other rest = other r refl

-- a verdict with nothing behind it
pub then_accepted : (v : Verdict) → then v (Ok tt) ≡ v
then_accepted (Ok tt) = refl
then_accepted (Err r) = refl

-- what a write that is not refused knows of its signal
pub record Writable (t : List ℕ) (s : ℕ) (array fits : Bool) : Type 0 where
  pub below : s < signal_count t
  pub is_published : signal_published t s ≡ true
  pub kind_is : is_array t s ≡ array
  pub value_fits_lem : fits ≡ true

-- the tests of a write that is not refused hold
pub writable_signal : (t : List ℕ) (s : ℕ) (array fits : Bool) → writable t s array fits ≡ Ok tt → Writable t s array fits
unfolding writable
writable_signal t s array fits h =
    let h1 = unless_rest (ltb s (signal_count t)) number.unknown _ h in
    let h2 = unless_rest (signal_published t s) number.not_published _ h1 in
    let h3 = unless_rest (beq (is_array t s) array) number.kind _ h2 in
    record {
      below = ltb-true s (signal_count t) (unless_test (ltb s (signal_count t)) number.unknown _ h);
      is_published = unless_test (signal_published t s) number.not_published _ h1;
      kind_is = beq_true (is_array t s) array (unless_test (beq (is_array t s) array) number.kind _ h2);
      value_fits_lem = unless_test fits number.value (Ok tt) h3;
    }
