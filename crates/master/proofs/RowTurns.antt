-- A row is gone through pair by pair: what is done from the start is what was done so far and what is still to be done.
use Prim.Native.Nat.{ℕ, ◌+◌, ◌<◌, ◌≤◌}
use mathlib.Core.Path.{◌≡◌, refl, sym, ◌∙◌}
use mathlib.Core.Bool.{Bool, false}
use mathlib.Core.List.{List, [], ◌∷◌}
use native.Mathlib.Omega.{arith}
use native.Mathlib.Numerals.{add-one}
use borrow.Author.Tests.{eqb-true}
use lib.Dec.{eqb}
use lib.ListN.{length, get_or, drop}
use lib.Seq.{drop-cons, drop-length}
use Rattle.std.proofs.lemmas.List.{nil_from_length}
use Rattle.cluster.specs.Check.{RightTable, then}
use Rattle.cluster.specs.Values.{value_fits, with_scalar}
use Rattle.cluster.proofs.Accepted.{then_first, then_second}
use Rattle.cluster.proofs.ValueLaws.{value_limit}
use Rattle.refusal.specs.Numbers as number
use Rattle.master.specs.declared.state.Transfer.{Transfer}
use Rattle.master.specs.declared.state.State.{State}
use Rattle.master.specs.Admit.{admitted}
use Rattle.master.specs.Put.{puts}
use Rattle.master.specs.Write.{writable, marked_from, rewritten}
use Rattle.master.specs.WriteRow.{at_place, first_bad, row_verdict, marked_bits, rewritten_by, with_row}
use Rattle.master.proofs.Admitted.{unless_test, unless_rest}
use Rattle.master.proofs.Answered.{writable_signal}
use Rattle.std.specs.Prelude.{Ok, Err}
use Rattle.cluster.specs.Check.{Verdict}

-- behind the end of a row nothing is left
none_left : (ss : List ℕ) (i : ℕ) → length ss ≤ i → i ≤ length ss → drop i ss ≡ []
none_left ss i a b = let e : i ≡ length ss = omega arith in rw e (drop-length ss)

module _ (t ss : List ℕ) (i : ℕ) (a : length ss ≤ i) (b : i ≤ length ss) where
  pub marks_end : (bits : List Bool) → marked_bits t (drop i ss) bits ≡ bits
  unfolding marked_bits
  marks_end bits = rw (none_left ss i a b)

  pub rewrites_end : (x : Transfer) → rewritten_by t (drop i ss) x ≡ x
  unfolding rewritten_by
  rewrites_end x = rw (none_left ss i a b)

module _ (t ss : List ℕ) (i : ℕ) (h : i < length ss) where
  pub marks_turn : (bits : List Bool) → marked_bits t (drop i ss) bits ≡ marked_bits t (drop (i + 1) ss) (marked_from t (get_or ss i 0) 0 bits)
  unfolding marked_bits
  marks_turn bits = rw (add-one, drop-cons ss i 0 h)

  pub rewrites_turn : (x : Transfer) → rewritten_by t (drop i ss) x ≡ rewritten_by t (drop (i + 1) ss) (rewritten t (get_or ss i 0) x)
  unfolding rewritten_by
  rewrites_turn x = rw (add-one, drop-cons ss i 0 h)

-- a verdict on a pair accepts wherever the pair stands
pub placed_accepted : (i : ℕ) (v : Verdict) → at_place i v ≡ Ok tt → v ≡ Ok tt
placed_accepted i (Ok tt) e = refl
placed_accepted i (Err r) e = let z : ◌≡◌ {A = ℕ} 0 1 = cc in absurd (omega arith)

-- no pair is left where a row has ended
pub no_signal_left : (ss vs : List ℕ) → length ss ≡ 0 → puts ss vs ≡ []
unfolding puts
no_signal_left ss vs e = rw (nil_from_length ss e)

pub no_value_left : (ss vs : List ℕ) → length vs ≡ 0 → puts ss vs ≡ []
unfolding puts
no_value_left [] vs e = refl
no_value_left (s ∷ ss) vs e = rw (nil_from_length vs e)

module _ (t : List ℕ) (i s v : ℕ) (ss vs : List ℕ) where
  -- the pair at hand decides, or else the later ones
  pub first_turn : first_bad t i (puts (s ∷ ss) (v ∷ vs))
      ≡ then (at_place i (writable t s false (value_fits t s v))) (first_bad t (i + 1) (puts ss vs))
  unfolding first_bad puts
  first_turn = rw add-one

  -- the pair at hand is put in, and then the later ones
  pub put_turn : (bs : List ℕ) → with_row t bs (puts (s ∷ ss) (v ∷ vs)) ≡ with_row t (with_scalar t bs s v) (puts ss vs)
  unfolding with_row puts
  put_turn bs = refl

  module _ (good : first_bad t i (puts (s ∷ ss) (v ∷ vs)) ≡ Ok tt) where
    turned : then (at_place i (writable t s false (value_fits t s v))) (first_bad t (i + 1) (puts ss vs)) ≡ Ok tt
    turned = sym first_turn ∙ good

    -- where no pair from here on is bad, none is behind this one
    pub good_turn : first_bad t (i + 1) (puts ss vs) ≡ Ok tt
    good_turn = then_second (at_place i (writable t s false (value_fits t s v))) _ turned

    -- and its value is a number of 16 bits
    pub good_value : RightTable t → v < 65536
    good_value ok =
        let verdict = writable t s false (value_fits t s v) in
        let w = writable_signal t s false _ (placed_accepted i verdict (then_first (at_place i verdict) _ turned)) in
        value_limit t ok s w.below w.kind_is v w.value_fits_lem

-- what a row that is not refused knows
pub record RowKnows (t : List ℕ) (size : ℕ) (x : State) (ss vs : List ℕ) : Type 0 where
  pub admits : admitted t size x ≡ Ok tt
  pub equal : length ss ≡ length vs
  pub good : first_bad t 0 (puts ss vs) ≡ Ok tt

pub row_knows : (t : List ℕ) (size : ℕ) (x : State) (ss vs : List ℕ) → row_verdict t size x ss vs ≡ Ok tt → RowKnows t size x ss vs
unfolding row_verdict
row_knows t size x ss vs e =
    let rest = then_second (admitted t size x) _ e in
    record {
      admits = then_first (admitted t size x) _ e;
      equal = eqb-true (length ss) (length vs) (unless_test (eqb (length ss) (length vs)) number.rows _ rest);
      good = unless_rest (eqb (length ss) (length vs)) number.rows _ rest;
    }
