-- The first placement of another signal ends them, as `find` has it.
use Rattle.std.proofs.Common.{◌≡◌, ◌≤◌, ◌-◌, ◌∙◌, refl, ℕ, Bool, true, false, not, eqb, sym, arith, rules, tests, eq-eqb}
use Rattle.std.proofs.lemmas.Bool.{eqb-true}
use Rattle.wire.proofs.Tests.{whether}
use mathlib.Core.Bool.{true≢false}
use Rattle.cluster.proofs.Finding.{found_or}
use Rattle.cluster.proofs.Searching.{first_from_lem, first_within, first_holds, first_before}
use Rattle.cluster.proofs.Together.{first_high}
use Rattle.cluster.specs.Lists.{first_from}
use Rattle.cluster.specs.Table.{placement_signal}
use Rattle.master.proofs.placed.of_signal.Goals as goal

same : (a b : ℕ) → not (eqb a b) ≡ false → a ≡ b
same a b n = whether (eqb a b) (λ e. eqb-true a b e) (λ e. absurd (true≢false (rw e at n)))

another : (a b : ℕ) → not (eqb a b) ≡ true → a ≡ b → ⊥
another a b n e = true≢false (sym (rw (eq-eqb a b e) at n))

pub returns : goal.returns
returns c =
    let t = c.args.t.words.now in
    let s = c.args.s in
    let from = c.first-from.result in
    let count = c.count-count.result in
    let m = count - from in
    let other : ℕ → Bool = (λ k. not (eqb (placement_signal t k) s)) in
    let low = first_high t s in
    let ordered : from ≤ count = omega (arith, c.count-count.ensures, c.first-from.ensures, low) in
    let end : c.unwrap_or.result ≡ first_from other from m =
    c.unwrap_or.ensures
    ∙ found_or other _ _ _ c.find-behind.result m count c.find-behind.ensures.ran (λ x q b k. search (rules, tests)) refl (omega arith) in
    record {
      first = c.first-from.ensures;
      ordered = omega (arith, end, first_from_lem other from m);
      within = omega (arith, end, first_within other from m, ordered, c.count-count.ensures);
      each = λ k a b. same (placement_signal t k) s (first_before other from m k a (omega (arith, end, b)));
      behind = λ h e. another (placement_signal t c.unwrap_or.result) s (rw end (first_holds other from m (omega (arith, end, h, c.count-count.ensures)))) e;
    }
