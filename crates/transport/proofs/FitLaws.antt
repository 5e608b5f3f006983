-- Which open messages the reassembler accepts, as facts.
use Prim.Native.Nat.{ℕ, ◌+◌, ◌*◌, ◌%◌, ◌≤◌, ◌<◌}
use mathlib.Core.Path.{◌≡◌}
use mathlib.Core.Bool.{true, not, ◌&&◌}
use mathlib.Core.Logic.{◌↔◌}
use native.Mathlib.Omega.{arith}
use borrow.Author.Tests.{leb-true, ltb-true, eqb-true, eqb-false, not-true, lt-ltb, eq-eqb, ne_eqb}
use lib.Dec.{leb, ltb, eqb}
use Rattle.transport.specs.Cutting.{longest}
use Rattle.transport.specs.Reassembly.{between, next_frames, assembly_fits, fits}
use Rattle.transport.specs.declared.reassembly.Assembly.{Assembly}
use Rattle.std.specs.Prelude.{Some}
use Rattle.transport.proofs.KindLaws.{between_true}
use Rattle.transport.proofs.Tests.{and_left, and_right}

-- an open message with a NAD, a length of 7..4095, 5 + 6k bytes below the length, and the counter due then
pub record FitAssembly (m : Assembly) : Type 0 where
  pub k : ℕ
  pub nad_not_0 : m.nad ≡ 0 → ⊥
  pub length_low : 7 ≤ m.length
  pub length_high : m.length ≤ 4095
  pub count_is : m.count ≡ 5 + 6 * k
  pub count_below : m.count < m.length
  pub counter_is : m.counter ≡ (1 + k) % 16

module _ (m : Assembly) where
  fit_facts : assembly_fits m ≡ true → FitAssembly m
  unfolding assembly_fits
  fit_facts h =
      let nad = not (eqb m.nad 0) in
      let range = between 7 longest m.length in
      let count = eqb m.count (5 + 6 * next_frames m.count) in
      let below = ltb m.count m.length in
      let counter = eqb m.counter ((1 + next_frames m.count) % 16) in
      let h₄ = and_left (nad && range && count && below) counter h in
      let h₃ = and_left (nad && range && count) below h₄ in
      let h₂ = and_left (nad && range) count h₃ in
      let h₁ = and_right nad range h₂ in
      record {
        k = next_frames m.count;
        nad_not_0 = eqb-false m.nad 0 (not-true (eqb m.nad 0) (and_left nad range h₂));
        length_low = leb-true 7 m.length (and_left (leb 7 m.length) (leb m.length longest) h₁);
        length_high = leb-true m.length longest (and_right (leb 7 m.length) (leb m.length longest) h₁);
        count_is = eqb-true m.count _ (and_right (nad && range) count h₃);
        count_below = ltb-true m.count m.length (and_right (nad && range && count) below h₄);
        counter_is = eqb-true m.counter _ (and_right (nad && range && count && below) counter h);
      }

  facts_fit : FitAssembly m → assembly_fits m ≡ true
  unfolding assembly_fits
  facts_fit f =
      rw (
        ne_eqb m.nad 0 f.nad_not_0,
        between_true 7 longest m.length f.length_low f.length_high,
        eq-eqb m.count (5 + 6 * next_frames m.count) (omega arith),
        lt-ltb m.count m.length f.count_below,
        eq-eqb m.counter ((1 + next_frames m.count) % 16) (omega arith),
      )

  -- refusal 3 spares an open message exactly when the facts above hold
  pub fits_exactly : (assembly_fits m ≡ true) ↔ FitAssembly m
  fits_exactly = (fit_facts, facts_fit)

  -- the same of a state with that message open
  pub open_fits : fits (Some m) ≡ true → FitAssembly m
  unfolding fits
  open_fits = fit_facts
