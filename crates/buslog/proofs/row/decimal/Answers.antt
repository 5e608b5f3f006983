-- The last digit stands at the end, and each turn puts one more before it.
use Rattle.std.proofs.Common.{◌∙◌, ◌+◌, ◌/◌, ◌%◌, sym, ap, ◌++◌, length-set, arith, replicate, refl}
use Rattle.std.proofs.lemmas.List.{take-set}
use Rattle.buslog.specs.Row.{digits_of}
use Rattle.buslog.proofs.Decimal.{decimal, last_digit, shorter, turn, zeros_before, all_of, begins}
use Rattle.buslog.proofs.row.decimal.Goals as goal

pub loop-rest-init : goal.loop-rest-init
loop-rest-init c = record {
  size = simp length-set;
  place = omega arith;
  below = omega arith;
  front = take-set (replicate 20 0) 19 (48 + c.args.number % 10);
  same =
      decimal c.args.number c.ranges.number.fits
      ∙ ap (λ ds. digits_of 19 (c.args.number / 10) ++ ds) (sym (last_digit (replicate 20 0) (48 + c.args.number % 10) refl));
}

pub loop-rest-preserved : goal.loop-rest-preserved
loop-rest-preserved c =
    let i = c.loop-rest.invariant in
    record {
      size = simp length-set i.size;
      place = omega arith;
      below = shorter c.loop-rest.first c.loop-rest.rest c.loop-rest-test.true i.below;
      front = zeros_before c.loop-rest.first c.loop-rest.digits (48 + c.loop-rest.rest % 10) i.front;
      same = i.same ∙ turn c.loop-rest.first c.loop-rest.rest c.loop-rest.digits c.loop-rest-test.true i.below (omega arith);
    }

pub returns : goal.returns
returns c =
    let i = c.loop-rest.invariant in
    record {
      digits = all_of c.args.number c.loop-rest.first c.loop-rest.rest c.loop-rest.digits i.same i.front (omega arith) i.size (omega arith);
      first = begins c.args.number c.loop-rest.first c.loop-rest.rest c.loop-rest.digits i.same (omega arith) i.size (omega arith);
    }
