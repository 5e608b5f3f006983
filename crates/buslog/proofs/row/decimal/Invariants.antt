-- The digits are those of what is left, and then those that are there.
use Rattle.std.proofs.Common.{◌≡◌, ◌^◌, ◌<◌, ◌≤◌, ◌++◌, length, drop, take, replicate}
use Rattle.buslog.specs.Row.{digits_of, decimal_of}
use Rattle.buslog.proofs.row.decimal.Given as goal

abbrev pub invariant-loop-rest : goal.invariant-loop-rest
invariant-loop-rest l = record {
  size : length l.digits ≡ 20;
  place : l.first ≤ 19;
  below : l.rest < 10 ^ l.first;
  front : take l.first l.digits ≡ replicate l.first 0;
  same : decimal_of l.number ≡ digits_of l.first l.rest ++ drop l.first l.digits;
}

abbrev pub decreases-loop-rest : goal.decreases-loop-rest
decreases-loop-rest l = l.rest
