-- The field is what the digits passed and the rest make of it.
use Rattle.std.proofs.Common.{◌≡◌, ◌≤◌, drop}
use Rattle.script.specs.Fields.{decimal_field, digits_from}
use Rattle.script.proofs.fields.decimal.Given as goal

abbrev pub invariant-loop-c : goal.invariant-loop-c
invariant-loop-c l = record {
  small : l.value ≤ l.limit;
  same : decimal_field l.limit l.field ≡ digits_from l.limit l.value (drop l.c-index l.field);
}
