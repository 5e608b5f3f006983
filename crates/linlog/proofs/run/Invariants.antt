-- The turns so far, each from what the one before left, and what is kept has room.
use Rattle.std.proofs.Common.{◌≡◌, ◌≤◌, length}
use Rattle.buslog.specs.Report.{kept_length}
use Rattle.linlog.specs.Part.{Ran}
use Rattle.linlog.proofs.run.Given as goal

abbrev pub invariant-loop-turns : goal.invariant-loop-turns
invariant-loop-turns l =
    (length l.text ≡ 16384) × (l.log.kept ≤ kept_length) × Ran l.initial.text l.initial.out l.turns l.log l.text l.out
