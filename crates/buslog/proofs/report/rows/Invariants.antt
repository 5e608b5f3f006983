-- Some lines are reported, and what is left is the rest of the text and of the room.
use Rattle.std.proofs.Common.{◌-◌, length}
use Rattle.buslog.proofs.Reporting.{Done}
use Rattle.buslog.proofs.report.rows.Given as goal

abbrev pub invariant-loop-out : goal.invariant-loop-out
invariant-loop-out l = Done l.t.words.now l.number l.text l.initial.out l.lines l.used l.put l.out

abbrev pub decreases-loop-out : goal.decreases-loop-out
decreases-loop-out l = length l.text - l.used
