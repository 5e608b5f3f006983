-- A number is passed behind a character that stands for one.
use Rattle.std.proofs.Common.{drop-drop, drop_of_length-le}
use Rattle.script.specs.Print.{left_behind}
use Rattle.script.proofs.print.next.Goals as goal
use Rattle.script.proofs.print.next.Goals.{else-stands_for-via-then-stands_for+else-place-numbers, else-stands_for-via-else-stands_for}

pub returns-then-place-numbers : goal.returns-then-place-numbers
unfolding left_behind
returns-then-place-numbers c = rw (← c.if-stands_for.ensures, drop-drop)

pub returns-else-stands_for : goal.returns-else-stands_for
unfolding left_behind
returns-else-stands_for c =
    elim c.else-stands_for.branch [
      | else-stands_for-via-then-stands_for+else-place-numbers w ↦ rw (← w.if-stands_for.ensures, drop_of_length-le c.args.numbers.now {i = c.args.place} w.if-place-numbers.false)
      | else-stands_for-via-else-stands_for w ↦ rw (← w.if-stands_for.ensures)
    ]
