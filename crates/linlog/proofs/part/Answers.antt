-- `linlog::part` does what a reading's answer says: it reports what came behind what was kept, the last line at the end, and nothing after a failure.
use Rattle.std.proofs.Common.{◌≢◌, arith}
use Rattle.linlog.proofs.PartLaws.{goes_on}
use Rattle.linlog.proofs.part.Goals as goal

pub returns-in-Some : goal.returns-in-Some
returns-in-Some c =
    let some : c.in-Some.more ≢ 0 = λ none. c.in-Some.more-test.1 (rw c.in-Some.is none) in
    rw c.in-Some.is (goes_on _ _ _ _ _ _ _ (omega arith) (omega (arith, c.requires.0)) c.whole_lines.ensures)
