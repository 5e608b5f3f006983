-- Each way out has the tests that led to it, and what the calls answer is put in.
use Rattle.master.specs.Byte.{received_byte}
use Rattle.master.proofs.closing.InTransfer.received_byte.Goals as goal

pub returns-then-early : goal.returns-then-early
unfolding received_byte
returns-then-early c =
    record {
      handed = rw (← c.early.ensures, c.if-early.true, c.passed.ensures, c.with_byte-nine.ensures);
      kept = rw (← c.early.ensures, c.if-early.true);
    }

pub returns : goal.returns
unfolding received_byte
returns c =
    let last = c.last_byte.ensures in
    record {
      handed = rw (← c.early.ensures, c.if-early.false, ← c.with_byte-nine.ensures) last.handed;
      kept = rw (← c.early.ensures, c.if-early.false, ← c.with_byte-nine.ensures) last.kept;
    }
