-- Each way out has the tests that led to it, and what the calls answer is put in.
use Rattle.std.proofs.Common.{Ok, Err}
use Rattle.master.specs.Answers.{handed}
use Rattle.master.specs.Byte.{byte_of, byte_effect}
use Rattle.master.proofs.Admitted.{admitted_fits}
use Rattle.master.proofs.Verdicts.{byte_admitted, byte_open, byte_size}
use Rattle.master.proofs.ToldLaws.{byte_told_lem}
use Rattle.master.proofs.state.State.byte_in.Goals as goal
use Rattle.master.proofs.state.State.byte_in.Goals.{then-sends, else-sends}

pub returns-in-Err : goal.returns-in-Err
unfolding byte_of byte_effect
returns-in-Err c =
    let a = c.args in
    let all =
    byte_told_lem a.t.now a.self a.bytes.now a.b (handed a.self (Err c.in-Err.refusal)) a.bytes.now
    (record { handed = rw c.in-Err.ensures; kept = rw c.in-Err.ensures }) in
    record { leaves = all.0; told = all.1 }

pub invariant_of-open : goal.invariant_of-open
invariant_of-open c =
    let t = c.in-Ok.ensures in
    record { fits = rw t.1 (admitted_fits _ _ _ (byte_admitted _ _ _ t.0)); opened = byte_open _ _ _ t.0 }

pub invariant_of-open-else-sends : goal.invariant_of-open-else-sends
invariant_of-open-else-sends c =
    let t = c.in-Ok.ensures in
    record { fits = rw t.1 (admitted_fits _ _ _ (byte_admitted _ _ _ t.0)); opened = byte_open _ _ _ t.0 }

pub received_byte-requires : goal.received_byte-requires
received_byte-requires c = rw c.in-Ok.ensures.1 (byte_size _ _ _ c.in-Ok.ensures.0)

pub returns : goal.returns
unfolding byte_of byte_effect
returns c =
    let a = c.args in
    let t = c.in-Ok.ensures in
    let all =
    byte_told_lem a.t.now a.self a.bytes.now a.b (handed c.if-sends.answer.0 (Ok c.if-sends.answer.1)) c.if-sends.bytes
    (elim c.if-sends.branch [
      | then-sends w ↦ record {
        handed = rw (w.answer-is, t.0, ← t.1, ← c.sends.ensures, w.if-sends.true) w.sent_byte.ensures;
        kept = rw (w.bytes-is, t.0, ← t.1, ← c.sends.ensures, w.if-sends.true);
      }
      | else-sends w ↦ record {
        handed = rw (w.answer-is, t.0, ← t.1, ← c.sends.ensures, w.if-sends.false) w.received_byte.ensures.handed;
        kept = rw (w.bytes-is, t.0, ← t.1, ← c.sends.ensures, w.if-sends.false) w.received_byte.ensures.kept;
      }
    ]) in
    record { leaves = all.0; told = all.1 }
