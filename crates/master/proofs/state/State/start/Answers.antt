-- Each way out has the tests that led to it, and what the calls answer is put in.
use Rattle.std.proofs.Common.{◌∙◌, sym, ap, Ok}
use Rattle.refusal.proofs.PassedOn.{passed_on}
use Rattle.master.specs.Start.{fresh_of, started}
use Rattle.master.proofs.Filling.{filled_fresh}
use Rattle.master.proofs.ToldLaws.{start_told}
use Rattle.master.proofs.state.State.start.Goals as goal

pub returns-in_err-judge : goal.returns-in_err-judge
unfolding fresh_of
returns-in_err-judge c =
    let a = c.args in
    let all =
    start_told a.t.now a.bytes.now (started c.from_residual.result) a.bytes.now
    (record { handed = ap started (passed_on _ _ c.from_residual.ensures.1) ∙ rw (← c.in_err-judge.ensures); kept = rw (← c.in_err-judge.ensures) }) in
    record { leaves = all.0; told = all.1 }

pub returns : goal.returns
unfolding fresh_of
returns c =
    let a = c.args in
    let all =
    start_told a.t.now a.bytes.now (started (Ok c.fresh.result)) c.fill.new.bytes
    (record {
      handed = rw (← c.in_ok-judge.ensures, c.fresh.ensures);
      kept = rw (← c.in_ok-judge.ensures, c.fill.ensures) (filled_fresh a.t.now a.bytes.now (sym c.in_ok-judge.ensures));
    }) in
    record { leaves = all.0; told = all.1 }
