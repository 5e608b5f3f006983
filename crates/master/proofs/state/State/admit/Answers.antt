-- What is judged with the table is judged without it.
use Rattle.std.proofs.Common.{sym, ◌∙◌, Ok}
use Rattle.refusal.proofs.PassedOn.{passed_on}
use Rattle.master.proofs.ToldLaws.{head_told}
use Rattle.master.proofs.state.State.admit.Goals as goal

pub returns-in_err-right_table : goal.returns-in_err-right_table
returns-in_err-right_table c =
    let a = c.args in
    let all = head_told a.t.now a.size a.self c.from_residual.result (passed_on _ _ c.from_residual.ensures.1 ∙ sym c.in_err-right_table.ensures) in
    record { value = all.0; told = all.1 }

pub returns : goal.returns
returns c =
    let a = c.args in
    let all = head_told a.t.now a.size a.self (Ok tt) (sym c.in_ok-right_table.ensures.0) in
    record { value = all.0; told = all.1 }
