-- The identifier of the format is below 64: building answers its protected identifier.
use Rattle.std.proofs.Common.{◌≡◌, ◌<◌, ℕ, arith, ap, sym, ◌∙◌}
use Rattle.std.specs.Prelude.{Result, Ok, Err}
use Rattle.std.specs.Result.{result_unwrap_or}
use Rattle.refusal.specs.declared.Refusal.{Refusal}
use Rattle.wire.specs.Identifier.{protected_byte, protected_of}
use Rattle.wire.proofs.AnswerLaws.{built, not_refused}
use Rattle.master.proofs.TransferTypes.{known_identifier}
use Rattle.master.specs.declared.transfer.Format.{Format}
use Rattle.master.specs.Transfers.{open_protected}
use Rattle.master.proofs.transfer.Known.protected.Goals as goal

value_of : (id : ℕ) (r : Result ℕ Refusal) → id < 64 → r ≡ protected_of id → result_unwrap_or r 0 ≡ protected_byte id
value_of id (Ok b) h e = built id b h (sym e)
value_of id (Err r) h e = absurd (not_refused id r h (sym e))

pub overflow_cast-format : goal.overflow_cast-format
overflow_cast-format c =
    let a = c.args in
    let below = known_identifier a.self in
    record { fits = omega (arith, ap (λ (x : Format). x.identifier) c.format-format.ensures, below) }

pub returns : goal.returns
unfolding open_protected
returns c =
    let a = c.args in
    let below = known_identifier a.self in
    c.unwrap_or.ensures ∙ value_of _ c.build.result below (c.build.ensures.value ∙ rw c.format-format.ensures)
