-- Where there is none, it is never.
use Rattle.std.proofs.Common.{ap, arith, ◌∙◌}
use Rattle.master.specs.Fresh.{never_received}
use Rattle.master.specs.Received.{last_of}
use Rattle.master.specs.declared.state.Reception.{Reception}
use Rattle.master.proofs.received.last_of.Goals as goal

pub returns-in_err-get : goal.returns-in_err-get
unfolding last_of
returns-in_err-get c =
    c.from_residual.ensures ∙ ap (λ (r : Reception). r.last) (c.in_err-get.ensures.lookup.4 (omega arith) never_received)

pub returns : goal.returns
unfolding last_of
returns c = ap (λ (r : Reception). r.last) (c.in_ok-get.ensures.lookup.4 (omega arith) never_received)
