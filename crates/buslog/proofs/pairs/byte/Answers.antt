-- Two digits make a byte, and nothing else does.
use Rattle.std.proofs.Common.{sym, ◌∙◌}
use Rattle.buslog.proofs.Reading.{no_high, no_low, pair_there}
use Rattle.buslog.proofs.pairs.byte.Goals as goal

pub returns-in_err-high : goal.returns-in_err-high
returns-in_err-high c = c.from_residual.ensures ∙ sym (no_high c.args.high c.args.low c.in_err-high.ensures)

pub returns-in_err-low : goal.returns-in_err-low
returns-in_err-low c = c.from_residual-in_err-low.ensures ∙ sym (no_low c.args.high c.args.low c.in_err-low.ensures)

pub returns : goal.returns
returns c = sym (pair_there c.args.high c.args.low c.in_ok-high.ensures c.in_ok-low.ensures)
