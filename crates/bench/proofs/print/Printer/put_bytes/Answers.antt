-- `bench::print::Printer::put_bytes` ends within the buffer.
use Rattle.std.proofs.Common.{rules}
use Rattle.bench.proofs.Printing.{ends_within}
use Rattle.bench.proofs.print.Printer.put_bytes.Goals as goal

pub invariant_of-self : goal.invariant_of-self
invariant_of-self c = record { in_buffer = ends_within c.pairs-self.ensures (search rules) c.put.new.self.in_buffer }
