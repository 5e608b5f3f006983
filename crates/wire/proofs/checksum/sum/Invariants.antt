-- The sum of all is the sum of what is left, from the running sum on.
use Rattle.std.proofs.Common.{◌≡◌, drop}
use Rattle.wire.specs.Checksum.{sum}
use Rattle.wire.proofs.checksum.sum.Given as goal

abbrev pub invariant-loop-byte : goal.invariant-loop-byte
invariant-loop-byte l = sum l.from l.data ≡ sum l.total (drop l.byte-index l.data)
