-- Putting the rest of the bytes from here on completes the text.
use Rattle.std.proofs.Common.{◌≡◌, ℕ, List, length, drop}
use Rattle.script.specs.Print.{Puts, spaced_pairs}
use Rattle.script.proofs.print.pairs.Given as goal

abbrev pub invariant-loop-byte : goal.invariant-loop-byte
invariant-loop-byte l = record {
  size : length l.out ≡ length l.initial.out;
  rest : (r : ℕ) (after : List ℕ) → Puts (spaced_pairs (drop l.byte-index l.bytes)) l.out l.end r after
      → Puts (spaced_pairs l.bytes) l.initial.out l.fn.at r after;
}
