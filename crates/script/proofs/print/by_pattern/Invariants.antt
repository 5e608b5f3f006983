-- Putting the rest of the pattern from here on completes the text.
use Rattle.std.proofs.Common.{◌≡◌, ℕ, List, length, drop}
use Rattle.script.specs.Print.{Puts, text_by}
use Rattle.script.proofs.print.by_pattern.Given as goal

abbrev pub invariant-loop-c : goal.invariant-loop-c
invariant-loop-c l = record {
  size : length l.out ≡ length l.initial.out;
  rest : (r : ℕ) (after : List ℕ) → Puts (text_by (drop l.c-index l.pattern) (drop l.place l.numbers)) l.out l.end r after
      → Puts (text_by l.pattern (drop l.fn.from l.numbers)) l.initial.out l.fn.at r after;
}
