-- The numbers are those of the longest member of each list among the members passed.
use Rattle.timing.proofs.Steps.{LongestOf}
use Rattle.timing.proofs.longest_members.Given as goal

abbrev pub invariant-loop-m : goal.invariant-loop-m
invariant-loop-m l = LongestOf l.t.words.now l.m l.longest
