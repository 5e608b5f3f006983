-- What the calls hand from step to step; only private contracts cite this.
use Rattle.std.specs.Prelude.{ℕ, ◌<◌, ◌≤◌, ◌≡◌, List, Result, Ok, Err}
use Rattle.refusal.specs.declared.Refusal.{Refusal}
use Rattle.cluster.specs.Check.{Verdict}
use Rattle.cluster.specs.declared.right.Right.{Right}
use Rattle.cluster.specs.Table.{placement_count, placement_signal}
use Rattle.cluster.specs.Values.{first_placement}

-- the placements of a signal stand together, from its first one on and up to another number
pub record OfSignal (t : List ℕ) (s from end : ℕ) : Type 0 where
  pub first : from ≡ first_placement t s
  pub ordered : from ≤ end
  pub within : end ≤ placement_count t
  pub each : (k : ℕ) → from ≤ k → k < end → placement_signal t k ≡ s
  pub behind : end < placement_count t → placement_signal t end ≡ s → ⊥

-- what a judge hands on: the lent table as a right one where the verdict accepts, or the refusal
abbrev pub Judged : List ℕ → Verdict → Result Right Refusal → Type 0
Judged t v (Ok right) = (v ≡ Ok tt) × (right.words.now ≡ t)
Judged t v (Err r) = v ≡ Err r
