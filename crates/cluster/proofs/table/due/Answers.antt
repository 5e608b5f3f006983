-- The word is there or not.
use Rattle.std.proofs.Common.{◌≡◌, ◌≤◌, ◌<◌, ◌∙◌, ℕ, List, Option, Some, None, length, rules}
use Rattle.std.specs.List.{HoldsAt}
use Rattle.std.specs.Option.{MatchOption}
use borrow.Author.Tests.{lt-ltb, le-ltb}
use denote.Ref.{Bor}
use Rattle.cluster.specs.Read.{due}
use Rattle.cluster.specs.Table.{word}
use Rattle.cluster.proofs.table.due.Goals as goal

is_due : {P : Bor ℕ → Type 0} (t : List ℕ) (i r : ℕ) (o : Option (Bor ℕ))
    → MatchOption o (length t ≤ i) (λ x. (i < length t) × HoldsAt (λ y. x.now ≡ y) t i) → MatchOption o (r ≡ 65536) P
    → ((x : Bor ℕ) → P x → r ≡ x.now) → r ≡ due t i
unfolding due word
is_due t i r None past none is = none ∙ rw (le-ltb i (length t) past)
is_due t i r (Some x) there read is = is x read ∙ there.1 0 ∙ rw (lt-ltb i (length t) there.0)

pub returns-clause-value : goal.returns-clause-value
returns-clause-value c =
    is_due c.args.t.now c.args.i c.map_or.result c.get.result c.get.ensures.lookup.3 c.map_or.ensures (λ x h. search rules)
