-- What `find` over a range answers, and `unwrap_or` behind it: the first number at which a test holds.
use Rattle.std.proofs.Common.{◌≡◌, ◌∙◌, ◌+◌, ◌-◌, ◌<◌, ◌≤◌, ℕ, List, Bool, true, false, arith, sym}
use Rattle.std.proofs.Common.{Option, Some, None, SomeIff, MatchOption}
use Rattle.std.proofs.lemmas.Iterator.{first_from_Range}
use Rattle.std.proofs.iter.Yields.{nat_range_steps}
use Rattle.std.specs.Bool.{⊤}
use Rattle.std.specs.Fn.{CalledAt}
use Rattle.std.specs.Iterator.{YieldsThen}
use Rattle.std.specs.List.{FoldsTo}
use Rattle.std.specs.Option.{unwrap_or}
use Rattle.std.specs.declared.ops.Range.{Range}
use denote.Param.Members.{Mut}
use denote.Ref.{Bor}
use mathlib.Core.Bool.{true≢false}
use Rattle.signal.proofs.Inside.{order}
use Rattle.cluster.specs.Lists.{first_from}
use Rattle.cluster.proofs.Searching.{first_from_lem, first_within, first_holds, first_least}

-- what `find` says of its closure
abbrev pub Ran : {F : Type 0} → Mut F (Bor ℕ × Unit {0}) Bool → Range ℕ → Range ℕ → F → Option ℕ → Type 0
Ran {F} g s u f r =
    (xs : List ℕ) × (j : F) × YieldsThen nat_range_steps s xs r u × FoldsTo (λ p x q. CalledAt g p x false q) f xs j
    × MatchOption r ⊤ (λ x. (h : F) × CalledAt g j x true h)

-- where its closure answers what the test says of each of the m numbers
pub found : {F : Type 0} {g : Mut F (Bor ℕ × Unit {0}) Bool} (test : ℕ → Bool) (s u : Range ℕ) (f : F) (r : Option ℕ) (m : ℕ)
    → Ran g s u f r → ((x : ℕ) (q : F) (b : Bool) → CalledAt g f x b q → (q ≡ f) × (test x ≡ b)) → s.end - s.start ≡ m
    → SomeIff r (first_from test s.start m < s.end) (first_from test s.start m)
found {F} {g} test s u f r m ran says many =
    by r
    (first_from_Range s u f r (λ x. test x ≡ true) (λ x. test x ≡ false) ran (λ x q k. (says x q true k).1) (λ x q k. says x q false k))
  where
    low : s.start ≤ first_from test s.start m
    low = first_from_lem test s.start m

    by : (o : Option ℕ)
        → MatchOption o ((k : ℕ) → s.start ≤ k → k < s.end → test k ≡ false)
        (λ i. (s.start ≤ i) × (i < s.end) × (test i ≡ true) × ((k : ℕ) → s.start ≤ k → k < i → test k ≡ false))
        → SomeIff o (first_from test s.start m < s.end) (first_from test s.start m)
    by None none = λ b. true≢false (sym (first_holds test s.start m (omega (arith, b, low, many))) ∙ none (first_from test s.start m) low b)
    by (Some i) h =
        let least = first_least test s.start m i h.0 h.2 in
        let first = first_from test s.start m in
        let not_before : i ≤ first =
        order first i (λ b. absurd (true≢false (sym (first_holds test s.start m (omega (arith, b, low, many, h.1))) ∙ h.3 first low b))) (λ b. b) in
        (omega (arith, least, h.1), omega (arith, least, not_before))

-- and the number behind them where there is none
pub found_or : {F : Type 0} {g : Mut F (Bor ℕ × Unit {0}) Bool} (test : ℕ → Bool) (s u : Range ℕ) (f : F) (r : Option ℕ) (m d : ℕ)
    → Ran g s u f r → ((x : ℕ) (q : F) (b : Bool) → CalledAt g f x b q → (q ≡ f) × (test x ≡ b)) → s.end - s.start ≡ m → s.start + m ≡ d
    → unwrap_or r d ≡ first_from test s.start m
found_or test s u f r m d ran says many behind = by r (found test s u f r m ran says many)
  where
    by : (o : Option ℕ) → SomeIff o (first_from test s.start m < s.end) (first_from test s.start m) → unwrap_or o d ≡ first_from test s.start m
    by None none =
        order (first_from test s.start m) s.end (λ b. absurd (none b))
        (λ b. omega (arith, b, behind, many, first_from_lem test s.start m, first_within test s.start m))
    by (Some i) is = is.1
