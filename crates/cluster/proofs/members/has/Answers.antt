-- Some member of the list is the frame.
use Rattle.std.proofs.Common.{◌≡◌, ◌<◌, refl, sym, subst, ℕ, Bool, true, false, List, length, get_or, arith, rules}
use Rattle.std.proofs.lemmas.Iterator.{cases_from_any, YieldsList-from_range}
use Rattle.std.proofs.lemmas.List.FromFn.{length-range_with_len, get_or-range_with_len}
use Rattle.std.specs.Bool.{MatchBool}
use Rattle.std.specs.List.{AllWithin, HoldsAt, range_with_len}
use borrow.Author.Tests.{tests}
use Rattle.wire.proofs.Tests.{whether}
use Rattle.cluster.specs.Lists.{is_one_of, members}
use Rattle.cluster.specs.Table.{member_count, member_list, member_frame}
use Rattle.cluster.proofs.ListLaws.{in_list}
use Rattle.cluster.proofs.members.has.Goals as goal

module _ (t : List ℕ) (l f n : ℕ) (all : n ≡ member_count t) where
  abbrev Is : ℕ → Type 0
  Is m = (member_list t m ≡ l) × (member_frame t m ≡ f)

  abbrev IsNot : ℕ → Type 0
  IsNot m = member_list t m ≡ l → member_frame t m ≡ f → ⊥

  number : (m : ℕ) → m < n → get_or (range_with_len 0 n) m 0 ≡ m
  number m h = omega (arith, get_or-range_with_len 0 n m 0 h)

  has_is : (r : Bool) → MatchBool r ((m : ℕ) × (m < length (range_with_len 0 n)) × HoldsAt Is (range_with_len 0 n) m)
      (AllWithin IsNot (range_with_len 0 n) 0 (length (range_with_len 0 n)))
      → r ≡ is_one_of f (members t l)
  has_is true found =
      let below : found.0 < n = omega (arith, found.1, length-range_with_len 0 n) in
      let is = subst Is (number found.0 below) (found.2 0) in
      sym ((in_list t l f).1 (found.0, omega (arith, all), is.0, is.1))
  has_is false none =
      whether (is_one_of f (members t l))
      (λ y.
      let found = (in_list t l f).0 y in
      let below : found.0 < n = omega (arith, found.1, all) in
      let no = subst IsNot (number found.0 below) (none found.0 0 (omega arith) (omega (arith, below, length-range_with_len 0 n))) in
      absurd (no found.2 found.3))
      (λ z. sym z)

pub returns : goal.returns
returns c =
    let a = c.args in
    has_is a.t.now a.l a.f c.count.result c.count.ensures c.any.result
    (cases_from_any _ _ c.any.result (Is a.t.now a.l a.f c.count.result c.count.ensures)
    (IsNot a.t.now a.l a.f c.count.result c.count.ensures) c.any.ensures.ran
    (YieldsList-from_range 0 c.count.result c.count.result refl (omega arith)) (λ x q k. search (rules, tests)) (λ x q k. search (rules, tests)))
