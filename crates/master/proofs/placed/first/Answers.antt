-- The records of lower signals are those before the first placement.
use Rattle.std.proofs.Common.{arith, ◌≡◌, ◌<◌, ◌≤◌, ◌-◌, ◌∙◌, ap, ℕ, List, [], get_or, ltb, rules}
use Rattle.std.proofs.lemmas.Bool.{ltb-true, ltb-false}
use Rattle.std.proofs.lemmas.List.Sorted.{IsPartitionPoint-from_clause, IsPartitionedBy-ltb, IsNonDecreasingBy-from_default}
use Rattle.signal.proofs.Inside.{order}
use Rattle.cluster.proofs.HeaderLaws.{placement_count_lem}
use Rattle.cluster.proofs.CountingUp.{up_monotone}
use Rattle.cluster.proofs.PlacementLaws.{signals_up}
use Rattle.cluster.proofs.Together.{first_high, lower_before, higher_behind}
use Rattle.cluster.specs.Table.{word, placement_signal, placement_count}
use Rattle.cluster.specs.Values.{first_placement}
use Rattle.master.proofs.placed.first.Goals as goal

pub overflow_cast-result : goal.overflow_cast-result
overflow_cast-result c = omega (arith, placement_count_lem _ c.args.t.right, c.partition_point.ensures.bound, c.placements.ensures.all)

pub returns : goal.returns
unfolding placement_signal word
returns c =
    let t = c.args.t.words.now in
    let ok = c.args.t.right in
    let s = c.args.s in
    let r = c.partition_point.result in
    let xs = c.placements.result.now in
    let all = c.placements.ensures.all in
    let each : (k : ℕ) (d : List ℕ) → k < placement_count t → get_or (get_or xs k d) 0 0 ≡ placement_signal t k =
    (λ k d h. c.placements.ensures.each k 0 d h (omega arith) ∙ ap (λ i. get_or t i 0) (omega arith)) in
    let head : List ℕ → ℕ = (λ x. get_or x 0 0) in
    let rise = IsNonDecreasingBy-from_default head xs [] (λ i j h b.
    let up = up_monotone (placement_signal t) (placement_count t) (signals_up t ok) i j h (omega (arith, all, b)) in
    omega (arith, up, each i [] (omega (arith, all, b)), each j [] (omega (arith, all, b)))) in
    let point =
    IsPartitionPoint-from_clause (λ x. ltb (head x) s) xs r c.partition_point.ensures.partitioned
    (IsPartitionedBy-ltb head xs s rise) (λ a r q k. search rules) in
    let low : r ≤ first_placement t s =
    order (first_placement t s) r
    (λ b.
    let h : r - 1 < placement_count t = omega (arith, all, b, c.partition_point.ensures.bound) in
    let l = ltb-true _ _ (point.0 (r - 1) [] (omega arith) (omega (arith, b))) in
    absurd (omega (arith, b, lower_before t ok s (r - 1) h (omega (arith, l, each (r - 1) [] h)))))
    (λ b. b) in
    let high : first_placement t s ≤ r =
    order r (placement_count t)
    (λ b.
    let l = ltb-false _ _ (point.1 r [] (omega arith) (omega (arith, all, b))) in
    higher_behind t ok s r b (omega (arith, l, each r [] b)))
    (λ b. omega (arith, b, first_high t s)) in
    omega (arith, low, high)
