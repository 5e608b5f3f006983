-- A list that a member names is one of sixty, and the longer of the two stands there behind each turn.
use Rattle.std.proofs.Common.{◌≡◌, ◌<◌, ◌∙◌, ℕ, List, ap, arith}
use Rattle.cluster.specs.Table.{frame_length, member_count, member_list}
use Rattle.cluster.specs.Check.{RightTable}
use Rattle.cluster.proofs.HeaderLaws.{member_count_lem}
use Rattle.cluster.proofs.MemberLaws.{list_below, list_count_lem}
use Rattle.timing.proofs.Steps.{none_yet, longest_next}
use Rattle.timing.proofs.longest_members.Goals as goal

below : (t : List ℕ) (m l n : ℕ) → RightTable t → n ≡ member_count t → m < n → l ≡ member_list t m → l < 60
below t m l n right e h of =
    let there : m < member_count t = omega arith in
    omega (arith, of, list_below t right m there, list_count_lem t right, member_count_lem t right)

pub loop-m-init : goal.loop-m-init
loop-m-init c = none_yet c.args.t.words.now

pub bounds-longest-l : goal.bounds-longest-l
bounds-longest-l c = below _ _ _ _ c.args.t.right c.count-m-end.ensures c.loop-m-test.true c.list-l.ensures

pub bounds-longest-l-in-loop-m : goal.bounds-longest-l-in-loop-m
bounds-longest-l-in-loop-m c = below _ _ _ _ c.args.t.right c.count-m-end.ensures c.loop-m-test.true c.list-l.ensures

pub loop-m-preserved : goal.loop-m-preserved
loop-m-preserved c =
    let t = c.args.t.words.now in
    let at = c.loop-m in
    let list = below _ _ _ _ c.args.t.right c.count-m-end.ensures c.loop-m-test.true c.list-l.ensures in
    rw c.max.ensures (longest_next t at.m at.longest _ _ at.invariant c.list-l.ensures (c.length-bytes.ensures ∙ ap (frame_length t) c.frame.ensures) list)
