-- The records stand in the table, three words each.
use Rattle.std.proofs.Common.{arith, ◌≡◌, ◌+◌, ◌*◌, ◌-◌, ◌/◌, ◌∙◌, length, take, drop, get_or, ap}
use Rattle.std.proofs.lemmas.List.{get_or-take, get_or-drop, length-take, length-drop}
use Rattle.cluster.proofs.HeaderLaws.{table_length}
use Rattle.cluster.specs.Table.{word, frame_at, signal_at, placement_at, member_at, placement_count}
use Rattle.cluster.proofs.Chunks.{chunk_word}
use Rattle.cluster.proofs.right.Right.placements.Goals as goal

pub slice_bounds-as_chunks-end : goal.slice_bounds-as_chunks-end
unfolding member_at placement_at signal_at frame_at
slice_bounds-as_chunks-end c =
    omega (arith, table_length _ c.args.self.right, c.placement_at-from.ensures.value, c.member_at-end.ensures.value)

pub returns : goal.returns
unfolding member_at placement_at signal_at frame_at word
returns c =
    let t = c.args.self.words.now in
    let n = placement_count t in
    let at = c.placement_at-from.result in
    let end = c.member_at-end.result in
    let from = c.placement_at-from.ensures.value in
    let to = c.member_at-end.ensures.value in
    let long = table_length _ c.args.self.right in
    let part = take (end - at) (drop at t) in
    let l : length part ≡ 3 * n = omega (arith, length-take (end - at) (drop at t), length-drop at t, long, from, to) in
    let e : length part / 3 ≡ n = omega (arith, l) in
    record {
      all = c.as_chunks.ensures.front_len ∙ e;
      each = λ k i d h b.
          ap (λ xs. get_or (get_or xs k d) i 0) (c.as_chunks.ensures.front)
          ∙ chunk_word 3 (length part / 3) part k i d b (omega (arith, e, h))
          ∙ get_or-take (end - at) (drop at t) (3 * k + i) 0 (omega (arith, h, b, from, to))
          ∙ get_or-drop at t (3 * k + i) 0
          ∙ ap (λ j. get_or t j 0) (omega (arith, from));
    }
