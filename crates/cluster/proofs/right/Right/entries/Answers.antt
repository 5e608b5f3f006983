-- The records stand in the table, four words each.
use Rattle.std.proofs.Common.{arith, ◌≡◌, ◌+◌, ◌*◌, ◌-◌, ◌/◌, ◌<◌, ◌∙◌, ℕ, List, refl, length, take, drop, get_or, ap}
use Rattle.std.proofs.lemmas.List.{get_or-take, get_or-drop, length-take, length-drop}
use Rattle.cluster.proofs.HeaderLaws.{table_length}
use Rattle.cluster.specs.Table.{word, entry_at, entry_count, entry_schedule, entry_kind, entry_target, entry_delay}
use Rattle.cluster.proofs.Chunks.{chunk_word}
use Rattle.cluster.proofs.right.Right.entries.Goals as goal

pub slice_bounds-as_chunks-end : goal.slice_bounds-as_chunks-end
slice_bounds-as_chunks-end c =
    omega (arith, table_length _ c.args.self.right, c.entry_at-from.ensures.value, c.entry_at-end.ensures.value, c.count.ensures)

pub returns : goal.returns
unfolding word entry_schedule entry_kind entry_target entry_delay
returns c =
    let t = c.args.self.words.now in
    let n = entry_count t in
    let at = c.entry_at-from.result in
    let end = c.entry_at-end.result in
    let from = c.entry_at-from.ensures.value in
    let to : end ≡ entry_at t n = c.entry_at-end.ensures.value ∙ ap (entry_at t) c.count.ensures in
    let long = table_length _ c.args.self.right in
    let part = take (end - at) (drop at t) in
    let l : length part ≡ 4 * n = omega (arith, length-take (end - at) (drop at t), length-drop at t, long, from, to) in
    let q : length part / 4 ≡ n = omega (arith, l) in
    let each : (i e j : ℕ) (d : List ℕ) → e < n → i < 4 → entry_at t e + i ≡ j → get_or (get_or c.as_chunks.result.0.now e d) i 0 ≡ get_or t j 0 =
    λ i e j d h b is.
    ap (λ xs. get_or (get_or xs e d) i 0) (c.as_chunks.ensures.front)
    ∙ chunk_word 4 (length part / 4) part e i d b (omega (arith, q, h))
    ∙ get_or-take (end - at) (drop at t) (4 * e + i) 0 (omega (arith, h, b, from, to))
    ∙ get_or-drop at t (4 * e + i) 0
    ∙ ap (λ k. get_or t k 0) (omega (arith, from, is)) in
    record {
      all = c.as_chunks.ensures.front_len ∙ q;
      schedule = λ e d h. each 0 e _ d h (omega arith) (omega arith);
      kind = λ e d h. each 1 e _ d h (omega arith) refl;
      target = λ e d h. each 2 e _ d h (omega arith) refl;
      delay = λ e d h. each 3 e _ d h (omega arith) refl;
    }
