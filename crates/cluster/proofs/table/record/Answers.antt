-- Each turn reads one word more.
use Rattle.std.proofs.Common.{ℕ, ◌≡◌, ◌+◌, ◌<◌, ◌≤◌, ◌∙◌, sym, List, length, get_or, arith, length-set}
use native.Mathlib.Decide.{ℕ_discrete}
use lib.ListN.{set}
use lib.Seq.{get_or-set_same, get_or-set_other}
use Rattle.cluster.specs.Read.{due, position}
use Rattle.cluster.specs.Table.{word}
use Rattle.cluster.proofs.Scan.{due_there, position_is}
use Rattle.cluster.proofs.table.record.Goals as goal
use Rattle.cluster.proofs.table.record.Goals.{then-whole, else-whole}

-- a word is written: what holds of it and of the words there holds of all
written : (words : List ℕ) (j v : ℕ) → j < length words → (P : ℕ → ℕ → Type 0) → P j v
    → (i : ℕ) → ((i ≡ j → ⊥) → P i (get_or words i 0)) → P i (get_or (set words j v) i 0)
written words j v b P here i other =
    elim (ℕ_discrete i j) [
      | yes e ↦ rw (e, get_or-set_same words j v 0 b) here
      | no d ↦ rw (get_or-set_other words j i v 0 d) (other d)
    ]

word_is : (g : _) (c : goal.Joined-whole g) → (c.if-whole.word ≡ due c.args.t.now (position c.args.at c.loop-j.j)) × (c.if-whole.word ≤ 65536)
unfolding word
word_is g c =
    elim c.if-whole.branch [
      | then-whole w ↦ (
        w.word-is ∙ rw (position_is c.args.at c.loop-j.j) (sym (due_there c.args.t.now (c.args.at + c.loop-j.j) (omega arith))),
        omega (arith, w.word-is, c.type_inv.t (c.args.at + c.loop-j.j)),
      )
      | else-whole w ↦ (w.word-is ∙ rw (position_is c.args.at c.loop-j.j) w.due.ensures.value, omega (arith, w.word-is, w.due.ensures.upper_bound))
    ]

pub loop-j-preserved : goal.loop-j-preserved
loop-j-preserved g c =
    let l = c.loop-j in
    let there : l.j < length l.word-items = omega (arith, l.invariant.size) in
    let is = word_is g c in
    record {
      size = rw length-set l.invariant.size;
      read =
          λ i h.
          written l.word-items l.j c.if-whole.word there (λ (i v : ℕ). v ≡ due c.args.t.now (position c.args.at i)) is.0 i
          (λ d. l.invariant.read i (omega arith));
      high = λ i. written l.word-items l.j c.if-whole.word there (λ (i v : ℕ). v ≤ 65536) is.1 i (λ d. l.invariant.high i);
    }
