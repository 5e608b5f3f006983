-- The byte is found where the search comes to it, and at the end there is none.
use Rattle.std.proofs.Common.{◌≡◌, ◌+◌, List, length-drop, ℕ, ◌-◌, take, drop, length-take-le, ◌≤◌, ◌<◌, length, arith}
use Rattle.scan.proofs.Searching.{none_left, index_within, search_within}
use Rattle.scan.specs.Bytes.{index_of}
use Rattle.scan.proofs.find.Goals as goal

pub returns-then-end-from-clause-index : goal.returns-then-end-from-clause-index
returns-then-end-from-clause-index c =
    let a = c.args in
    omega (arith, none_left a.byte a.bytes.now a.from a.to (omega arith))

-- the place that the search tells is at most the end
within : (byte from end : ℕ) (bytes : List ℕ) {r : ℕ} → from < end → end ≤ length bytes → r ≡ index_of byte (take (end - from) (drop from bytes)) → from + r ≤ end
within byte from end bytes h k e =
    omega (arith, e, index_within byte (take (end - from) (drop from bytes)), length-take-le (end - from) (drop from bytes) (simp length-drop (omega arith)))

pub overflow_add-result : goal.overflow_add-result
overflow_add-result c =
    let a = c.args in
    omega (arith, within a.byte a.from c.min-end.result a.bytes.now c.if-end-from.false (omega arith) c.index_of.ensures)

pub returns-clause-index : goal.returns-clause-index
returns-clause-index c = let a = c.args in rw (c.index_of.ensures, c.min-end.ensures, search_within a.byte a.bytes.now a.from a.to (omega (arith, c.min-end.ensures, c.if-end-from.false)))

pub returns-clause-at_most : goal.returns-clause-at_most
returns-clause-at_most c =
    let a = c.args in
    λ h. omega (arith, within a.byte a.from c.min-end.result a.bytes.now c.if-end-from.false (omega arith) c.index_of.ensures)
