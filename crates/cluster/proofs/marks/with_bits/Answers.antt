-- A field masked out is 0 exactly where none of its bits is occupied, and such a field is added.
use mathlib.Core.Path.{sym, ◌∙◌}
use native.Mathlib.Omega.{arith}
use borrow.Author.Tests.{eq-eqb, ne_eqb}
use Rattle.cluster.proofs.FieldMask.{field_free, field_joined}
use Rattle.cluster.proofs.marks.with_bits.Goals as goal

pub returns-then-bits-field-eq0-clause-free : goal.returns-then-bits-field-eq0-clause-free
returns-then-bits-field-eq0-clause-free c =
    let a = c.args in
    sym (eq-eqb _ 0 (rw c.ones.ensures at c.if-bits-field-eq0.true)) ∙ field_free a.bits a.offset a.width (omega arith)

pub returns-then-bits-field-eq0-clause-joined : goal.returns-then-bits-field-eq0-clause-joined
returns-then-bits-field-eq0-clause-joined c =
    let a = c.args in
    rw c.ones.ensures (field_joined a.bits a.offset a.width (omega arith) (omega arith) (rw c.ones.ensures at c.if-bits-field-eq0.true))

pub returns-else-bits-field-eq0-clause-free : goal.returns-else-bits-field-eq0-clause-free
returns-else-bits-field-eq0-clause-free c =
    let a = c.args in
    sym (ne_eqb _ 0 (rw c.ones.ensures at c.if-bits-field-eq0.false)) ∙ field_free a.bits a.offset a.width (omega arith)
