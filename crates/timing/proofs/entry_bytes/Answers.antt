-- By the kind of the entry; a list that an entry names is there.
use mathlib.Core.Path.{sym, ◌∙◌}
use native.Mathlib.Omega.{arith}
use Rattle.cluster.specs.Table.{entry_target}
use Rattle.cluster.proofs.EntryLaws.{list_target}
use Rattle.cluster.proofs.HeaderLaws.{member_count_lem}
use Rattle.cluster.proofs.MemberLaws.{list_count_lem}
use Rattle.timing.proofs.Steps.{list_bytes}
use Rattle.timing.proofs.entry_bytes.Goals as goal

pub bounds-longest-target : goal.bounds-longest-target
bounds-longest-target c =
    let t = c.args.t.words.now in
    let kind = sym c.requires.kind ∙ rw (c.in-Some-List.is, c.in-Some-List.field-0-is) at c.of.ensures.says in
    let there = list_target t c.args.t.right c.args.e c.requires.there.0 kind in
    omega (arith, c.requires.target, there, list_count_lem t c.args.t.right, member_count_lem t c.args.t.right)

pub returns-in-Some-List : goal.returns-in-Some-List
returns-in-Some-List c =
    let t = c.args.t.words.now in
    let kind = sym c.requires.kind ∙ rw (c.in-Some-List.is, c.in-Some-List.field-0-is) at c.of.ensures.says in
    rw c.requires.target (c.requires.there.1 (entry_target t c.args.e) ∙ sym (list_bytes t c.args.e kind))
