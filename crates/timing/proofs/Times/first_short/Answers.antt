-- The first entry whose slot does not hold its longest frame is the answer: none before the entry at hand is short.
use Rattle.std.proofs.Common.{arith, ◌≡◌, ◌<◌, ◌≤◌, ◌∙◌, ap, not, ℕ, List, Bool, Some, None, Ok}
use native.Mathlib.Nat.{sub-zero}
use borrow.Author.Tests.{lt-ltb, le-ltb}
use Rattle.cluster.specs.Table.{entry_count, entry_delay}
use Rattle.cluster.proofs.Searching.{right, wrong, ended}
use Rattle.timing.specs.Judge.{Judgement, found_of}
use Rattle.timing.specs.Slots.{slot_holds, entry_bytes, entry_holds, first_short}
use Rattle.timing.proofs.Times.first_short.Goals as goal

-- whether the slot of an entry is short, by its delay and its longest frame
short : (t : List ℕ) (tick bit e delay bytes : ℕ) (holds : Bool) → holds ≡ slot_holds tick bit delay bytes → delay ≡ entry_delay t e → bytes ≡ entry_bytes t e
    → not (entry_holds t tick bit e) ≡ not holds
unfolding entry_holds
short t tick bit e delay bytes holds is d b = rw (is, d, b)

-- the first short entry is found, and so is that there is none
found_here : (t : List ℕ) (first e : ℕ) → first ≡ e → e < entry_count t → ◌≡◌ {A = Judgement} (Ok (Some e)) (found_of t first)
unfolding found_of
found_here t first e is l = rw (is, lt-ltb _ _ l)

found_none : (t : List ℕ) (first : ℕ) → first ≡ entry_count t → ◌≡◌ {A = Judgement} (Ok None) (found_of t first)
unfolding found_of
found_none t first is = rw (is, le-ltb (entry_count t) (entry_count t) (omega arith))

pub loop-e-init : goal.loop-e-init
unfolding first_short
loop-e-init c = rw (sub-zero)

pub entry_bytes-requires-clause-kind : goal.entry_bytes-requires-clause-kind
entry_bytes-requires-clause-kind c =
    c.entries-entries.ensures.kind c.loop-e.e _ (omega (arith, c.loop-e-test.true, c.count-e-end.ensures))

pub entry_bytes-requires-clause-target : goal.entry_bytes-requires-clause-target
entry_bytes-requires-clause-target c =
    c.entries-entries.ensures.target c.loop-e.e _ (omega (arith, c.loop-e-test.true, c.count-e-end.ensures))

pub loop-e-preserved : goal.loop-e-preserved
loop-e-preserved c =
    let here : c.loop-e.e < entry_count c.args.t.words.now = omega (arith, c.loop-e-test.true, c.count-e-end.ensures) in
    c.loop-e.invariant
    ∙ wrong _ _ _ here
    (short _ _ _ _ _ _ _ c.slot_holds.ensures (c.entries-entries.ensures.delay c.loop-e.e _ here) c.entry_bytes.ensures ∙ ap not c.if-not-slot_holds.false)

pub returns-then-not-slot_holds : goal.returns-then-not-slot_holds
returns-then-not-slot_holds c =
    let here : c.loop-e.e < entry_count c.args.t.words.now = omega (arith, c.loop-e-test.true, c.count-e-end.ensures) in
    found_here _ _ _
    (c.loop-e.invariant
    ∙ right _ _ _ here
    (short _ _ _ _ _ _ _ c.slot_holds.ensures (c.entries-entries.ensures.delay c.loop-e.e _ here) c.entry_bytes.ensures ∙ ap not c.if-not-slot_holds.true))
    here

pub returns : goal.returns
returns c =
    let n : entry_count c.args.t.words.now ≤ c.loop-e.e = omega (arith, c.loop-e-test.false, c.count-e-end.ensures) in
    found_none _ _ (c.loop-e.invariant ∙ ended _ _ _ n ∙ omega (arith, n, c.loop-e.auto.e-end, c.count-e-end.ensures))
