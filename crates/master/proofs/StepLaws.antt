-- What holds of every call, stated once over `Call`: it answers a refusal exactly when its verdict is that refusal, a refusal changes nothing, the
-- number is the verdict's, the state handed back fits, lengths are kept, and only a write and a byte in change a pending bit.
use Prim.Native.Nat.{ℕ}
use mathlib.Core.Path.{◌≡◌, refl, sym, ◌∙◌, ap}
use mathlib.Core.Logic.{◌↔◌}
use mathlib.Core.Bool.{Bool, true, false, cond}
use mathlib.Core.List.{List, []}
use native.Mathlib.Omega.{arith}
use borrow.Author.Tests.{ltb-true}
use lib.Dec.{ltb}
use lib.ListN.{length}
use Rattle.refusal.specs.declared.Refusal.{Refusal}
use Rattle.refusal.specs.Answers.{Told, gives, refuses as refusing}
use Rattle.refusal.specs.Numbers as number
use Rattle.cluster.specs.Check.{RightTable}
use Rattle.cluster.specs.Table.{schedule_count}
use Rattle.cluster.proofs.Accepted.{then_first, then_second}
use Rattle.transport.specs.Cutting.{is_length}
use Rattle.master.specs.declared.state.Opened.{Opened}
use Rattle.master.specs.declared.state.Opened.TheVariants as opened
use Rattle.master.specs.declared.state.Message.{Message}
use Rattle.master.specs.declared.state.Message.TheVariants.{None, Sending, Completed, Failed}
use Rattle.master.specs.declared.state.State.{State}
use Rattle.master.specs.Answers.{Wrote}
use Rattle.master.specs.Calls.{ArrayAnswer}
use Rattle.master.specs.Answers.{StatusRead}
use Rattle.master.specs.Answers.{Chosen}
use Rattle.master.specs.Answers.{Ticked}
use Rattle.master.specs.Answers.{Took}
use Rattle.master.specs.Answers.{Sent}
use Rattle.master.specs.Fits.{state_fits}
use Rattle.master.specs.Transfers.{opening}
use Rattle.master.specs.Admit.{Step, admitted, answered, buffer_size}
use Rattle.master.specs.Answers.{read_told, write_told, array_told, select_told, tick_told, byte_told, status_told, send_told, message_told, ahead_told}
use Rattle.master.specs.Told.{told_as, opened_value, values_of}
use Rattle.master.specs.Write.{marked, write_verdict, write_of}
use Rattle.master.specs.Read.{read_verdict, read_scalar_of, read_array_of}
use Rattle.master.specs.Select.{select_verdict, select_of}
use Rattle.master.specs.Tick.{tick_effect, tick_verdict, tick_of}
use Rattle.master.specs.Closing.{failed, sent, received}
use Rattle.master.specs.Byte.{passed, accepted, with_byte, byte_effect, byte_verdict, byte_of}
use Rattle.master.specs.Status.{status_of}
use Rattle.master.specs.Message.{send_verdict, send_of, told, message_of}
use Rattle.master.specs.Ahead.{ahead_verdict, ahead_of}
use Rattle.master.specs.Calls as call
use Rattle.master.specs.Calls.{Call}
use Rattle.master.specs.Run.{Held, held, answer_of, left_by}
use Rattle.master.specs.Step.{verdict_of, effect_of, refusal_of, told_of}
use Rattle.master.proofs.Admitted.{unless_test, admitted_table, admitted_size, admitted_fits, Fits, fits_clauses, fits_all}
use Rattle.master.proofs.Answered.{by_verdict, writable_signal}
use Rattle.master.proofs.Cases.{ticked_by, taken_by, accepted_state}
use Rattle.master.proofs.FitsKept.{marked_fits, asking_fits, status_fits, send_fits}
use Rattle.master.proofs.SlotFits.{abandoned_nothing, ticked_fits}
use Rattle.master.specs.Plan.{waits}
use Rattle.master.proofs.Keeps.{taken_fits}
use Rattle.master.proofs.Lengths.{taken_length}
use Rattle.master.proofs.PendingLength.{ticked_pending, marked_length, sent_length}
use Rattle.master.proofs.ReadBack.{value_length}
use Rattle.master.specs.Write.{is_bytes, fits_signal}
use Rattle.std.specs.Prelude.{Ok, Err}
use Rattle.cluster.specs.Check.{Verdict}

-- ---- verdict, then effect

-- a function of what is answered, by the verdict
commute : {A B : Type 0} (f : A → B) (v : Verdict) (refuse : Refusal → A) (go : A) → f (answered v refuse go) ≡ answered v (λ r. f (refuse r)) (f go)
commute f (Ok tt) refuse go = refl
commute f (Err r) refuse go = refl

either_way : {A : Type 0} (v : Verdict) (a : A) → a ≡ answered v (λ r. a) a
either_way (Ok tt) a = refl
either_way (Err r) a = refl

-- what a call leaves: all as it was where it is refused, and otherwise its effect
pub left_by_verdict : (t : List ℕ) (x : Held) (c : Call) → left_by t x c ≡ answered (verdict_of t x c) (λ r. x) (effect_of t x c)
unfolding left_by verdict_of effect_of write_of select_of tick_of byte_of status_of send_of
left_by_verdict t x (call.write w) = commute (λ (z : Step Wrote). held z.given.state z.left) (write_verdict t (length x.bytes) x.state w) _ _
left_by_verdict t x (call.read s) = either_way (read_verdict t (length x.bytes) x.state s false) x
left_by_verdict t x (call.read_array s) = either_way (read_verdict t (length x.bytes) x.state s true) x
left_by_verdict t x (call.select n) = commute (λ (z : Chosen). held z.state x.bytes) (select_verdict t x.state n) _ _
left_by_verdict t x (call.tick m) = commute (λ (z : Ticked). held z.state x.bytes) (tick_verdict t (length x.bytes) (length m) x.state) _ _
left_by_verdict t x (call.byte_in b) = commute (λ (z : Step Took). held z.given.state z.left) (byte_verdict t (length x.bytes) x.state) _ _
left_by_verdict t x call.read_status = commute (λ (z : StatusRead). held z.state x.bytes) (admitted t (buffer_size t) x.state) _ _
left_by_verdict t x (call.send nad n) = commute (λ (z : Sent). held z.state x.bytes) (send_verdict t x.state n) _ _
left_by_verdict t x call.message_state = either_way (admitted t (buffer_size t) x.state) x
left_by_verdict t x (call.number_ahead f) = either_way (ahead_verdict t x.state f) x

-- ---- refusals

refuses : {A : Type 0} (v : Verdict) (refuse : Refusal → A) (go : A) (r : Refusal) → v ≡ Err r → answered v refuse go ≡ refuse r
refuses v refuse go r e = rw e

pub goes : {A : Type 0} (v : Verdict) (refuse : Refusal → A) (go : A) → v ≡ Ok tt → answered v refuse go ≡ go
goes v refuse go e = rw e

-- a refused call answers its refusal
pub refused_answer : (t : List ℕ) (x : Held) (c : Call) (r : Refusal) → verdict_of t x c ≡ Err r → answer_of t x c ≡ refusal_of c r
unfolding answer_of verdict_of refusal_of write_of read_scalar_of read_array_of select_of tick_of byte_of status_of send_of message_of ahead_of
refused_answer t x (call.write w) r e = ap (λ (z : Step Wrote). z.given.answer) (refuses _ _ _ r e)
refused_answer t x (call.read s) r e = refuses _ _ _ r e
refused_answer t x (call.read_array s) r e = refuses _ _ _ r e
refused_answer t x (call.select n) r e = ap (λ (z : Chosen). z.answer) (refuses _ _ _ r e)
refused_answer t x (call.tick m) r e = ap (λ (z : Ticked). z.answer) (refuses _ _ _ r e)
refused_answer t x (call.byte_in b) r e =
    ap (λ (z : Step Took). z.given.answer) (refuses _ _ _ r e)
refused_answer t x call.read_status r e = ap (λ (z : StatusRead). z.answer) (refuses _ _ _ r e)
refused_answer t x (call.send nad n) r e = ap (λ (z : Sent). z.answer) (refuses _ _ _ r e)
refused_answer t x call.message_state r e = refuses _ _ _ r e
refused_answer t x (call.number_ahead f) r e = refuses _ _ _ r e

accepted_answers : (t : List ℕ) (s : State) (o : Opened) (nine bs : List ℕ) (r : Refusal) → (accepted t s o nine bs).given.answer ≡ Err r → ⊥
unfolding accepted
accepted_answers t s opened.Nothing nine bs r k = let z : ◌≡◌ {A = ℕ} 0 1 = cc in omega arith
accepted_answers t s (opened.Frame f) nine bs r k = let z : ◌≡◌ {A = ℕ} 0 1 = cc in omega arith
accepted_answers t s opened.Request nine bs r k = let z : ◌≡◌ {A = ℕ} 0 1 = cc in omega arith
accepted_answers t s opened.Response nine bs r k = let z : ◌≡◌ {A = ℕ} 0 1 = cc in omega arith

-- an accepted one answers none
accepted_answer : (t : List ℕ) (x : Held) (c : Call) (r : Refusal) → verdict_of t x c ≡ Ok tt → answer_of t x c ≡ refusal_of c r → ⊥
unfolding answer_of verdict_of refusal_of write_of read_scalar_of read_array_of select_of tick_of byte_of status_of send_of message_of ahead_of
accepted_answer t x (call.write w) r a k = let z = sym (ap (λ (z : Step Wrote). z.given.answer) (goes _ _ _ a)) ∙ k in let y : ◌≡◌ {A = ℕ} 0 1 = cc in omega arith
accepted_answer t x (call.read s) r a k = let z = sym (goes _ _ _ a) ∙ k in let y : ◌≡◌ {A = ℕ} 0 1 = cc in omega arith
accepted_answer t x (call.read_array s) r a k = let z = sym (goes _ _ _ a) ∙ k in let y : ◌≡◌ {A = ℕ} 0 1 = cc in omega arith
accepted_answer t x (call.select n) r a k = let z = sym (ap (λ (z : Chosen). z.answer) (goes _ _ _ a)) ∙ k in let y : ◌≡◌ {A = ℕ} 0 1 = cc in omega arith
accepted_answer t x (call.tick m) r a k =
    ticked_by t x.bytes m (λ w. w.answer ≡ Err r → ⊥) x.state
    (λ y z. let q : ◌≡◌ {A = ℕ} 0 1 = cc in omega arith)
    (λ n c z. let q : ◌≡◌ {A = ℕ} 0 1 = cc in omega arith)
    (λ e n c p z. let q : ◌≡◌ {A = ℕ} 0 1 = cc in omega arith)
    (λ e o n c p y z. let q : ◌≡◌ {A = ℕ} 0 1 = cc in omega arith)
    (sym (ap (λ (z : Ticked). z.answer) (goes _ _ _ a)) ∙ k)
accepted_answer t x (call.byte_in b) r a k =
    taken_by t x.state x.bytes b (λ w. w.given.answer ≡ Err r → ⊥)
    (λ nine e z. let q : ◌≡◌ {A = ℕ} 0 1 = cc in omega arith)
    (λ z. let q : ◌≡◌ {A = ℕ} 0 1 = cc in omega arith)
    (λ y z. let q : ◌≡◌ {A = ℕ} 0 1 = cc in omega arith)
    (λ n z. accepted_answers t x.state x.state.transfer.opened (with_byte x.state.transfer b) x.bytes r z)
    (sym (ap (λ (z : Step Took). z.given.answer) (goes _ _ _ a)) ∙ k)
accepted_answer t x call.read_status r a k = let z = sym (ap (λ (z : StatusRead). z.answer) (goes _ _ _ a)) ∙ k in let y : ◌≡◌ {A = ℕ} 0 1 = cc in omega arith
accepted_answer t x (call.send nad n) r a k = let z = sym (ap (λ (z : Sent). z.answer) (goes _ _ _ a)) ∙ k in let y : ◌≡◌ {A = ℕ} 0 1 = cc in omega arith
accepted_answer t x call.message_state r a k = let z = sym (goes _ _ _ a) ∙ k in let y : ◌≡◌ {A = ℕ} 0 1 = cc in omega arith
accepted_answer t x (call.number_ahead f) r a k = let z = sym (goes _ _ _ a) ∙ k in let y : ◌≡◌ {A = ℕ} 0 1 = cc in omega arith

same_refusal : (c : Call) (r q : Refusal) → refusal_of c r ≡ refusal_of c q → r ≡ q
unfolding refusal_of
same_refusal (call.write w) r q e = cc
same_refusal (call.read s) r q e = cc
same_refusal (call.read_array s) r q e = cc
same_refusal (call.select n) r q e = cc
same_refusal (call.tick m) r q e = cc
same_refusal (call.byte_in b) r q e = cc
same_refusal call.read_status r q e = cc
same_refusal (call.send nad n) r q e = cc
same_refusal call.message_state r q e = cc
same_refusal (call.number_ahead f) r q e = cc

-- a refusal is answered exactly when it is the verdict
pub refused_exactly : (t : List ℕ) (x : Held) (c : Call) (r : Refusal) → (answer_of t x c ≡ refusal_of c r) ↔ (verdict_of t x c ≡ Err r)
refused_exactly t x c r = (by (verdict_of t x c) refl, refused_answer t x c r)
  where
    by : (v : Verdict) → verdict_of t x c ≡ v → answer_of t x c ≡ refusal_of c r → verdict_of t x c ≡ Err r
    by (Ok tt) e k = absurd (accepted_answer t x c r e k)
    by (Err q) e k = e ∙ ap Err (same_refusal c q r (sym (refused_answer t x c q e) ∙ k))

-- "All change nothing": a refused call hands back the state and every lent byte as they were
pub refused_changes_nothing : (t : List ℕ) (x : Held) (c : Call) (r : Refusal) → answer_of t x c ≡ refusal_of c r → left_by t x c ≡ x
refused_changes_nothing t x c r k = left_by_verdict t x c ∙ rw ((refused_exactly t x c r).0 k)

-- what is told is the verdict, and the values where it accepts
telling : {A : Type 0} (tell : A → Told) (v : Verdict) (refuse : Refusal → A) (go : A) (vs : List ℕ) → ((r : Refusal) → tell (refuse r) ≡ refusing r)
    → tell go ≡ gives vs → tell (answered v refuse go) ≡ told_as v vs
telling tell (Ok tt) refuse go vs other rest = rest
telling tell (Err r) refuse go vs other rest = other r

accepted_told : (t : List ℕ) (s : State) (o : Opened) (nine bs : List ℕ) → byte_told (accepted t s o nine bs).given.answer ≡ gives []
unfolding accepted
accepted_told t s opened.Nothing nine bs = refl
accepted_told t s (opened.Frame f) nine bs = refl
accepted_told t s opened.Request nine bs = refl
accepted_told t s opened.Response nine bs = refl

message_told_lem : (x : Message) → message_told (Ok (told x)) ≡ gives []
message_told_lem None = refl
message_told_lem (Sending x) = refl
message_told_lem Completed = refl
message_told_lem Failed = refl

pub verdict_told_lem : (t : List ℕ) (x : Held) (c : Call) → told_of c (answer_of t x c) ≡ told_as (verdict_of t x c) (values_of t x c)
unfolding told_of answer_of verdict_of values_of opening write_of read_scalar_of read_array_of select_of tick_of byte_of status_of send_of message_of ahead_of
verdict_told_lem t x (call.write w) = telling (λ (z : Step Wrote). write_told z.given.answer) (write_verdict t (length x.bytes) x.state w) _ _ _ (λ r. refl) refl
verdict_told_lem t x (call.read s) = telling read_told (read_verdict t (length x.bytes) x.state s false) _ _ _ (λ r. refl) refl
verdict_told_lem t x (call.read_array s) = telling (λ (z : ArrayAnswer). array_told z) (read_verdict t (length x.bytes) x.state s true) _ _ _ (λ r. refl) refl
verdict_told_lem t x (call.select n) = telling (λ (z : Chosen). select_told z.answer) (select_verdict t x.state n) _ _ _ (λ r. refl) refl
verdict_told_lem t x (call.tick m) =
    telling (λ (z : Ticked). tick_told z.answer) (tick_verdict t (length x.bytes) (length m) x.state) _ _ _ (λ r. refl)
    (ticked_by t x.bytes m (λ w. tick_told w.answer ≡ gives (cond (waits x.state.plan) [] (opened_value t w.state.transfer.opened))) x.state
    (λ y. rw y) (λ n c. rw (n, abandoned_nothing t x.state)) (λ e n c q. rw (n, abandoned_nothing t x.state)) (λ e o n c p y. rw (n, y)))
verdict_told_lem t x (call.byte_in b) =
    telling (λ (z : Step Took). byte_told z.given.answer) (byte_verdict t (length x.bytes) x.state) _ _ _ (λ r. refl)
    (taken_by t x.state x.bytes b (λ w. byte_told w.given.answer ≡ gives []) (λ nine e. refl) refl (λ y. refl)
    (λ n. accepted_told t x.state x.state.transfer.opened (with_byte x.state.transfer b) x.bytes))
verdict_told_lem t x call.read_status = telling (λ (z : StatusRead). status_told z.answer) (admitted t (buffer_size t) x.state) _ _ _ (λ r. refl) refl
verdict_told_lem t x (call.send nad n) = telling (λ (z : Sent). send_told z.answer) (send_verdict t x.state n) _ _ _ (λ r. refl) refl
verdict_told_lem t x call.message_state = telling message_told (admitted t (buffer_size t) x.state) _ _ _ (λ r. refl) (message_told_lem x.state.message)
verdict_told_lem t x (call.number_ahead f) = telling ahead_told (ahead_verdict t x.state f) _ _ _ (λ r. refl) refl

-- ---- what every call keeps

-- tests 1, 2 and 3 hold of an accepted call
admitted_first : (t : List ℕ) (x : Held) (c : Call) → verdict_of t x c ≡ Ok tt → (n : ℕ) × (admitted t n x.state ≡ Ok tt)
unfolding verdict_of read_verdict select_verdict tick_verdict byte_verdict send_verdict ahead_verdict
admitted_first t x (call.write w) a = (_, then_first (admitted t (length x.bytes) x.state) _ a)
admitted_first t x (call.read s) a = (_, then_first (admitted t (length x.bytes) x.state) _ a)
admitted_first t x (call.read_array s) a = (_, then_first (admitted t (length x.bytes) x.state) _ a)
admitted_first t x (call.select n) a = (_, then_first (admitted t (buffer_size t) x.state) _ a)
admitted_first t x (call.tick m) a = (_, then_first (admitted t (length x.bytes) x.state) _ a)
admitted_first t x (call.byte_in b) a = (_, then_first (admitted t (length x.bytes) x.state) _ a)
admitted_first t x call.read_status a = (_, a)
admitted_first t x (call.send nad n) a = (_, then_first (admitted t (buffer_size t) x.state) _ a)
admitted_first t x call.message_state a = (_, a)
admitted_first t x (call.number_ahead f) a = (_, then_first (admitted t (buffer_size t) x.state) _ a)

effect_fits : (t : List ℕ) (x : Held) (c : Call) → verdict_of t x c ≡ Ok tt → state_fits t (effect_of t x c).state ≡ true
unfolding effect_of verdict_of select_verdict send_verdict
effect_fits t x c a =
    let s = x.state in
    let ad = admitted_first t x c a in
    let ok = admitted_table t ad.0 s ad.1 in
    let h = admitted_fits t ad.0 s ad.1 in
    let fits = fits_clauses t s h in
    by c a ok h fits
  where
    by : (c : Call) → verdict_of t x c ≡ Ok tt → RightTable t → state_fits t x.state ≡ true → Fits t x.state → state_fits t (effect_of t x c).state ≡ true
    by (call.write w) a ok h fits =
        let k = writable_signal t w.signal (is_bytes w.value) (fits_signal t w.signal w.value) (then_second (admitted t (length x.bytes) x.state) _ a) in
        fits_all t (marked t w.signal x.state) (marked_fits t x.state fits ok w.signal k.below k.is_published)
    by (call.read s) a ok h fits = h
    by (call.read_array s) a ok h fits = h
    by (call.select n) a ok h fits =
        let k = then_second (admitted t (buffer_size t) x.state) _ a in
        fits_all t _ (asking_fits t x.state fits n (ltb-true n (schedule_count t) (unless_test (ltb n (schedule_count t)) number.unknown _ k)))
    by (call.tick m) a ok h fits = fits_all t (tick_effect t x.bytes m x.state).state (ticked_fits t ok x.bytes m x.state fits)
    by (call.byte_in b) a ok h fits = fits_all t (byte_effect t x.state x.bytes b).given.state (taken_fits t ok x.state fits x.bytes b)
    by call.read_status a ok h fits = fits_all t _ (status_fits t x.state fits)
    by (call.send nad n) a ok h fits =
        let k = then_second (admitted t (buffer_size t) x.state) _ a in
        fits_all t _ (send_fits t x.state fits nad n (unless_test (is_length n) number.message_length _ k))
    by call.message_state a ok h fits = h
    by (call.number_ahead f) a ok h fits = h

-- what holds of the old, and of each effect, holds of what a call leaves
pub kept : (t : List ℕ) (x : Held) (c : Call) (P : Held → Type 0) → P x → (verdict_of t x c ≡ Ok tt → P (effect_of t x c)) → P (left_by t x c)
kept t x c P old new = rw (left_by_verdict t x c) (by_verdict P (verdict_of t x c) (λ r. x) (effect_of t x c) (λ r e. old) new)

-- the state that a call hands back fits the table, refused or not
pub keeps_fit : (t : List ℕ) (x : Held) (c : Call) → state_fits t x.state ≡ true → state_fits t (left_by t x c).state ≡ true
keeps_fit t x c h = kept t x c (λ y. state_fits t y.state ≡ true) h (effect_fits t x c)

effect_length : (t : List ℕ) (x : Held) (c : Call) → verdict_of t x c ≡ Ok tt → length (effect_of t x c).bytes ≡ length x.bytes
unfolding effect_of verdict_of byte_verdict
effect_length t x (call.write w) a = value_length t x.bytes w.signal w.value
effect_length t x (call.read s) a = refl
effect_length t x (call.read_array s) a = refl
effect_length t x (call.select n) a = refl
effect_length t x (call.tick m) a = refl
effect_length t x (call.byte_in b) a =
    let ad = then_first (admitted t (length x.bytes) x.state) _ a in
    taken_length t (admitted_table t (length x.bytes) x.state ad) x.state x.bytes (admitted_size t (length x.bytes) x.state ad) b
    (fits_clauses t x.state (admitted_fits t (length x.bytes) x.state ad)).frame_there_lem
effect_length t x call.read_status a = refl
effect_length t x (call.send nad n) a = refl
effect_length t x call.message_state a = refl
effect_length t x (call.number_ahead f) a = refl

-- a call leaves as many frame bytes as it was lent
pub keeps_bytes : (t : List ℕ) (x : Held) (c : Call) → length (left_by t x c).bytes ≡ length x.bytes
keeps_bytes t x c = kept t x c (λ y. length y.bytes ≡ length x.bytes) refl (effect_length t x c)

-- the call writes, or brings a byte
abbrev pub changes_bits : Call → Bool
changes_bits (call.write w) = true
changes_bits (call.read s) = false
changes_bits (call.read_array s) = false
changes_bits (call.select n) = false
changes_bits (call.tick m) = false
changes_bits (call.byte_in b) = true
changes_bits call.read_status = false
changes_bits (call.send nad n) = false
changes_bits call.message_state = false
changes_bits (call.number_ahead f) = false

effect_pending : (t : List ℕ) (x : Held) (c : Call) → changes_bits c ≡ false → (effect_of t x c).state.pending ≡ x.state.pending
unfolding effect_of
effect_pending t x (call.write w) n = absurd (let z : ◌≡◌ {A = ℕ} 0 1 = cc in omega arith)
effect_pending t x (call.read s) n = refl
effect_pending t x (call.read_array s) n = refl
effect_pending t x (call.select k) n = refl
effect_pending t x (call.tick m) n = ticked_pending t x.bytes m x.state
effect_pending t x (call.byte_in b) n = absurd (let z : ◌≡◌ {A = ℕ} 0 1 = cc in omega arith)
effect_pending t x call.read_status n = refl
effect_pending t x (call.send nad k) n = refl
effect_pending t x call.message_state n = refl
effect_pending t x (call.number_ahead f) n = refl

-- no call but a write and a byte in changes a pending bit, also not a tick that closes a transfer
pub keeps_pending : (t : List ℕ) (x : Held) (c : Call) → changes_bits c ≡ false → (left_by t x c).state.pending ≡ x.state.pending
keeps_pending t x c n = kept t x c (λ y. y.state.pending ≡ x.state.pending) refl (λ a. effect_pending t x c n)

-- how many pending bits there are after each effect
effect_bits : (t : List ℕ) (x : Held) (c : Call) → length (effect_of t x c).state.pending ≡ length x.state.pending
unfolding effect_of marked passed failed sent received
effect_bits t x (call.write w) = marked_length t w.signal 0 x.state.pending
effect_bits t x (call.read s) = refl
effect_bits t x (call.read_array s) = refl
effect_bits t x (call.select n) = refl
effect_bits t x (call.tick m) = ap length (ticked_pending t x.bytes m x.state)
effect_bits t x (call.byte_in b) =
    taken_by t x.state x.bytes b (λ w. length w.given.state.pending ≡ length x.state.pending) (λ nine e. refl) refl
    (λ y. sent_length x.state.transfer.opened x.state.transfer.written x.state.pending)
    (λ n. rw (accepted_state t x.state x.state.transfer.opened (with_byte x.state.transfer b) x.bytes))
effect_bits t x call.read_status = refl
effect_bits t x (call.send nad n) = refl
effect_bits t x call.message_state = refl
effect_bits t x (call.number_ahead f) = refl

-- a call keeps the number of pending bits
pub keeps_bits : (t : List ℕ) (x : Held) (c : Call) → length (left_by t x c).state.pending ≡ length x.state.pending
keeps_bits t x c = kept t x c (λ y. length y.state.pending ≡ length x.state.pending) refl (λ a. effect_bits t x c)
