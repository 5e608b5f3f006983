-- A call that counts for nothing changes nothing: it was refused, or only asks.
use Prim.Native.Nat.{ℕ}
use mathlib.Core.Path.{◌≡◌, refl, sym, ◌∙◌, ap}
use mathlib.Core.List.{List}
use native.Mathlib.Omega.{arith}
use Rattle.master.specs.declared.state.Opened.{Opened}
use Rattle.master.specs.declared.state.Opened.TheVariants.{Nothing, Frame, Request, Response}
use Rattle.master.specs.declared.state.State.{State}
use Rattle.master.specs.Answers.{Wrote}
use Rattle.master.specs.Answers.{StatusRead}
use Rattle.master.specs.Answers.{Chosen}
use Rattle.master.specs.Answers.{Ticked}
use Rattle.master.specs.Answers.{Took}
use Rattle.master.specs.Answers.{Sent}
use Rattle.master.specs.Admit.{Step, answered}
use Rattle.master.specs.Write.{write_of}
use Rattle.master.specs.Select.{select_of}
use Rattle.master.specs.Tick.{tick_of}
use Rattle.master.specs.Byte.{accepted, with_byte, byte_of}
use Rattle.master.specs.Status.{status_of}
use Rattle.master.specs.Message.{send_of}
use Rattle.master.specs.Calls as call
use Rattle.master.specs.Calls.{Call, ◌⇒◌}
use Rattle.master.specs.Run.{Held, answer_of, left_by}
use Rattle.master.specs.Step.{verdict_of, effect_of}
use Rattle.master.specs.Acts.{nothing, write_act, select_act, tick_act, byte_act, status_act, send_act, act_of}
use Rattle.master.proofs.Cases.{ticked_by, taken_by}
use Rattle.master.proofs.StepLaws.{goes, left_by_verdict}
use Rattle.std.specs.Prelude.{Ok, Err}
use Rattle.cluster.specs.Check.{Verdict}

accepted_counts : (t : List ℕ) (s : State) (o : Opened) (nine bs : List ℕ) (b : ℕ) → byte_act b (accepted t s o nine bs).given.answer ≡ nothing → ⊥
unfolding accepted
accepted_counts t s Nothing nine bs b e = let z : ◌≡◌ {A = ℕ} 0 1 = cc in omega arith
accepted_counts t s (Frame f) nine bs b e = let z : ◌≡◌ {A = ℕ} 0 1 = cc in omega arith
accepted_counts t s Request nine bs b e = let z : ◌≡◌ {A = ℕ} 0 1 = cc in omega arith
accepted_counts t s Response nine bs b e = let z : ◌≡◌ {A = ℕ} 0 1 = cc in omega arith

-- an accepted call that counts for nothing only asks
only_asks : (t : List ℕ) (x : Held) (c : Call) → verdict_of t x c ≡ Ok tt → act_of (c ⇒ answer_of t x c) ≡ nothing → effect_of t x c ≡ x
unfolding answer_of verdict_of effect_of write_of select_of tick_of byte_of status_of send_of
only_asks t x (call.write w) a e = absurd (let q = sym (ap (λ (z : Step Wrote). write_act w.signal w.value z.given.answer) (goes _ _ _ a)) ∙ e in let z : ◌≡◌ {A = ℕ} 0 1 = cc in omega arith)
only_asks t x (call.read s) a e = refl
only_asks t x (call.read_array s) a e = refl
only_asks t x (call.select n) a e = absurd (let q = sym (ap (λ (z : Chosen). select_act n z.answer) (goes _ _ _ a)) ∙ e in let z : ◌≡◌ {A = ℕ} 0 1 = cc in omega arith)
only_asks t x (call.tick m) a e =
    absurd (ticked_by t x.bytes m (λ w. tick_act m w.answer ≡ nothing → ⊥) x.state
    (λ y q. let z : ◌≡◌ {A = ℕ} 0 1 = cc in omega arith)
    (λ n c q. let z : ◌≡◌ {A = ℕ} 0 1 = cc in omega arith)
    (λ i n c p q. let z : ◌≡◌ {A = ℕ} 0 1 = cc in omega arith)
    (λ i o n c p y q. let z : ◌≡◌ {A = ℕ} 0 1 = cc in omega arith)
    (sym (ap (λ (z : Ticked). tick_act m z.answer) (goes _ _ _ a)) ∙ e))
only_asks t x (call.byte_in b) a e =
    absurd (taken_by t x.state x.bytes b (λ w. byte_act b w.given.answer ≡ nothing → ⊥)
    (λ nine i q. let z : ◌≡◌ {A = ℕ} 0 1 = cc in omega arith)
    (λ q. let z : ◌≡◌ {A = ℕ} 0 1 = cc in omega arith)
    (λ y q. let z : ◌≡◌ {A = ℕ} 0 1 = cc in omega arith)
    (λ n q. accepted_counts t x.state x.state.transfer.opened (with_byte x.state.transfer b) x.bytes b q)
    (sym (ap (λ (z : Step Took). byte_act b z.given.answer) (goes _ _ _ a)) ∙ e))
only_asks t x call.read_status a e = absurd (let q = sym (ap (λ (z : StatusRead). status_act z.answer) (goes _ _ _ a)) ∙ e in let z : ◌≡◌ {A = ℕ} 0 1 = cc in omega arith)
only_asks t x (call.send nad n) a e = absurd (let q = sym (ap (λ (z : Sent). send_act nad n z.answer) (goes _ _ _ a)) ∙ e in let z : ◌≡◌ {A = ℕ} 0 1 = cc in omega arith)
only_asks t x call.message_state a e = refl
only_asks t x (call.number_ahead f) a e = refl

pub unchanged : (t : List ℕ) (x : Held) (c : Call) → act_of (c ⇒ answer_of t x c) ≡ nothing → left_by t x c ≡ x
unchanged t x c e = left_by_verdict t x c ∙ by (verdict_of t x c) refl
  where
    by : (v : Verdict) → verdict_of t x c ≡ v → answered (verdict_of t x c) (λ r. x) (effect_of t x c) ≡ x
    by (Ok tt) a = rw a (only_asks t x c a e)
    by (Err r) a = rw a
