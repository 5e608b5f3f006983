-- Document 02, Req 03, of every state, also one that no history has: what a call keeps as received. "A success of a received frame sets it for every signal
-- placed there; a failure changes nothing", and no call but a byte in that answers success touches it.
use Prim.Native.Nat.{ℕ, ◌<◌}
use mathlib.Core.Path.{◌≡◌, refl, sym, ◌∙◌, ap}
use mathlib.Core.Logic.{◌↔◌, ◌⊎◌, inl, inr, ⊎_elim}
use mathlib.Core.Bool.{false}
use mathlib.Core.List.{List}
use native.Mathlib.Omega.{arith}
use lib.ListN.{length}
use Rattle.cluster.specs.Check.{RightTable}
use Rattle.cluster.specs.Table.{published, placement_count, placement_signal, placement_frame}
use Rattle.cluster.specs.Values.{touches, placement_in}
use Rattle.cluster.proofs.HeaderLaws.{signal_count_lem}
use Rattle.cluster.proofs.PlacementLaws.{one_a_frame, in_touched}
use Rattle.transport.proofs.Tests.{whether}
use Rattle.master.specs.declared.state.Opened.{Opened}
use Rattle.master.specs.declared.state.Opened.TheVariants.{Nothing, Frame, Request, Response}
use Rattle.master.specs.declared.state.State.{State}
use Rattle.master.specs.declared.byte.ByteAnswer.TheVariants as byte
use Rattle.master.specs.Answers.{Took}
use Rattle.master.specs.Admit.{Step}
use Rattle.master.specs.Transfers.{format_of, sends}
use Rattle.master.specs.Received.{last_of, received_by}
use Rattle.master.specs.Closing.{failed, sent, received}
use Rattle.master.specs.Byte.{passed, with_byte, accepted, byte_effect, byte_verdict, byte_of}
use Rattle.master.specs.Calls as call
use Rattle.master.specs.Calls.{Call, Answer}
use Rattle.master.specs.Run.{Held, answer_of, left_by}
use Rattle.master.specs.Step.{effect_of}
use Rattle.master.proofs.Answered.{by_verdict}
use Rattle.master.proofs.Cases.{taken_by, ticked_by}
use Rattle.master.proofs.ReadExactly.{kept}
use Rattle.master.proofs.ReceivedLaws.{not_touched, frame_received}
use Rattle.master.proofs.SlotFits.{abandoned_received}
use Rattle.master.proofs.StepLaws.{kept as by-effect}
use Rattle.master.proofs.Tests.{never}
use Rattle.master.proofs.Verdicts.{byte_table}
use Rattle.master.proofs.WriteLaws.{write_beside}
use Rattle.std.specs.Prelude.{Ok}
use Rattle.master.specs.Calls.{ByteResult}
use Rattle.std.specs.Prelude.{Some, None, Option}

-- ---- the paper's sentences

-- "A success of a received frame": success was answered, and placement k, one of signal x, stands in the frame that was open and that the master does not
-- publish
pub record Receives (t : List ℕ) (s : State) (a : ByteResult) (x k : ℕ) : Type 0 where
  pub success : a ≡ Ok byte.Success
  pub opened : s.transfer.opened ≡ Frame (placement_frame t k)
  pub not_published_lem : published t (placement_frame t k) ≡ false
  pub there : k < placement_count t
  pub its : placement_signal t k ≡ x

-- what is kept of signal x after a byte: the placement that it received, and what was kept before where it received none
pub record ReceptionSays (t : List ℕ) (s : State) (a : ByteResult) (x : ℕ) (l : Option ℕ) : Type 0 where
  pub placement : (k : ℕ)
      → (l ≡ Some k) ↔ (Receives t s a x k ⊎ ((kept s.received x ≡ Some k) × ((j : ℕ) → ¬ Receives t s a x j)))
  pub never_yet : (l ≡ None) ↔ ((kept s.received x ≡ None) × ((j : ℕ) → ¬ Receives t s a x j))

-- ---- a byte

module _ (t : List ℕ) (s : State) (bs : List ℕ) (b x : ℕ) where
  -- one of the signal's placements was received, and it is kept; or none was, and what was kept is
  abbrev Either : Step Took → Type 0
  Either w =
      ((k : ℕ) × Receives t s w.given.answer x k × ((j : ℕ) → Receives t s w.given.answer x j → k ≡ j)
      × (last_of w.given.state.received x ≡ Some k))
      ⊎ (((k : ℕ) → ¬ Receives t s w.given.answer x k) × (last_of w.given.state.received x ≡ last_of s.received x))

  either_says : (w : Step Took) → Either w → ReceptionSays t s w.given.answer x (kept w.given.state.received x)
  unfolding last_of
  either_says w = ⊎_elim
      (λ v. record {
        placement = λ k. (
          (λ e. let q : v.0 ≡ k = cc in inl (rw q at v.1)),
          ⊎_elim (λ r. v.3 ∙ ap Some (v.2 k r)) (λ u. absurd (u.1 v.0 v.1)),
        );
        never_yet = (λ e. let z : ◌≡◌ {A = ℕ} 0 1 = cc in absurd (omega arith), λ u. absurd (u.1 v.0 v.1));
      })
      (λ v. record {
        placement = λ k. (λ e. inr (sym v.1 ∙ e, v.0), ⊎_elim (λ r. absurd (v.0 k r)) (λ u. v.1 ∙ u.0));
        never_yet = (λ e. (sym v.1 ∙ e, v.0), λ u. v.1 ∙ u.0);
      })

  module _ (all : length s.received ≡ 256) (ok : RightTable t) where
    one_received : (a : ByteResult) (j k : ℕ) → Receives t s a x j → Receives t s a x k → j ≡ k
    one_received a j k p q = one_a_frame t ok x j k (record { there = p.there; is = p.its }) (record { there = q.there; is = q.its }) (cc)

    -- the last byte of a transfer that the master receives
    received_either : (o : Opened) → s.transfer.opened ≡ o → sends t o ≡ false → (nine : List ℕ) → Either (accepted t s o nine bs)
    unfolding accepted received received_by format_of
    received_either Nothing e n nine = inr ((λ k r. let z : ◌≡◌ {A = ℕ} 0 1 = cc in omega arith), rw e)
    received_either (Frame f) e n nine =
        let sets = frame_received t ok f s.received x (omega (arith, signal_count_lem t ok)) in
        whether (touches t x f)
        (λ y. let w = in_touched t ok x f y in
        let r : Receives t s (Ok byte.Success) x (placement_in t x f) = record {
          success = refl;
          opened = rw w.1 e;
          not_published_lem = rw w.1 n;
          there = w.0.there;
          its = w.0.is;
        } in
        inl (placement_in t x f, r, (λ j q. one_received (Ok byte.Success) (placement_in t x f) j r q), rw (e, sets, y)))
        (λ z. inr ((λ k r. not_touched t x f z k r.there (cc) r.its), rw (e, sets, z)))
    received_either Request e n nine = inr ((λ k r. let z : ◌≡◌ {A = ℕ} 0 1 = cc in omega arith), rw e)
    received_either Response e n nine = inr ((λ k r. let z : ◌≡◌ {A = ℕ} 0 1 = cc in omega arith), rw e)

    effect_either : Either (byte_effect t s bs b)
    unfolding passed failed sent format_of
    effect_either = taken_by t s bs b Either
        (λ nine e. inr ((λ k r. let z : ◌≡◌ {A = ℕ} 0 1 = cc in omega arith), refl))
        (inr ((λ k r. let z : ◌≡◌ {A = ℕ} 0 1 = cc in omega arith), refl))
        (λ y. inr ((λ k r. never (sym r.not_published_lem ∙ (rw r.opened at y))), refl))
        (λ n. received_either s.transfer.opened refl n (with_byte s.transfer b))

  -- a byte, accepted or not, of every state; its receptions are those of 256 signals
  pub reception_exactly : length s.received ≡ 256
      → ReceptionSays t s (byte_of t s bs b).given.answer x (kept (byte_of t s bs b).given.state.received x)
  unfolding byte_of
  reception_exactly all = either_says (byte_of t s bs b) (by_verdict Either (byte_verdict t (length bs) s) _ _
      (λ v e. inr ((λ k r. let z : ◌≡◌ {A = ℕ} 0 1 = cc in omega arith), refl))
      (λ a. effect_either all (byte_table t (length bs) s a)))

-- ---- every other call

module _ (t : List ℕ) (s : State) (bs : List ℕ) (b : ℕ) where
  abbrev Leaves : Step Took → Type 0
  Leaves w = ¬ (w.given.answer ≡ Ok byte.Success) → w.given.state.received ≡ s.received

  last_leaves : (o : Opened) → s.transfer.opened ≡ o → Leaves (accepted t s o (with_byte s.transfer b) bs)
  unfolding accepted received received_by
  last_leaves Nothing e n = absurd (n refl)
  last_leaves (Frame f) e n = absurd (n refl)
  last_leaves Request e n = absurd (n refl)
  last_leaves Response e n = rw e

  -- a byte that does not answer success
  byte_leaves : ¬ ((byte_of t s bs b).given.answer ≡ Ok byte.Success) → (byte_of t s bs b).given.state.received ≡ s.received
  unfolding byte_of passed failed
  byte_leaves = by_verdict Leaves (byte_verdict t (length bs) s) _ _ (λ r e n. refl)
      (λ a. taken_by t s bs b Leaves (λ nine e n. refl) (λ n. refl) (λ y n. absurd (n refl)) (λ y. last_leaves s.transfer.opened refl))

-- the call is a byte in, and success is answered
abbrev pub Succeeds : (c : Call) → Answer c → Type 0
Succeeds (call.write w) a = ⊥
Succeeds (call.read s) a = ⊥
Succeeds (call.read_array s) a = ⊥
Succeeds (call.select n) a = ⊥
Succeeds (call.tick m) a = ⊥
Succeeds (call.byte_in b) a = a ≡ Ok byte.Success
Succeeds call.read_status a = ⊥
Succeeds (call.send nad n) a = ⊥
Succeeds call.message_state a = ⊥
Succeeds (call.number_ahead f) a = ⊥

-- every other call, and a byte in that answers anything else, leaves all receptions as they were
pub keeps_received : (t : List ℕ) (x : Held) (c : Call) → ¬ Succeeds c (answer_of t x c) → (left_by t x c).state.received ≡ x.state.received
unfolding answer_of left_by effect_of
keeps_received t x (call.write w) n = (write_beside t x.state x.bytes w).received_same
keeps_received t x (call.read s) n = refl
keeps_received t x (call.read_array s) n = refl
keeps_received t x (call.select k) n = by-effect t x (call.select k) (λ y. y.state.received ≡ x.state.received) refl (λ a. refl)
keeps_received t x (call.tick m) n = by-effect t x (call.tick m) (λ y. y.state.received ≡ x.state.received) refl
    (λ a. ticked_by t x.bytes m (λ w. w.state.received ≡ x.state.received) x.state
    (λ y. refl) (λ n c. abandoned_received t x.state) (λ e n c q. abandoned_received t x.state) (λ e o n c p y. abandoned_received t x.state))
keeps_received t x (call.byte_in b) n = byte_leaves t x.state x.bytes b n
keeps_received t x call.read_status n = by-effect t x call.read_status (λ y. y.state.received ≡ x.state.received) refl (λ a. refl)
keeps_received t x (call.send nad k) n = by-effect t x (call.send nad k) (λ y. y.state.received ≡ x.state.received) refl (λ a. refl)
keeps_received t x call.message_state n = refl
keeps_received t x (call.number_ahead f) n = refl
