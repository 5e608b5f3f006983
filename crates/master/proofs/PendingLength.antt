-- The pending bits after a tick, and how many they are after a write and a success.
use Prim.Native.Nat.{ℕ, suc}
use mathlib.Core.Path.{◌≡◌, refl, ap}
use mathlib.Core.Bool.{Bool, true, false}
use mathlib.Core.List.{List, [], ◌∷◌}
use lib.ListN.{length, length-set}
use Rattle.transport.proofs.Tests.{whether}
use Rattle.master.specs.declared.state.Opened.{Opened}
use Rattle.master.specs.declared.state.Opened.TheVariants.{Nothing, Frame, Request, Response}
use Rattle.master.specs.declared.state.State.{State}
use Rattle.master.specs.Transfers.{is_open}
use Rattle.master.specs.Write.{marked_from}
use Rattle.master.specs.Closing.{failed, cleared_bit, pending_sent}
use Rattle.master.specs.Tick.{abandoned, tick_effect}
use Rattle.master.proofs.Cases.{ticked_by}

-- closing what is open at a slot start leaves them
pub abandoned_pending : (t : List ℕ) (s : State) → (abandoned t s).pending ≡ s.pending
unfolding abandoned failed
abandoned_pending t s = whether (is_open s.transfer.opened) (λ y. rw y) (λ n. rw n)

module _ (t bs m : List ℕ) where
  pub ticked_pending : (s : State) → (tick_effect t bs m s).state.pending ≡ s.pending
  ticked_pending s =
      ticked_by t bs m (λ w. w.state.pending ≡ s.pending) s
      (λ y. refl) (λ n c. abandoned_pending t s) (λ e n c q. abandoned_pending t s) (λ e o n c p y. abandoned_pending t s)

-- the marks of a write keep the number of bits
pub marked_length : (t : List ℕ) (s f : ℕ) (bits : List Bool) → length (marked_from t s f bits) ≡ length bits
unfolding marked_from
marked_length t s f [] = refl
marked_length t s f (bit ∷ bits) = ap suc (marked_length t s (suc f) bits)

-- a successful transfer keeps the number of bits
pub sent_length : (o : Opened) (written : Bool) (bits : List Bool) → length (pending_sent o written bits) ≡ length bits
unfolding pending_sent cleared_bit
sent_length Nothing written bits = refl
sent_length (Frame f) true bits = refl
sent_length (Frame f) false bits = length-set bits f false
sent_length Request written bits = refl
sent_length Response written bits = refl
