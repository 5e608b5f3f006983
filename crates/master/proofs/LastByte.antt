-- The last byte of a received transfer with a right checksum, by what is open.
use Prim.Native.Nat.{ℕ, ◌*◌}
use mathlib.Core.Path.{◌≡◌, refl, sym, ap, ◌∙◌}
use mathlib.Core.Bool.{true}
use mathlib.Core.List.{List}
use lib.ListN.{take}
use Rattle.transport.specs.Reassembly.{written}
use Rattle.master.specs.declared.state.Opened.{Opened}
use Rattle.master.specs.declared.state.Opened.TheVariants.{Nothing, Frame, Request, Response}
use Rattle.master.specs.declared.state.State.{State}
use Rattle.master.specs.declared.byte.ByteAnswer.TheVariants.{Success}
use Rattle.master.specs.Answers.{Took}
use Rattle.master.specs.Admit.{Leaves}
use Rattle.master.specs.Transfers.{open_length}
use Rattle.master.specs.Closing.{received}
use Rattle.master.specs.Byte.{responding, checksum_right, accepted, last_byte}
use Rattle.std.specs.Prelude.{Ok}
use Rattle.master.specs.Answers.{handed}

module _ (t : List ℕ) (s : State) (nine bs : List ℕ) (right : checksum_right t s.transfer.opened nine ≡ true) where
  by_opened : (o : Opened) → s.transfer.opened ≡ o → last_byte t s nine bs ≡ accepted t s o nine bs
  unfolding last_byte
  by_opened o e = rw right (ap (λ x. accepted t s x nine bs) e)

  module _ (r : Took) (after : List ℕ) where
    leaves : (o : Opened) → s.transfer.opened ≡ o → r ≡ (accepted t s o nine bs).given → after ≡ (accepted t s o nine bs).left
        → Leaves (last_byte t s nine bs) r after
    leaves o e h k = record {
      handed = h ∙ sym (ap (λ x. x.given) (by_opened o e));
      kept = k ∙ sym (ap (λ x. x.left) (by_opened o e));
    }

    pub last_frame : (f n : ℕ) → s.transfer.opened ≡ Frame f → r ≡ handed (received t s) (Ok Success) → n ≡ open_length t (Frame f)
        → after ≡ written bs (8 * f) (take n nine) → Leaves (last_byte t s nine bs) r after
    unfolding accepted
    last_frame f n e h l k = leaves (Frame f) e h (k ∙ ap (λ m. written bs (8 * f) (take m nine)) l)

    pub last_response : s.transfer.opened ≡ Response → r ≡ responding (received t s) nine → after ≡ bs → Leaves (last_byte t s nine bs) r after
    unfolding accepted
    last_response e h k = leaves Response e h k

    other : (o : Opened) → s.transfer.opened ≡ o → ((f : ℕ) → o ≡ Frame f → ⊥) → (o ≡ Response → ⊥)
        → r ≡ handed (received t s) (Ok Success) → after ≡ bs → Leaves (last_byte t s nine bs) r after
    unfolding accepted
    other Nothing e n m h k = leaves Nothing e h k
    other (Frame f) e n m h k = absurd (n f refl)
    other Request e n m h k = leaves Request e h k
    other Response e n m h k = absurd (m refl)

    -- of nothing and of a request, which a state that fits does not receive
    pub last_other : ((f : ℕ) → s.transfer.opened ≡ Frame f → ⊥) → (s.transfer.opened ≡ Response → ⊥)
        → r ≡ handed (received t s) (Ok Success) → after ≡ bs → Leaves (last_byte t s nine bs) r after
    last_other n m h k = other s.transfer.opened refl n m h k
