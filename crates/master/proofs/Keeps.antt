-- Every call, refused or not, hands back a state that fits the table where the state that it was given does.
use Prim.Native.Nat.{ℕ}
use mathlib.Core.Bool.{true}
use mathlib.Core.List.{List}
use Rattle.cluster.specs.Check.{RightTable}
use Rattle.master.specs.declared.state.State.{State}
use Rattle.master.specs.Byte.{with_byte, byte_effect}
use Rattle.master.proofs.Admitted.{Fits}
use Rattle.master.proofs.Cases.{taken_by, accepted_state}
use Rattle.master.proofs.FitsKept.{failed_fits, all_sent_fits, received_fits_lem, passed_fits}

-- the state after a byte fits
pub taken_fits : (t : List ℕ) → RightTable t → (s : State) → Fits t s → (bs : List ℕ) (b : ℕ) → Fits t (byte_effect t s bs b).given.state
taken_fits t ok s fits bs b =
    taken_by t s bs b (λ w. Fits t w.given.state)
    (λ nine e. passed_fits t s fits nine e)
    (failed_fits t s fits true)
    (λ y. all_sent_fits t s fits)
    (λ n. rw (accepted_state t s s.transfer.opened (with_byte s.transfer b) bs) (received_fits_lem t s fits ok n))
