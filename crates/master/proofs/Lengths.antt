-- Every call leaves as many frame bytes as it was lent.
use Prim.Native.Nat.{ℕ, ◌+◌, ◌*◌, ◌≤◌}
use mathlib.Core.Path.{◌≡◌, refl}
use mathlib.Core.Bool.{true}
use mathlib.Core.List.{List}
use native.Mathlib.Omega.{arith}
use lib.ListN.{length, take, length-take}
use Rattle.cluster.specs.Check.{RightTable}
use Rattle.transport.proofs.WrittenLaws.{written_length}
use Rattle.master.specs.declared.state.Opened.{Opened}
use Rattle.master.specs.declared.state.Opened.TheVariants.{Nothing, Frame, Request, Response}
use Rattle.master.specs.declared.state.State.{State}
use Rattle.master.specs.Transfers.{open_length}
use Rattle.master.specs.Fits.{frame_there}
use Rattle.master.specs.Admit.{buffer_size}
use Rattle.master.specs.Byte.{with_byte, accepted, byte_effect}
use Rattle.master.proofs.Admitted.{frame_below, open_length_high}
use Rattle.master.proofs.Cases.{taken_by}

module _ (t : List ℕ) (ok : RightTable t) (s : State) (bs : List ℕ) (size : length bs ≡ buffer_size t) where
  -- the data of a frame that is there end inside the buffer
  pub data_inside : (f : ℕ) (nine : List ℕ) → frame_there t (Frame f) ≡ true → 8 * f + length (take (open_length t (Frame f)) nine) ≤ length bs
  unfolding buffer_size
  data_inside f nine h =
      rw (length-take (open_length t (Frame f)) nine)
      (omega (arith, frame_below t ok f h, open_length_high t ok (Frame f) h))

  accepted_length : (o : Opened) (nine : List ℕ) → frame_there t o ≡ true → length (accepted t s o nine bs).left ≡ length bs
  unfolding accepted
  accepted_length Nothing nine h = refl
  accepted_length (Frame f) nine h = written_length bs (8 * f) (take (open_length t (Frame f)) nine) (data_inside f nine h)
  accepted_length Request nine h = refl
  accepted_length Response nine h = refl

  -- a byte of a frame that is there leaves as many bytes
  pub taken_length : (b : ℕ) → frame_there t s.transfer.opened ≡ true → length (byte_effect t s bs b).left ≡ length bs
  taken_length b h =
      taken_by t s bs b (λ w. length w.left ≡ length bs) (λ nine e. refl) refl (λ y. refl)
      (λ n. accepted_length s.transfer.opened (with_byte s.transfer b) h)
