-- What a byte in does to the pending bits and to the frame bytes: only a success changes either.
use Prim.Native.Nat.{ℕ, ◌+◌, ◌*◌, ◌≤◌, ◌<◌}
use mathlib.Core.Path.{◌≡◌, refl, sym, ap}
use mathlib.Core.Bool.{Bool, true, false, cond}
use mathlib.Core.List.{List}
use native.Mathlib.Omega.{arith}
use lib.ListN.{length, get_or, take, length-take}
use Rattle.cluster.specs.Check.{RightTable}
use Rattle.cluster.specs.Table.{published}
use Rattle.transport.specs.Reassembly.{written}
use Rattle.transport.proofs.WrittenLaws.{written_length, written_before, written_behind}
use Rattle.transport.proofs.Tests.{order}
use Rattle.cluster.proofs.Accepted.{then_first}
use Rattle.master.specs.declared.state.Opened.{Opened}
use Rattle.master.specs.declared.state.Opened.TheVariants.{Nothing, Frame, Request, Response}
use Rattle.master.specs.declared.state.State.{State}
use Rattle.master.specs.Answers.{Took}
use Rattle.master.specs.Admit.{admitted, answered, buffer_size, Step}
use Rattle.master.specs.Answers.{successful}
use Rattle.master.specs.Fits.{frame_there}
use Rattle.master.specs.Transfers.{format_of, open_length, sends, frame_data}
use Rattle.master.specs.Closing.{failed, pending_sent, sent, received}
use Rattle.master.specs.Byte.{passed, with_byte, sent_byte, accepted, byte_effect, byte_verdict, byte_of}
use Rattle.master.proofs.Admitted.{admitted_table, admitted_size, admitted_fits, fits_clauses, open_length_high}
use Rattle.master.proofs.Answered.{by_verdict}
use Rattle.master.proofs.Cases.{keeping, taken_by, accepted_state}
use Rattle.master.proofs.Lengths.{data_inside}
use Rattle.master.proofs.PendingFits.{received_keeps}
use Rattle.master.proofs.ReadBack.{untouched_data}
use Rattle.std.specs.Prelude.{Ok, Err}
use Rattle.cluster.specs.Check.{Verdict}
use Rattle.master.specs.Calls.{ByteResult}
use Rattle.master.specs.Answers.{handed}

-- ---- the pending bits

-- the last byte of a received transfer, with a right checksum, answers success
accepted_successful : (t : List ℕ) (s : State) (o : Opened) (nine bs : List ℕ) → successful (accepted t s o nine bs).given.answer ≡ true
unfolding accepted
accepted_successful t s Nothing nine bs = refl
accepted_successful t s (Frame f) nine bs = refl
accepted_successful t s Request nine bs = refl
accepted_successful t s Response nine bs = refl

-- the pending bits behind an answer
abbrev pub bits_after : State → ByteResult → List Bool
bits_after s a = cond (successful a) (pending_sent s.transfer.opened s.transfer.written s.pending) s.pending

-- a byte in that answers success ends the pending of its frame, unless it was written since; every other one leaves the pending bits
pub byte_pending : (t : List ℕ) (s : State) (bs : List ℕ) (b : ℕ)
    → (byte_of t s bs b).given.state.pending ≡ bits_after s (byte_of t s bs b).given.answer
unfolding byte_of byte_verdict passed failed sent received
byte_pending t s bs b =
    by_verdict (λ (w : Step Took). w.given.state.pending ≡ bits_after s w.given.answer) (byte_verdict t (length bs) s)
    (λ r. keeping (handed s (Err r)) bs) (byte_effect t s bs b)
    (λ r e. refl)
    (λ a. taken_by t s bs b (λ w. w.given.state.pending ≡ bits_after s w.given.answer) (λ nine e. refl) refl (λ y. refl)
    (λ n. let o = s.transfer.opened in let nine = with_byte s.transfer b in
    let fits = fits_clauses t s (admitted_fits t (length bs) s (then_first (admitted t (length bs) s) _ a)) in
    rw (accepted_state t s o nine bs, accepted_successful t s o nine bs)
    (sym (received_keeps t o s.transfer.written s.pending fits.pending_fits_lem n))))

-- ---- the frame bytes

module _ (t : List ℕ) (ok : RightTable t) (s : State) (bs : List ℕ) (size : length bs ≡ buffer_size t) where
  -- data stored in one frame leave each byte of another
  pub stored_other : (f g : ℕ) (nine : List ℕ) → frame_there t (Frame f) ≡ true → (f ≡ g → ⊥) → (k : ℕ) → k < 8
      → get_or (written bs (8 * f) (take (open_length t (Frame f)) nine)) (8 * g + k) 0 ≡ get_or bs (8 * g + k) 0
  stored_other f g nine h n k b =
      let ds = take (open_length t (Frame f)) nine in
      let inside = data_inside t ok s bs size f nine h in
      let short : length ds ≤ 8 = rw (length-take (open_length t (Frame f)) nine) (omega (arith, open_length_high t ok (Frame f) h)) in
      order f g
      (λ l. written_behind bs (8 * f) ds inside (8 * g + k) (omega arith))
      (λ l. written_before bs (8 * f) ds inside (8 * g + k) (omega arith))

  accepted_other : (o : Opened) (nine : List ℕ) (g : ℕ) → frame_there t o ≡ true → (o ≡ Frame g → ⊥)
      → frame_data t (accepted t s o nine bs).left g ≡ frame_data t bs g
  unfolding accepted
  accepted_other Nothing nine g h n = refl
  accepted_other (Frame f) nine g h n =
      untouched_data t bs (written bs (8 * f) (take (open_length t (Frame f)) nine)) g ok size
      (written_length bs (8 * f) (take (open_length t (Frame f)) nine) (data_inside t ok s bs size f nine h))
      (stored_other f g nine h (λ e. n (ap Frame e)))
  accepted_other Request nine g h n = refl
  accepted_other Response nine g h n = refl

module _ (t : List ℕ) (s : State) (bs : List ℕ) (b g : ℕ) where
  -- a byte in changes the data of no frame but a received one that is open
  pub byte_other_frames : (sends t s.transfer.opened ≡ false → s.transfer.opened ≡ Frame g → ⊥)
      → frame_data t (byte_of t s bs b).left g ≡ frame_data t bs g
  unfolding byte_of byte_verdict
  byte_other_frames n =
      by_verdict (λ (w : Step Took). frame_data t w.left g ≡ frame_data t bs g) (byte_verdict t (length bs) s) _ _
      (λ r e. refl)
      (λ a. let ad = then_first (admitted t (length bs) s) _ a in
      taken_by t s bs b (λ w. frame_data t w.left g ≡ frame_data t bs g) (λ nine e. refl) refl (λ y. refl)
      (λ m. accepted_other t (admitted_table t (length bs) s ad) s bs (admitted_size t (length bs) s ad) s.transfer.opened
      (with_byte s.transfer b) g (fits_clauses t s (admitted_fits t (length bs) s ad)).frame_there_lem (n m)))

  -- a byte in changes the data of no published frame: only writes do
  pub byte_published : published t g ≡ true → frame_data t (byte_of t s bs b).left g ≡ frame_data t bs g
  unfolding format_of
  byte_published p =
      byte_other_frames (λ n e. let q : published t g ≡ false = rw e at n in let z : ◌≡◌ {A = ℕ} 0 1 = cc in omega arith)

-- a byte of a sent transfer is answered by the copy: whatever the live bytes are
pub byte_by_copy : (t : List ℕ) (s : State) (bs cs : List ℕ) (b : ℕ) → length bs ≡ length cs → sends t s.transfer.opened ≡ true
    → (byte_of t s bs b).given ≡ (byte_of t s cs b).given
unfolding byte_of byte_effect
byte_by_copy t s bs cs b e h = rw (e, h) (by_copy (byte_verdict t (length cs) s))
  where
    by_copy : (v : Verdict) →
        (answered {A = Step Took} v (λ r. record { given = handed s (Err r); left = bs }) (record { given = sent_byte t s b; left = bs })).given
        ≡ (answered {A = Step Took} v (λ r. record { given = handed s (Err r); left = cs }) (record { given = sent_byte t s b; left = cs })).given
    by_copy (Ok tt) = refl
    by_copy (Err r) = refl
