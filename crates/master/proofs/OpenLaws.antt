-- Laws of opening: the nine bytes that are copied, and the data that they are copied from.
use Prim.Native.Nat.{ℕ, ◌-◌, ◌≤◌, ◌<◌}
use mathlib.Core.Path.{◌≡◌, refl, ◌∙◌}
use mathlib.Core.Bool.{true, false}
use mathlib.Core.List.{List, [], ◌∷◌, ◌++◌}
use native.Mathlib.Omega.{arith}
use borrow.Author.Tests.{lt-ltb}
use lib.Dec.{ltb}
use lib.ListN.{length, replicate, length-append, length-take, length-drop, length-replicate}
use Rattle.cluster.specs.Check.{RightTable}
use Rattle.cluster.specs.Table.{frame_count, frame_length, published}
use Rattle.cluster.proofs.FrameLaws.{frame_length_high}
use Rattle.transport.specs.Cutting.{is_length, message_frames, message_frame, cut_of, cut_bytes}
use Rattle.transport.proofs.CuttingLaws.{frame_length_lem}
use Rattle.transport.proofs.Tests.{whether}
use Rattle.master.specs.declared.state.Opened.{Opened}
use Rattle.master.specs.declared.state.Opened.TheVariants.{Nothing, Frame, Request, Response}
use Rattle.master.specs.declared.state.Sending as state
use Rattle.master.specs.declared.state.Message.{Message}
use Rattle.master.specs.declared.state.Message.TheVariants.{None, Sending, Completed, Failed}
use Rattle.master.specs.Admit.{buffer_size}
use Rattle.master.specs.Fits.{frame_there, message_fits}
use Rattle.master.specs.Transfers.{format_of, sends, open_checksum, frame_data, request_data, sent_data, copied, opening}
use Rattle.master.proofs.Admitted.{frame_below}
use Rattle.master.proofs.Counted.{sending_length, sending_next}

-- ---- the data

-- a frame of the table has as many data bytes in the buffer as its length says
pub frame_data_length : (t : List ℕ) → RightTable t → (bs : List ℕ) (f : ℕ) → f < frame_count t → length bs ≡ buffer_size t
    → length (frame_data t bs f) ≡ frame_length t f
unfolding frame_data buffer_size
frame_data_length t ok bs f h size = simp (length-take, length-drop) (omega (arith, frame_length_high t ok f h))

-- a frame that is there is cut
cut_frame : (nad : ℕ) (m : List ℕ) (k : ℕ) → is_length (length m) ≡ true → k < message_frames (length m) → cut_bytes (cut_of nad m k) ≡ message_frame nad m k
unfolding cut_of
cut_frame nad m k y h = rw (y, lt-ltb k (message_frames (length m)) h)

-- the data of a request are the frame due of the message that is lent with its length
pub request_data_lem : (x : state.Sending) (m : List ℕ) → message_fits (Sending x) ≡ true → length m ≡ x.length
    → request_data (Sending x) m ≡ message_frame x.nad m x.next
request_data_lem x m h e = cut_frame x.nad m x.next (rw (← e) at (sending_length x h)) (rw (← e) at (sending_next x h))

-- a cut is of eight bytes, also where there is no frame
cut_length : (nad : ℕ) (m : List ℕ) (k : ℕ) → length (cut_bytes (cut_of nad m k)) ≡ 8
unfolding cut_of
cut_length nad m k =
    whether (is_length (length m))
    (λ y. whether (ltb k (message_frames (length m))) (λ z. rw (y, z) (frame_length_lem nad m k)) (λ z. rw (y, z)))
    (λ n. rw n)

-- the data of a request are eight bytes
pub request_data_length : (x : Message) (m : List ℕ) → length (request_data x m) ≡ 8
request_data_length None m = refl
request_data_length (Sending x) m = cut_length x.nad m x.next
request_data_length Completed m = refl
request_data_length Failed m = refl

-- ---- the copy

-- at most eight data bytes, a checksum and as many of 255 are nine bytes
pub copied_length : (t : List ℕ) (o : Opened) (ds : List ℕ) → length ds ≤ 8 → length (copied t o ds) ≡ 9
unfolding copied
copied_length t o ds h =
    let r = length-replicate {A = ℕ} (8 - length ds) 255 in
    length-append ds (open_checksum t o ds ∷ replicate (8 - length ds) 255) ∙ omega arith

-- opening a published frame copies its data and their checksum, and 255 behind them
pub opening_copy : (t bs : List ℕ) (x : Message) (m : List ℕ) (f : ℕ) → published t f ≡ true
    → (opening t bs x m (Frame f)).bytes
    ≡ frame_data t bs f ++ (open_checksum t (Frame f) (frame_data t bs f) ∷ replicate (8 - length (frame_data t bs f)) 255)
unfolding opening sent_data copied format_of
opening_copy t bs x m f p = rw p

-- opening a request copies the frame cut from the message and its checksum
pub request_copy : (t bs : List ℕ) (x : Message) (m : List ℕ)
    → (opening t bs x m Request).bytes ≡ request_data x m ++ (open_checksum t Request (request_data x m) ∷ [])
unfolding opening sent_data copied format_of
request_copy t bs x m = rw (request_data_length x m)

-- opening a frame that the master does not publish, or a response, copies nothing
pub received_copy : (t bs : List ℕ) (x : Message) (m : List ℕ) (o : Opened) → sends t o ≡ false → (opening t bs x m o).bytes ≡ replicate 9 255
unfolding opening
received_copy t bs x m o n = rw n

sent_data_high : (t : List ℕ) → RightTable t → (bs : List ℕ) → length bs ≡ buffer_size t → (x : Message) (m : List ℕ) (o : Opened)
    → frame_there t o ≡ true → length (sent_data t bs x m o) ≤ 8
unfolding sent_data
sent_data_high t ok bs size x m Nothing h = omega arith
sent_data_high t ok bs size x m (Frame f) h =
    let b = frame_below t ok f h in omega (arith, frame_data_length t ok bs f b size, frame_length_high t ok f b)
sent_data_high t ok bs size x m Request h = omega (arith, request_data_length x m)
sent_data_high t ok bs size x m Response h = omega arith

-- whatever is opened, the copy is nine bytes
pub opening_length : (t : List ℕ) → RightTable t → (bs : List ℕ) → length bs ≡ buffer_size t → (x : Message) (m : List ℕ) (o : Opened)
    → frame_there t o ≡ true → length (opening t bs x m o).bytes ≡ 9
unfolding opening
opening_length t ok bs size x m o h =
    whether (sends t o)
    (λ y. rw y (copied_length t o (sent_data t bs x m o) (sent_data_high t ok bs size x m o h)))
    (λ n. rw n)
