-- Laws of the state handed back: it fits, and its message has room in the buffer.
use Prim.Native.Nat.{ℕ, ◌+◌, ◌≤◌}
use mathlib.Core.Path.{◌≡◌, refl, sym}
use mathlib.Core.Bool.{true, false}
use mathlib.Core.List.{List}
use native.Mathlib.Omega.{arith}
use borrow.Author.Tests.{ltb-true}
use lib.Dec.{ltb}
use lib.ListN.{length}
use Rattle.transport.specs.Reassembly.{step, fits, Kind, single, first, next, other, frame_nad, frame_pci}
use Rattle.transport.specs.Reassembly.{kind_of, kind_ignored, kind_step, single_step, first_step, next_step, counter_due, continued, reached, bytes_due}
use Rattle.transport.specs.Exchange.{Between, after}
use Rattle.transport.specs.declared.reassembly.Assembly.{Assembly}
use Rattle.transport.specs.Reassembly.{State}
use Rattle.std.specs.Prelude.{None, Some}
use Rattle.transport.proofs.FitLaws.{FitAssembly, fits_exactly, open_fits}
use Rattle.transport.proofs.FrameBytes.{Bytes}
use Rattle.transport.proofs.KindLaws.{Pci, pci_of_kind}
use Rattle.transport.proofs.StepCases.{Room, Accepted, step_cases, listens_known, first_room}
use Rattle.transport.proofs.StepLaws.{delivered_inside}
use Rattle.transport.proofs.Tests.{whether}
use Rattle.transport.proofs.WrittenLaws.{written_length}

-- once the bytes due are there, a message that is still open fits
reached_fits : (m : Assembly) → FitAssembly m → fits (reached m (m.count + bytes_due m)).state ≡ true
unfolding reached bytes_due fits
reached_fits m h =
    whether (ltb (m.count + bytes_due m) m.length)
    (λ t. let l = ltb-true (m.count + bytes_due m) m.length t in
    rw t
    ((fits_exactly _).1
    (record {
      k = h.k + 1;
      nad_not_0 = h.nad_not_0;
      length_low = h.length_low;
      length_high = h.length_high;
      count_is = omega arith;
      count_below = l;
      counter_is = omega arith;
    })))
    (λ t. rw t)

-- what an accepted frame of each kind hands back fits
kind_fits : (k : Kind) (s : State) (f b : List ℕ) → Accepted s f b → Bytes f → kind_ignored k s f b ≡ false → Pci k (frame_pci f)
    → fits (kind_step k s f).taken.state ≡ true
unfolding fits kind_step single_step first_step next_step continued
kind_fits single s f b a bytes h p = refl
kind_fits first s f b a bytes h p =
    let l = first_room s f b h in
    let two = bytes 2 in
    (fits_exactly _).1
    (record {
      k = 0;
      nad_not_0 = listens_known s (frame_nad f) a.heard;
      length_low = l.0;
      length_high = omega arith;
      count_is = refl;
      count_below = omega arith;
      counter_is = refl;
    })
kind_fits next None f b a bytes h p = refl
kind_fits next (Some m) f b a bytes h p =
    whether (counter_due m f) (λ t. rw t (reached_fits m (open_fits m a.fit))) (λ t. rw t)
kind_fits other s f b a bytes h p = a.fit

-- the state handed back for a frame of bytes fits
pub handed_fits : (s : State) (f b : List ℕ) → fits s ≡ true → Bytes f → fits (step s f b).taken.state ≡ true
handed_fits s f b fit bytes =
    step_cases s f b (λ st. fits st.taken.state ≡ true)
    (λ a. fit)
    (λ a. kind_fits (kind_of (frame_pci f)) s f b a bytes a.not_ignored (pci_of_kind (frame_pci f)))

reached_room : (m : Assembly) (n : ℕ) (b : List ℕ) → m.length ≤ length b → Room (reached m n).state b
unfolding reached
reached_room m n b h = whether (ltb n m.length) (λ t. rw t h) (λ t. rw t tt)

-- what a frame of each kind hands back has room
kind_room : (k : Kind) (s : State) (f b : List ℕ) → kind_ignored k s f b ≡ false → Room s b → Room (kind_step k s f).taken.state b
unfolding kind_step single_step first_step next_step continued
kind_room single s f b h r = tt
kind_room first s f b h r = (first_room s f b h).1
kind_room next None f b h r = tt
kind_room next (Some m) f b h r = whether (counter_due m f) (λ t. rw t (reached_room m (m.count + bytes_due m) b r)) (λ t. rw t tt)
kind_room other s f b h r = r

-- a buffer that holds the open message holds the one that is open after the frame
pub handed_room : (s : State) (f b : List ℕ) → Room s b → Room (step s f b).taken.state b
handed_room s f b room =
    step_cases s f b (λ st. Room st.taken.state b)
    (λ a. room)
    (λ a. kind_room (kind_of (frame_pci f)) s f b a.not_ignored room)

-- a frame leaves the buffer as long as it was
pub after_length : (x : Between) (f : List ℕ) → length (after x f).buffer ≡ length x.buffer
unfolding after
after_length x f = written_length x.buffer _ _ (delivered_inside x.state f x.buffer)

room_of_length : (s : State) (b c : List ℕ) → length b ≡ length c → Room s b → Room s c
room_of_length None b c e r = tt
room_of_length (Some m) b c e r = omega arith

-- so from frame to frame a kept buffer holds the open message
pub after_room : (x : Between) (f : List ℕ) → Room x.state x.buffer → Room (after x f).state (after x f).buffer
unfolding after
after_room x f r =
    room_of_length (after x f).state x.buffer (after x f).buffer (sym (after_length x f))
    (handed_room x.state f x.buffer r)
