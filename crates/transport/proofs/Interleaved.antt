-- Frames for other nodes between the frames of a message change nothing.
use Prim.Native.Nat.{ℕ, zero, suc, ◌≤◌, ◌<◌}
use mathlib.Core.Path.{◌≡◌, refl, ◌∙◌, ap}
use mathlib.Core.Bool.{true}
use mathlib.Core.List.{List, [], ◌∷◌, ◌++◌}
use native.Mathlib.Omega.{arith}
use lib.ListN.{length, get_or, take, drop, length-take}
use lib.Seq.{get_or-take}
use Rattle.transport.specs.Cutting.{is_length, message_frames, message_frame}
use Rattle.transport.specs.Reassembly.{Step, fits, listens}
use Rattle.transport.specs.Exchange.{Between, Foreign, answer_to, answer_due, after, after_all, after_frames, after_mixed}
use Rattle.transport.specs.declared.reassembly.Assembly.{Assembly}
use Rattle.std.specs.Prelude.{None, Some, Ok}
use Rattle.transport.specs.declared.reassembly.Answer.TheVariants.{Ignored}
use Rattle.transport.proofs.Received.{midway}
use Rattle.transport.proofs.RoundTrip.{between_frames, between_fits, answers_due, reassembled}
use Rattle.transport.proofs.StepLaws.{foreign_ignored}
use Rattle.transport.proofs.WrittenLaws.{written_none}

-- each frame of the list is for another node than nad
abbrev pub AllForeign : ℕ → List (List ℕ) → Type 0
AllForeign nad fs = (i : ℕ) → i < length fs → Foreign nad (get_or fs i [])

-- an open message, and a buffer
abbrev pub opened : Assembly → List ℕ → Between
opened m b = record { state = Some m; buffer = b }

-- from an open message that fits
module _ (m : Assembly) (b : List ℕ) (fit : fits (Some m) ≡ true) where
  foreign_nothing : (f : List ℕ) → Foreign m.nad f → after (opened m b) f ≡ opened m b
  unfolding after
  foreign_nothing f h = rw (foreign_ignored m fit f b h, written_none b 0)

  -- frames for other nodes leave the state and the buffer as they are
  pub others_nothing : (fs : List (List ℕ)) → AllForeign m.nad fs → after_all (opened m b) fs ≡ opened m b
  unfolding after_all
  others_nothing [] h = refl
  others_nothing (f ∷ fs) h = rw (foreign_nothing f (h 0 (omega arith))) (others_nothing fs (λ i l. h (suc i) (omega arith)))

  first_foreign : (fs : List (List ℕ)) → AllForeign m.nad fs → (i : ℕ) → AllForeign m.nad (take i fs)
  first_foreign fs h i j k =
      let l = simp length-take at k in
      rw (get_or-take i fs j [] (omega arith)) (h j (omega arith))

  -- and each of them is ignored
  pub others_ignored : (fs : List (List ℕ)) → AllForeign m.nad fs → (i : ℕ) → i < length fs
      → answer_to (after_all (opened m b) (take i fs)) (get_or fs i []) ≡ Ok Ignored
  others_ignored fs h i l =
      rw (others_nothing (take i fs) (first_foreign fs h i))
      (ap (λ (st : Step). st.taken.answer) (foreign_ignored m fit (get_or fs i []) b (h i l)))

-- the hypotheses of the round trip, with frames for other nodes before each frame but the first
module _
    (nad : ℕ)
    (m : List ℕ)
    (x : Between)
    (sized : is_length (length m) ≡ true)
    (fit : fits x.state ≡ true)
    (heard : listens x.state nad ≡ true)
    (room : length m ≤ length x.buffer)
    (others : ℕ → List (List ℕ))
    (none : others 0 ≡ [])
    (foreign : (k : ℕ) → AllForeign nad (others k)) where
  -- the frames for other nodes before frame k change nothing
  quiet : (k : ℕ) → k < message_frames (length m) → after_all (after_frames nad m x k) (others k) ≡ after_frames nad m x k
  unfolding after_all
  quiet zero h = rw none
  quiet (suc i) h =
      rw (between_frames nad m x sized fit heard room i h)
      (others_nothing _ (midway nad m x.buffer i).buffer (between_fits nad m x sized fit heard room i h) (others (suc i)) (foreign (suc i)))

  -- with them or without, the state and the buffer are the same after each frame of the message
  pub mixed : (k : ℕ) → k ≤ message_frames (length m) → after_mixed nad m others x k ≡ after_frames nad m x k
  unfolding after_mixed after_frames
  mixed zero h = refl
  mixed (suc k) h = rw (mixed k (omega arith), quiet k (omega arith))

  -- each frame of the message still gets the answer due
  pub mixed_answers : (k : ℕ) → k < message_frames (length m)
      → answer_to (after_all (after_mixed nad m others x k) (others k)) (message_frame nad m k) ≡ answer_due (length m) k
  mixed_answers k h = rw (mixed k (omega arith), quiet k h) (answers_due nad m x sized fit heard room k h)

  -- and the message still stands in the buffer after the last one
  pub mixed_reassembled : after_mixed nad m others x (message_frames (length m))
      ≡ record { state = None; buffer = m ++ drop (length m) x.buffer }
  mixed_reassembled = mixed (message_frames (length m)) (omega arith) ∙ reassembled nad m x sized fit heard room
