-- No call sets a pending bit of a frame that is not published.
use Prim.Native.Nat.{ℕ, zero, suc, ◌+◌, ◌<◌}
use mathlib.Core.Path.{◌≡◌, refl, sym, ◌∙◌, ap}
use mathlib.Core.Bool.{Bool, true, false, not, ◌||◌}
use mathlib.Core.List.{List, [], ◌∷◌}
use borrow.Author.Tests.{lt-ltb}
use lib.Dec.{ltb}
use lib.ListN.{set, replicate}
use native.Mathlib.Omega.{arith}
use Rattle.cluster.specs.Check.{RightTable}
use Rattle.cluster.specs.Table.{frame_count, signal_count, published}
use Rattle.cluster.specs.Values.{touches, signal_published}
use Rattle.cluster.proofs.ValueLaws.{touched_published, touched_below}
use Rattle.transport.proofs.Tests.{and_left, and_right, whether}
use Rattle.master.specs.declared.state.Opened.{Opened}
use Rattle.master.specs.declared.state.Opened.TheVariants.{Nothing, Frame, Request, Response}
use Rattle.master.specs.Fits.{bit_fits, pending_fits}
use Rattle.master.specs.Write.{marked_from}
use Rattle.master.specs.Transfers.{format_of, sends}
use Rattle.master.specs.Closing.{cleared_bit, pending_sent}
use Rattle.master.proofs.Tests.{and_true, or_true, or_false, never}

module _ (t : List ℕ) where
  -- nothing pending fits
  pub none_pending : (f n : ℕ) → pending_fits t f (replicate n false) ≡ true
  unfolding pending_fits bit_fits
  none_pending f zero = refl
  none_pending f (suc n) = none_pending (suc f) n

  -- the bits fit with one of them cleared
  pub cleared_fits : (f i : ℕ) (bits : List Bool) → pending_fits t f bits ≡ true → pending_fits t f (set bits i false) ≡ true
  unfolding pending_fits bit_fits
  cleared_fits f i [] h = h
  cleared_fits f zero (bit ∷ bits) h = and_right (bit_fits t f bit) (pending_fits t (suc f) bits) h
  cleared_fits f (suc i) (bit ∷ bits) h =
      and_true (bit_fits t f bit) (pending_fits t (suc f) (set bits i false))
      (and_left (bit_fits t f bit) (pending_fits t (suc f) bits) h)
      (cleared_fits (suc f) i bits (and_right (bit_fits t f bit) (pending_fits t (suc f) bits) h))

  -- the bits fit after a successful transfer
  pub sent_fits : (o : Opened) (written : Bool) (bits : List Bool) → pending_fits t 0 bits ≡ true → pending_fits t 0 (pending_sent o written bits) ≡ true
  unfolding pending_sent cleared_bit
  sent_fits Nothing written bits h = h
  sent_fits (Frame f) true bits h = h
  sent_fits (Frame f) false bits h = cleared_fits 0 f bits h
  sent_fits Request written bits h = h
  sent_fits Response written bits h = h

  -- a frame that is not published has no bit to clear
  unpublished_from : (f i g : ℕ) (bits : List Bool) → pending_fits t f bits ≡ true → g ≡ f + i → published t g ≡ false → set bits i false ≡ bits
  unfolding pending_fits bit_fits
  unpublished_from f i g [] h e n = refl
  unpublished_from f zero g (false ∷ bits) h e n = refl
  unpublished_from f zero g (true ∷ bits) h e n =
      let is : g ≡ f = omega arith in
      never (sym n ∙ rw is (and_right (ltb f (frame_count t)) (published t f) (and_left (bit_fits t f true) (pending_fits t (suc f) bits) h)))
  unpublished_from f (suc i) g (bit ∷ bits) h e n =
      ap (λ bs. bit ∷ bs) (unpublished_from (suc f) i g bits (and_right (bit_fits t f bit) (pending_fits t (suc f) bits) h) (omega arith) n)

  -- a received transfer ends no pending
  pub received_keeps : (o : Opened) (written : Bool) (bits : List Bool) → pending_fits t 0 bits ≡ true → sends t o ≡ false → pending_sent o written bits ≡ bits
  unfolding pending_sent cleared_bit format_of
  received_keeps Nothing written bits h n = refl
  received_keeps (Frame f) true bits h n = refl
  received_keeps (Frame f) false bits h n = unpublished_from 0 f f bits h (omega arith) n
  received_keeps Request written bits h n = refl
  received_keeps Response written bits h n = refl

  module _ (ok : RightTable t) (s : ℕ) (hs : s < signal_count t) (p : signal_published t s ≡ true) where
    may_mark : (f : ℕ) (bit : Bool) → bit_fits t f bit ≡ true → bit_fits t f (bit || touches t s f) ≡ true
    unfolding bit_fits
    may_mark f bit h =
        whether (touches t s f)
        (λ y. rw (lt-ltb f (frame_count t) (touched_below t ok s f y), touched_published t ok s f p y) (or_true (not (bit || touches t s f))))
        (λ n. rw (n, or_false bit) h)

    -- the bits fit with those of a published signal's frames set
    pub marks_fit : (f : ℕ) (bits : List Bool) → pending_fits t f bits ≡ true → pending_fits t f (marked_from t s f bits) ≡ true
    unfolding pending_fits marked_from
    marks_fit f [] h = h
    marks_fit f (bit ∷ bits) h =
        and_true (bit_fits t f (bit || touches t s f)) (pending_fits t (suc f) (marked_from t s (suc f) bits))
        (may_mark f bit (and_left (bit_fits t f bit) (pending_fits t (suc f) bits) h))
        (marks_fit (suc f) bits (and_right (bit_fits t f bit) (pending_fits t (suc f) bits) h))
