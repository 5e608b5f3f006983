-- The pending bits and the frame bytes are what the history says of them.
use Prim.Native.Nat.{ℕ, ◌+◌, ◌*◌, ◌<◌}
use mathlib.Core.Path.{◌≡◌, refl, sym, ◌∙◌}
use mathlib.Core.Bool.{Bool, true, false, ◌&&◌}
use mathlib.Core.List.{List}
use native.Mathlib.Omega.{arith}
use lib.Dec.{eqb}
use lib.ListN.{length, get_or, replicate, get_or-replicate, get_or-eq_default}
use borrow.Author.Tests.{eqb-true, eq-eqb}
use Rattle.cluster.specs.Check.{RightTable}
use Rattle.cluster.specs.Table.{signal_count, published}
use Rattle.cluster.specs.Values.{touches}
use Rattle.cluster.specs.Fresh.{fresh_bytes}
use Rattle.cluster.proofs.HeaderLaws.{frame_count_lem}
use Rattle.cluster.proofs.ValueLaws.{touched_below}
use Rattle.cluster.proofs.Starts.{fresh_length}
use Rattle.transport.proofs.Tests.{whether, order}
use Rattle.master.specs.declared.state.Opened.{Opened}
use Rattle.master.specs.declared.state.Opened.TheVariants.{Nothing, Frame, Request, Response}
use Rattle.master.specs.Admit.{buffer_size}
use Rattle.master.specs.Closing.{pending_sent}
use Rattle.master.specs.Write.{marked_from}
use Rattle.master.specs.Seq.{Seq, ∅, ◌▹◌}
use Rattle.master.specs.Acts.{wrote, took}
use Rattle.master.specs.Schedule.{Scheduled, act}
use Rattle.master.specs.History.{writes, is_success, succeeds, open_after, carries, written_bytes, got_after}
use Rattle.master.specs.Answering.{stored_by, bytes_after}
use Rattle.master.proofs.Tests.{never, or_true}
use Rattle.master.proofs.PendingLaws.{marked_bit, marked_only, sent_bit_same, sent_bit_other}
use Rattle.master.proofs.PendingLength.{marked_length, sent_length}
use Rattle.master.proofs.History.Computed.{rewritten_after, pending_after, pending_wrote, pending_wiped, pending_kept, unwiped_unsent, unwiped_elsewhere, unwiped_rewritten, wipes_when}
use Rattle.master.proofs.History.Quiet.{is_quiet, quiet_byte, quiet_write, quiet_writes, written_quiet}
use Rattle.master.proofs.History.SameBytes.{SameBytes, same_refl, same_written}
use Rattle.master.proofs.ReadBack.{value_length}
use Rattle.master.specs.Put.{Value, with_value}
use Rattle.master.specs.Calls.{ByteResult}

-- the bits and the bytes, whatever holds them
pub record FramesAre (t : List ℕ) (h : Seq Scheduled) (bits : List Bool) (bs : List ℕ) : Type 0 where
  pub size : length bs ≡ buffer_size t
  pub bit_count : length bits ≡ 60
  pub bits_are : (f : ℕ) → get_or bits f false ≡ pending_after t h f
  pub bytes_are : bs ≡ bytes_after t h
  pub written_are : SameBytes t bs (written_bytes t h)

-- after fresh
pub frames_fresh : (t : List ℕ) → RightTable t → FramesAre t ∅ (replicate 60 false) (fresh_bytes t)
unfolding pending_after bytes_after written_bytes buffer_size
frames_fresh t ok = record {
  size = fresh_length t;
  bit_count = refl;
  bits_are = λ f. order 60 f
      (λ l. get_or-eq_default (replicate 60 false) false l)
      (λ l. get_or-replicate 60 f false false l);
  bytes_are = refl;
  written_are = same_refl t (fresh_bytes t);
}

module _ (t : List ℕ) (h : Seq Scheduled) (bits : List Bool) (bs : List ℕ) (is : FramesAre t h bits bs) (y : Scheduled) where
  -- an event that neither writes nor succeeds
  kept : ((f : ℕ) → writes t y f ≡ false) → succeeds y ≡ false → bytes_after t (h ▹ y) ≡ bytes_after t h → written_bytes t (h ▹ y) ≡ written_bytes t h
      → FramesAre t (h ▹ y) bits bs
  kept w u b v = record {
    size = is.size;
    bit_count = is.bit_count;
    bits_are = λ f. is.bits_are f ∙ sym (pending_kept t h y f (w f) (unwiped_unsent t h y f u));
    bytes_are = is.bytes_are ∙ sym b;
    written_are = rw v is.written_are;
  }

  -- one that neither writes nor brings a byte
  pub frames_quiet : is_quiet (act y) ≡ true → FramesAre t (h ▹ y) bits bs
  unfolding succeeds bytes_after
  frames_quiet q =
      let u = quiet_byte (λ b a. is_success a) false (act y) q in
      kept (quiet_writes t h y q) u
      (rw (u, quiet_write (λ s v. with_value t (bytes_after t h) s v) (bytes_after t h) (act y) q))
      (written_quiet t h y q)

  -- a byte that is not answered with success
  pub frames_byte : (b : ℕ) (c : ByteResult) → act y ≡ took b c → is_success c ≡ false → FramesAre t (h ▹ y) bits bs
  unfolding succeeds writes bytes_after written_bytes
  frames_byte b c a n = kept (λ f. rw a) (rw a n) (rw (a, n)) (rw a)

  -- an accepted write
  pub frames_wrote : RightTable t → (s : ℕ) (v : Value) → s < signal_count t → act y ≡ wrote s v → FramesAre t (h ▹ y) (marked_from t s 0 bits) (with_value t bs s v)
  unfolding writes succeeds bytes_after written_bytes
  frames_wrote ok s v hs a = record {
    size = value_length t bs s v ∙ is.size;
    bit_count = marked_length t s 0 bits ∙ is.bit_count;
    bits_are = λ f. whether (touches t s f)
        (λ w. marked_bit t s f bits (touched_bit f w) ∙ rw w (or_true (get_or bits f false) ∙ sym (pending_wrote t h y f (rw (a, w)))))
        (λ w. marked_only t s f bits w ∙ is.bits_are f ∙ sym (pending_kept t h y f (rw (a, w)) (unwiped_unsent t h y f (rw a))));
    bytes_are = rw (a, ← is.bytes_are);
    written_are = rw a (same_written t bs (written_bytes t h) s v is.written_are);
  }
    where
      touched_bit : (f : ℕ) → touches t s f ≡ true → f < length bits
      touched_bit f w = omega (arith, touched_below t ok s f w, frame_count_lem t ok, is.bit_count)

  -- a byte that is answered with success: the bit of the frame that was sent
  module _ (b : ℕ) (c : ByteResult) (a : act y ≡ took b c) (good : is_success c ≡ true) where
    sent_succeeds : succeeds y ≡ true
    unfolding succeeds
    sent_succeeds = rw a good

    sent_unwritten : (f : ℕ) → writes t y f ≡ false
    unfolding writes
    sent_unwritten f = rw a

    -- the bit of another frame stays
    bit_elsewhere : (o : Opened) → o ≡ open_after t h → (w : Bool) (f : ℕ) → carries o f ≡ false
        → get_or (pending_sent o w bits) f false ≡ pending_after t (h ▹ y) f
    bit_elsewhere o e w f n =
        sent_bit_other o w bits f (λ p. let z : true ≡ false = sym (eq-eqb f f refl) ∙ rw p at n in never (sym z))
        ∙ is.bits_are f
        ∙ sym (pending_kept t h y f (sent_unwritten f) (unwiped_elsewhere t h y f (rw (← e) n)))

    -- that of the frame goes, unless it was written since
    bit_here : (f : ℕ) → carries (open_after t h) f ≡ true → (w : Bool) → w ≡ rewritten_after t h
        → (w && get_or bits f false) ≡ pending_after t (h ▹ y) f
    bit_here f p true r = is.bits_are f ∙ sym (pending_kept t h y f (sent_unwritten f) (unwiped_rewritten t h y f (sym r)))
    bit_here f p false r = sym (pending_wiped t h y f (sent_unwritten f) (wipes_when t h y f sent_succeeds p (sym r)))

    bit_sent : (o : Opened) → o ≡ open_after t h → (w : Bool) → w ≡ rewritten_after t h → (f : ℕ)
        → get_or (pending_sent o w bits) f false ≡ pending_after t (h ▹ y) f
    bit_sent Nothing e w r f = bit_elsewhere Nothing e w f refl
    bit_sent (Frame g) e w r f =
        whether (eqb g f)
        (λ p. rw (eqb-true g f p) (sent_bit_same f w bits ∙ bit_here f (rw (← e) p) w r))
        (λ n. bit_elsewhere (Frame g) e w f n)
    bit_sent Request e w r f = bit_elsewhere Request e w f refl
    bit_sent Response e w r f = bit_elsewhere Response e w f refl

    pub frames_sent : (o : Opened) → o ≡ open_after t h → (w : Bool) → w ≡ rewritten_after t h → (after : List ℕ) → length after ≡ length bs
        → after ≡ stored_by t o (got_after h) bs
        → ((f : ℕ) → published t f ≡ true → (k : ℕ) → k < 8 → get_or after (8 * f + k) 0 ≡ get_or bs (8 * f + k) 0)
        → FramesAre t (h ▹ y) (pending_sent o w bits) after
    unfolding bytes_after written_bytes
    frames_sent o e w r after l st same = record {
      size = l ∙ is.size;
      bit_count = sent_length o w bits ∙ is.bit_count;
      bits_are = bit_sent o e w r;
      bytes_are = st ∙ rw (sent_succeeds, e, is.bytes_are);
      written_are = rw a (record {
        same_length = l ∙ is.written_are.same_length;
        same_bytes_lem = λ f p k n. same f p k n ∙ is.written_are.same_bytes_lem f p k n;
      });
    }
