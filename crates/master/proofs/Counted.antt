-- The number of frames that `transport` counts for the message being sent.
use Prim.Native.Nat.{ℕ, ◌<◌}
use mathlib.Core.Path.{◌≡◌}
use mathlib.Core.Bool.{true, false, ◌&&◌}
use native.Mathlib.Omega.{arith}
use lib.Dec.{ltb, leb}
use borrow.Author.Tests.{ltb-true, leb-true}
use Rattle.refusal.specs.declared.Refusal.{Refusal}
use Rattle.std.specs.Prelude.{Ok, Err}
use Rattle.transport.specs.Cutting.{is_length, message_frames, count_of}
use Rattle.transport.proofs.Tests.{and_left, and_right, whether}
use Rattle.transport.proofs.CuttingLaws.{frames_high}
use Rattle.master.specs.declared.state.Sending as state
use Rattle.master.specs.declared.state.Message.TheVariants.{Sending}
use Rattle.master.specs.Fits.{message_fits}

module _ (n : ℕ) where
  -- frames are counted of a length, and they are the message's
  counted_length : (k : ℕ) → count_of n ≡ Ok k → (is_length n ≡ true) × (k ≡ message_frames n)
  unfolding count_of
  counted_length k e =
      whether (is_length n)
      (λ y. (y, let q : Ok (message_frames n) ≡ Ok k = rw y at e in cc))
      (λ y. let q = rw y at e in let z : ◌≡◌ {A = ℕ} 0 1 = cc in absurd (omega arith))

  refused_length : (r : Refusal) → count_of n ≡ Err r → is_length n ≡ false
  unfolding count_of
  refused_length r e = whether (is_length n) (λ y. let q = rw y at e in cc) (λ y. y)

  pub frames_counted : (k : ℕ) → count_of n ≡ Ok k → k ≡ message_frames n
  frames_counted k e = (counted_length k e).1

  pub counted_frames : (next k : ℕ) → count_of n ≡ Ok k → ltb next k ≡ (is_length n && ltb next (message_frames n))
  counted_frames next k e = rw ((counted_length k e).0, (counted_length k e).1)

  pub counted_refused : (next : ℕ) (r : Refusal) → count_of n ≡ Err r → false ≡ (is_length n && ltb next (message_frames n))
  counted_refused next r e = rw (refused_length r e)

module _ (x : state.Sending) (h : message_fits (Sending x) ≡ true) where
  pub sending_length : is_length x.length ≡ true
  unfolding message_fits
  sending_length = and_left (is_length x.length) _ h

  -- a message that fits has a frame left
  pub sending_next : x.next < message_frames x.length
  unfolding message_fits
  sending_next = ltb-true x.next (message_frames x.length) (and_right (is_length x.length) _ h)

  pub never_refused : (r : Refusal) → count_of x.length ≡ Err r → ⊥
  never_refused r e = let q = refused_length x.length r e in let p = sending_length in let z : ◌≡◌ {A = ℕ} 0 1 = cc in omega arith

  -- a next frame can be counted
  pub next_high : x.next < 683
  next_high =
      omega (arith, sending_next, frames_high x.length (leb-true x.length 4095 (and_right (leb 1 x.length) (leb x.length 4095) sending_length)))
