-- Texts put into a buffer, one behind the other.
use Prim.Native.Nat.{ℕ, min, ◌+◌, ◌-◌, ◌<◌, ◌≤◌}
use mathlib.Core.Path.{◌≡◌, sym, ap, ◌∙◌}
use mathlib.Core.List.{List, [], ◌++◌, append-nil, append_assoc}
use native.Mathlib.Omega.{arith}
use borrow.Rule.Slice.PartMut.{put_mid}
use lib.ListN.{length, take, drop, length-drop, length-append, drop_of_length-le, take-append-drop}
use lib.Seq.{take-nil, take-length, take_all, drop-drop, take-append-le, take-append-add, take_at, drop_at, length-take-le}
use Rattle.signal.proofs.Inside.{order}
use Rattle.buslog.specs.Report.{fronted}
use Rattle.script.specs.Print.{cut, Puts}

-- nothing put at a place leaves a buffer as it is
nothing : (at : ℕ) (buffer : List ℕ) → take at buffer ++ fronted [] (drop at buffer) ≡ buffer
unfolding fronted
nothing at buffer = take-append-drop at buffer

module _ (buffer : List ℕ) (at : ℕ) where
  no_room : (text : List ℕ) → length buffer ≤ at → cut text buffer at ≡ []
  unfolding cut
  no_room text h = let z : length buffer - at ≡ 0 = omega arith in rw z

  pub puts_nothing : Puts [] buffer at at buffer
  unfolding cut
  puts_nothing = record { place = rw take-nil (omega arith); left = rw take-nil (sym (nothing at buffer)) }

  -- no text has room behind the end
  pub puts_behind : (text : List ℕ) → length buffer ≤ at → Puts text buffer at at buffer
  puts_behind text h = record { place = rw (no_room text h) (omega arith); left = rw (no_room text h) (sym (nothing at buffer)) }

-- two texts, one behind the other

module _ (a c buffer : List ℕ) (at : ℕ) where
  -- where there is no room at all
  then_behind : length buffer ≤ at → {r s : ℕ} {m after : List ℕ} → Puts a buffer at r m → Puts c m r s after → Puts (a ++ c) buffer at s after
  then_behind h {r} {s} {m} {after} p q =
      let e : r ≡ at = omega (arith, simp (no_room buffer at a h) at p.place) in
      let l : m ≡ buffer = p.left ∙ rw (no_room buffer at a h) (nothing at buffer) in
      record {
        place = q.place ∙ rw (e, l, no_room buffer at c h, no_room buffer at (a ++ c) h);
        left = q.left ∙ rw (e, l, no_room buffer at c h, no_room buffer at (a ++ c) h);
      }

  module _ (within : at ≤ length buffer) where
    -- where the first has room
    module _ (fits : length a ≤ length buffer - at) where
      whole : cut a buffer at ≡ a
      unfolding cut
      whole = take_all (length buffer - at) a fits

      both : cut (a ++ c) buffer at ≡ a ++ take (length buffer - (at + length a)) c
      unfolding cut
      both = let k : length buffer - at ≡ length a + (length buffer - (at + length a)) = omega arith in rw k (take-append-add a c _)

      front_length : length (take at buffer ++ a) ≡ at + length a
      front_length = rw (length-append, length-take-le at buffer within)

      put : take at buffer ++ fronted a (drop at buffer) ≡ (take at buffer ++ a) ++ drop (at + length a) buffer
      unfolding fronted
      put = rw drop-drop (sym (append_assoc (take at buffer) a (drop (at + length a) buffer)))

      put_length : length ((take at buffer ++ a) ++ drop (at + length a) buffer) ≡ length buffer
      put_length = rw (length-append, front_length, length-drop) (omega arith)

      then_cut : cut c ((take at buffer ++ a) ++ drop (at + length a) buffer) (at + length a) ≡ take (length buffer - (at + length a)) c
      unfolding cut
      then_cut = rw put_length

      then_front : take (at + length a) ((take at buffer ++ a) ++ drop (at + length a) buffer) ≡ take at buffer ++ a
      then_front = take_at (take at buffer ++ a) (drop (at + length a) buffer) (at + length a) front_length

      then_rest : drop (at + length a) ((take at buffer ++ a) ++ drop (at + length a) buffer) ≡ drop (at + length a) buffer
      then_rest = drop_at (take at buffer ++ a) (drop (at + length a) buffer) (at + length a) front_length

      then_put : (cs : List ℕ) → (take at buffer ++ a) ++ fronted cs (drop (at + length a) buffer) ≡ take at buffer ++ fronted (a ++ cs) (drop at buffer)
      unfolding fronted
      then_put cs =
          let k : at + length a + length cs ≡ at + (length a + length cs) = omega arith in
          simp (drop-drop, length-append, k, append_assoc)

      then_fits : {r s : ℕ} {m after : List ℕ} → Puts a buffer at r m → Puts c m r s after → Puts (a ++ c) buffer at s after
      then_fits {r} {s} {m} {after} p q =
          let e : r ≡ at + length a = p.place ∙ rw whole in
          let l : m ≡ (take at buffer ++ a) ++ drop (at + length a) buffer = p.left ∙ rw whole put in
          record {
            place = q.place ∙ rw (e, l, then_cut, both, length-append) (omega arith);
            left = q.left ∙ rw (e, l, then_cut, then_front, then_rest, both) (then_put _);
          }

    -- where it has not
    module _ (long : length buffer - at < length a) where
      same_cut : cut (a ++ c) buffer at ≡ cut a buffer at
      unfolding cut
      same_cut = take-append-le (length buffer - at) a c (omega arith)

      full : length (cut a buffer at) ≡ length buffer - at
      unfolding cut
      full = length-take-le (length buffer - at) a (omega arith)

      full_length : length (take at buffer ++ fronted (cut a buffer at) (drop at buffer)) ≡ length buffer
      unfolding fronted
      full_length = rw (length-append, length-append, length-take-le at buffer within, length-drop, length-drop, full) (omega arith)

      then_cut_off : {r s : ℕ} {m after : List ℕ} → Puts a buffer at r m → Puts c m r s after → Puts (a ++ c) buffer at s after
      then_cut_off {r} {s} {m} {after} p q =
          let e : length m ≤ r = omega (arith, p.place, full, ap length p.left, full_length) in
          record {
            place = q.place ∙ rw (no_room m r c e, same_cut) (omega (arith, p.place));
            left = q.left ∙ rw (no_room m r c e, same_cut) (nothing r m ∙ p.left);
          }

  pub puts_then : {r s : ℕ} {m after : List ℕ} → Puts a buffer at r m → Puts c m r s after → Puts (a ++ c) buffer at s after
  puts_then p q =
      order at (length buffer)
      (λ h. order (length buffer - at) (length a) (λ long. then_cut_off (omega arith) long p q) (λ fits. then_fits (omega arith) fits p q))
      (λ h. then_behind h p q)

-- a text that was copied to a place, as far as there is room
module _ (text out : List ℕ) (at n : ℕ) (within : at < length out) (e : n ≡ min (length out - at) (length text)) where
  pub copied_length : length (take n text) ≡ n
  copied_length = length-take-le n text (omega arith)

  pub room_length : length (take (length out - at) (drop at out)) ≡ length out - at
  room_length = length-take-le (length out - at) (drop at out) (simp length-drop (omega arith))

  is_cut : take n text ≡ cut text out at
  unfolding cut
  is_cut =
      order (length out - at) (length text)
      (λ h. let k : n ≡ length out - at = omega arith in rw k)
      (λ h. let k : n ≡ length text = omega arith in rw (k, take_all (length text) text (omega arith), take_all (length out - at) text h))

  rest_all : take (length out - at) (drop at out) ≡ drop at out
  rest_all = take_all (length out - at) (drop at out) (simp length-drop (omega arith))

  rest_none : drop (length out - at) (drop at out) ≡ []
  rest_none = drop_of_length-le (drop at out) {i = length out - at} (simp length-drop (omega arith))

  pub puts_copied : {r : ℕ} {part after : List ℕ} → r ≡ length (take n text)
      → part ≡ take (length (take n text)) (take n text) ++ drop (length (take n text)) (take (length out - at) (drop at out))
      → after ≡ put_mid at (length out - at) out part → Puts text out at (at + r) after
  unfolding fronted
  puts_copied q p a = record {
    place = rw (q, is_cut);
    left = a ∙ rw (p, rest_none, rest_all, take-length, append-nil, is_cut);
  }
