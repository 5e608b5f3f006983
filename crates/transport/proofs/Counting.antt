-- What the number of frames of a length tells of a frame's number.
use Prim.Native.Nat.{ℕ, zero, suc, ◌+◌, ◌-◌, ◌*◌, ◌%◌, ◌<◌, ◌≤◌}
use native.Mathlib.Omega.{arith}
use mathlib.Core.Path.{◌≡◌, refl, sym, ◌∙◌}
use mathlib.Core.Bool.{Bool, true, false, cond, and-false}
use mathlib.Core.Logic.{◌⊎◌, inl, inr}
use mathlib.Core.List.{List, ◌∷◌}
use borrow.Author.Tests.{lt-ltb, le-ltb, lt-leb, le-leb, leb-true}
use lib.Dec.{leb}
use lib.ListN.{length}
use Rattle.refusal.specs.Numbers.{refused, message_length}
use Rattle.refusal.specs.declared.Refusal.{Refusal}
use Rattle.transport.specs.Answers.{Counted}
use Rattle.transport.specs.Cutting.{is_length, longest, message_frames, message_frame, next_frame, data_bytes, count_of, cut_of}
use Rattle.std.specs.Prelude.{Some, None, Ok, Err}
use Rattle.transport.proofs.CuttingLaws.{frame_next}
use Rattle.transport.proofs.Tests.{and_right}

-- a length with a number of frames is one that is not refused
picked_frames : (b : Bool) (n f : ℕ) (r : Refusal) → cond b (Ok n) (Err r) ≡ Ok f → (b ≡ true) × (f ≡ n)
picked_frames true n f r e = (refl, cc)
picked_frames false n f r e = let z : ◌≡◌ {A = ℕ} 0 1 = cc in absurd (omega arith)

picked_refused : (b : Bool) (n : ℕ) (r p : Refusal) → cond b (Ok n) (Err r) ≡ Err p → (b ≡ false) × (p ≡ r)
picked_refused true n r p e = let z : ◌≡◌ {A = ℕ} 0 1 = cc in absurd (omega arith)
picked_refused false n r p e = (refl, cc)

pub counted_high : (n f : ℕ) → count_of n ≡ Ok f → n ≤ longest
unfolding count_of
counted_high n f e =
    leb-true n longest (and_right (leb 1 n) (leb n longest) (picked_frames (is_length n) (message_frames n) f (refused message_length) e).0)

-- the count of a length, by the tests that the code makes
pub counted : (n r : ℕ) → 1 ≤ n → n ≤ longest → r ≡ message_frames n → ◌≡◌ {A = Counted} (Ok r) (count_of n)
unfolding count_of
counted n r low high e = rw (le-leb 1 n low, le-leb n longest high, e)

pub not_counted : (n : ℕ) (r : Refusal) → r ≡ refused message_length → (n < 1) ⊎ (longest < n) → ◌≡◌ {A = Counted} (Err r) (count_of n)
unfolding count_of
not_counted n r e (inl h) = rw (lt-leb 1 n h, e)
not_counted n r e (inr h) = simp (lt-leb n longest h, and-false, e)

-- frame k where the length is refused, where there is such a frame, and where there is none
pub cut_refused_lem : (nad k : ℕ) (m : List ℕ) (r : Refusal) → count_of (length m) ≡ Err r → cut_of nad m k ≡ Err r
unfolding count_of cut_of
cut_refused_lem nad k m r e = let p = picked_refused (is_length (length m)) (message_frames (length m)) (refused message_length) r e in rw (p.0, p.1)

pub cut_frame : (nad k : ℕ) (m : List ℕ) (f : ℕ) → count_of (length m) ≡ Ok f → k < f
    → cut_of nad m k ≡ Ok (Some (message_frame nad m k))
unfolding count_of cut_of
cut_frame nad k m f e h = let p = picked_frames (is_length (length m)) (message_frames (length m)) f (refused message_length) e in
    let t : k < message_frames (length m) = omega (arith, p.1) in rw (p.0, lt-ltb _ _ t)

pub cut_missing : (nad k : ℕ) (m : List ℕ) (f : ℕ) → count_of (length m) ≡ Ok f → f ≤ k → cut_of nad m k ≡ Ok None
unfolding count_of cut_of
cut_missing nad k m f e h = let p = picked_frames (is_length (length m)) (message_frames (length m)) f (refused message_length) e in
    let t : message_frames (length m) ≤ k = omega (arith, p.1) in rw (p.0, le-ltb _ _ t)

-- a frame behind the first
pub later_frame : (nad k : ℕ) (m bytes : List ℕ) → 0 < k
    → bytes ≡ nad ∷ (32 + k % 16) ∷ data_bytes m (5 + 6 * (k - 1)) 6 → bytes ≡ message_frame nad m k
unfolding next_frame
later_frame nad zero m bytes h e = absurd (omega arith)
later_frame nad (suc i) m bytes h e =
    let q : suc i - 1 ≡ i = omega arith in
    let c : suc i % 16 ≡ (1 + i) % 16 = omega arith in
    e ∙ rw (q, c) (sym (frame_next nad m i))
