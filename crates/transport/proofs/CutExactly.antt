-- Cutting in the paper's own words: each byte of each frame, the number of frames, and when 9 is answered.
use Prim.Native.Nat.{ℕ, zero, suc, ◌+◌, ◌-◌, ◌*◌, ◌/◌, ◌%◌, ◌≤◌, ◌<◌}
use mathlib.Core.Path.{◌≡◌, refl, sym, ◌∙◌}
use mathlib.Core.List.{List, [], ◌∷◌, ◌++◌}
use mathlib.Core.Logic.{◌↔◌, ◌⊎◌, inl, inr, ⊎_elim}
use native.Mathlib.Omega.{arith}
use borrow.Author.Tests.{le-leb, lt-leb, lt-ltb, le-ltb, ltb-true, ltb-false}
use lib.Dec.{ltb}
use lib.ListN.{length, get_or, replicate, length-append, get_or-eq_default, get_or-append}
use lib.Seq.{ext_get_or, get_or-append-add}
use Rattle.transport.specs.Cutting.{data_bytes, single_frame, first_frame, next_frame, message_frame, message_frames, is_length, count_of, cut_of, cut_bytes}
use Rattle.std.specs.Prelude.{Some, None, Ok, Err}
use Rattle.transport.proofs.Bytes.{any_default}
use Rattle.transport.proofs.CuttingLaws.{frame_single, frame_first, frame_next, frames_one, frames_more}
use Rattle.transport.proofs.Tests.{order, whether}

-- byte j of a frame holds byte i of the message, or is 255 behind the message's last byte
abbrev pub Holds : List ℕ → ℕ → List ℕ → ℕ → Type 0
Holds m i f j = ((i < length m) × (get_or f j 0 ≡ get_or m i 0)) ⊎ ((length m ≤ i) × (get_or f j 0 ≡ 255))

data_at : (m : List ℕ) (at n j : ℕ) → j < n → get_or (data_bytes m at n) j 0 ≡ get_or m (at + j) 255
unfolding data_bytes
data_at m at zero j h = absurd (omega arith)
data_at m at (suc n) zero h = let e : at + 0 ≡ at = omega arith in rw e
data_at m at (suc n) (suc j) h =
    let e : at + 1 + j ≡ at + suc j = omega arith in
    data_at m (at + 1) n j (omega arith) ∙ rw e

held : (m : List ℕ) (i x : ℕ) → (x ≡ get_or m i 255) ↔ (((i < length m) × (x ≡ get_or m i 0)) ⊎ ((length m ≤ i) × (x ≡ 255)))
held m i x = (
  (λ e. order (length m) i
      (λ h. inr (h, e ∙ get_or-eq_default m 255 h))
      (λ h. inl (h, e ∙ any_default m i 255 0 h))),
  ⊎_elim (λ h. h.1 ∙ any_default m i 0 255 h.0) (λ h. h.1 ∙ sym (get_or-eq_default m 255 h.0)),
)

data_length : (m : List ℕ) (at n : ℕ) → length (data_bytes m at n) ≡ n
unfolding data_bytes
data_length m at zero = refl
data_length m at (suc n) = let e = data_length m (at + 1) n in omega (arith, e)

-- a header of h bytes, and then the message's bytes from a place on
pub record Carries (header m : List ℕ) (at : ℕ) (f : List ℕ) : Type 0 where
  pub eight : length f ≡ 8
  pub head : (j : ℕ) → j < length header → get_or f j 0 ≡ get_or header j 0
  pub rest : (i : ℕ) → length header + i < 8 → Holds m (at + i) f (length header + i)

module _ (header m : List ℕ) (at n : ℕ) (h : length header + n ≡ 8) where
  abbrev whole : List ℕ
  whole = header ++ data_bytes m at n

  whole_length : length whole ≡ 8
  whole_length = omega (arith, length-append header (data_bytes m at n), data_length m at n)

  carried : (i : ℕ) → length header + i < 8 → get_or whole (length header + i) 0 ≡ get_or m (at + i) 255
  carried i b = get_or-append-add header (data_bytes m at n) i 0 ∙ data_at m at n i (omega arith)

  carries : (f : List ℕ) → (f ≡ whole) ↔ Carries header m at f
  carries f = (
    (λ e. rw e (record {
      eight = whole_length;
      head = (λ j b. get_or-append header (data_bytes m at n) 0 j b);
      rest = (λ i b. (held m (at + i) (get_or whole (length header + i) 0)).0 (carried i b));
    })),
    (λ c. ext_get_or 0 f whole (c.eight ∙ sym whole_length)
        (λ j b. order (length header) j
        (λ l. let e : length header + (j - length header) ≡ j = omega arith in
        let i = j - length header in
        let b' : length header + i < 8 = omega (arith, c.eight) in
        rw e at ((held m (at + i) (get_or f (length header + i) 0)).1 (c.rest i b') ∙ sym (carried i b')))
        (λ l. c.head j l ∙ sym (get_or-append header (data_bytes m at n) 0 j l)))),
  )

module _ (nad : ℕ) (m f : List ℕ) where
  -- "Length 1..6: one frame, PCI = length"; "NAD, PCI, then data; unused bytes are 255"
  pub single_exactly : length m ≤ 6 → (f ≡ message_frame nad m 0) ↔ Carries (nad ∷ length m ∷ []) m 0 f
  unfolding single_frame
  single_exactly h = rw (frame_single nad m h) (carries (nad ∷ length m ∷ []) m 0 6 refl f)

  -- "Length 7..4095: first frame with PCI 16 + length / 256, then length mod 256, then 5 bytes"
  pub first_exactly : 7 ≤ length m → (f ≡ message_frame nad m 0) ↔ Carries (nad ∷ (16 + length m / 256) ∷ (length m % 256) ∷ []) m 0 f
  unfolding first_frame
  first_exactly h = rw (frame_first nad m h) (carries (nad ∷ (16 + length m / 256) ∷ (length m % 256) ∷ []) m 0 5 refl f)

  -- "next frames with PCI 32 + counter and 6 bytes, counter 1, 2, .. 15, 0, 1": frame k, behind frame 0
  pub next_exactly : (k : ℕ) → 1 ≤ k → (f ≡ message_frame nad m k) ↔ Carries (nad ∷ (32 + k % 16) ∷ []) m (5 + 6 * (k - 1)) f
  unfolding next_frame
  next_exactly zero h = absurd (omega arith)
  next_exactly (suc i) h =
      let e : 1 + i ≡ suc i = omega arith in
      let d : suc i - 1 ≡ i = omega arith in
      rw (frame_next nad m i, d, ← e) (carries (nad ∷ (32 + (1 + i) % 16) ∷ []) m (5 + 6 * i) 6 refl f)

-- ---- what is answered

-- a length is refused with 9 exactly where it is 0 or above 4,095
pub count_refused_exactly : (n : ℕ) → (count_of n ≡ Err (record { number = 9; place = 0 })) ↔ ((n ≡ 0) ⊎ (4096 ≤ n))
unfolding count_of
count_refused_exactly n = (
  (λ e. order 1 n
      (λ l. order n 4095
      (λ h. let q = rw (le-leb 1 n l, le-leb n 4095 h) at e in let z : ◌≡◌ {A = ℕ} 0 1 = cc in absurd (omega arith))
      (λ h. inr h))
      (λ l. inl (omega arith))),
  ⊎_elim (λ h. rw h) (λ h. rw (le-leb 1 n (omega arith), lt-leb n 4095 h)),
)

-- "Frames: 1, or 1 + (length - 5) / 6 rounded up": r frames, where the r - 1 next frames of six bytes are the fewest that hold what is left
pub count_exactly : (n r : ℕ) → (count_of n ≡ Ok r)
    ↔ (((1 ≤ n) × (n ≤ 6) × (r ≡ 1)) ⊎ ((7 ≤ n) × (n ≤ 4095) × (2 ≤ r) × (n ≤ 5 + 6 * (r - 1)) × (5 + 6 * (r - 2) < n)))
unfolding count_of
count_exactly n r = (
  (λ e. order 1 n
      (λ l. order n 4095
      (λ h.
      let q = rw (le-leb 1 n l, le-leb n 4095 h) at e in
      let a : message_frames n ≡ r = cc in
      order n 6
      (λ s. inl (l, s, sym a ∙ frames_one n s))
      (λ s. let b = frames_more n s in inr (s, h, omega arith, omega arith, omega arith)))
      (λ h. let q = rw (le-leb 1 n l, lt-leb n 4095 h) at e in let z : ◌≡◌ {A = ℕ} 0 1 = cc in absurd (omega arith)))
      (λ l. let q = rw (lt-leb 1 n l) at e in let z : ◌≡◌ {A = ℕ} 0 1 = cc in absurd (omega arith))),
  ⊎_elim
      (λ h. rw (le-leb 1 n h.0, le-leb n 4095 (omega arith), frames_one n h.1, h.2))
      (λ h. let a : message_frames n ≡ r = omega (arith, frames_more n h.0) in rw (le-leb 1 n (omega arith), le-leb n 4095 h.1, a)),
)

-- frame k of a message of 1 to 4,095 bytes is cut exactly where k is below their number, and otherwise there is none
module _ (nad : ℕ) (m : List ℕ) (k : ℕ) where
  pub cut_exactly : (f : List ℕ) → (cut_of nad m k ≡ Ok (Some f))
      ↔ ((r : ℕ) × (count_of (length m) ≡ Ok r) × (k < r) × (f ≡ message_frame nad m k))
  unfolding cut_of count_of
  cut_exactly f = (
    (λ e. whether (is_length (length m))
        (λ t. whether (ltb k (message_frames (length m)))
        (λ u. let q = rw (t, u) at e in let a : f ≡ message_frame nad m k = cc in (message_frames (length m), rw t, ltb-true _ _ u, a))
        (λ u. let q = rw (t, u) at e in let z : ◌≡◌ {A = ℕ} 0 1 = cc in absurd (omega arith)))
        (λ t. let q = rw t at e in let z : ◌≡◌ {A = ℕ} 0 1 = cc in absurd (omega arith))),
    (λ h. whether (is_length (length m))
        (λ t.
        let q = rw t at h.1 in
        let a : message_frames (length m) ≡ h.0 = cc in
        rw (t, lt-ltb k (message_frames (length m)) (omega arith), h.3))
        (λ t. let q = rw t at h.1 in let z : ◌≡◌ {A = ℕ} 0 1 = cc in absurd (omega arith))),
  )

  pub cut_missing_exactly : (cut_of nad m k ≡ Ok None)
      ↔ ((r : ℕ) × (count_of (length m) ≡ Ok r) × (r ≤ k))
  unfolding cut_of count_of
  cut_missing_exactly = (
    (λ e. whether (is_length (length m))
        (λ t. whether (ltb k (message_frames (length m)))
        (λ u. let q = rw (t, u) at e in let z : ◌≡◌ {A = ℕ} 0 1 = cc in absurd (omega arith))
        (λ u. (message_frames (length m), rw t, ltb-false _ _ u)))
        (λ t. let q = rw t at e in let z : ◌≡◌ {A = ℕ} 0 1 = cc in absurd (omega arith))),
    (λ h. whether (is_length (length m))
        (λ t.
        let q = rw t at h.1 in
        let a : message_frames (length m) ≡ h.0 = cc in
        rw (t, le-ltb k (message_frames (length m)) (omega arith)))
        (λ t. let q = rw t at h.1 in let z : ◌≡◌ {A = ℕ} 0 1 = cc in absurd (omega arith))),
  )

  pub cut_refused_exactly : (cut_of nad m k ≡ Err (record { number = 9; place = 0 }))
      ↔ ((length m ≡ 0) ⊎ (4096 ≤ length m))
  unfolding cut_of
  cut_refused_exactly = (
    (λ e. order 1 (length m)
        (λ l. order (length m) 4095
        (λ h. whether (ltb k (message_frames (length m)))
        (λ u. let q = rw (le-leb 1 (length m) l, le-leb (length m) 4095 h, u) at e in let z : ◌≡◌ {A = ℕ} 0 1 = cc in absurd (omega arith))
        (λ u. let q = rw (le-leb 1 (length m) l, le-leb (length m) 4095 h, u) at e in let z : ◌≡◌ {A = ℕ} 0 1 = cc in absurd (omega arith)))
        (λ h. inr h))
        (λ l. inl (omega arith))),
    ⊎_elim (λ h. rw h) (λ h. rw (le-leb 1 (length m) (omega arith), lt-leb (length m) 4095 h)),
  )

  -- eight bytes of 255 stand for a frame that is not there, and for one that is refused
  pub missing_bytes : ((r : ℕ) × (count_of (length m) ≡ Ok r) × (r ≤ k)) → cut_bytes (cut_of nad m k) ≡ replicate 8 255
  missing_bytes h = rw (cut_missing_exactly.1 h)

  pub refused_bytes : (length m ≡ 0) ⊎ (4096 ≤ length m) → cut_bytes (cut_of nad m k) ≡ replicate 8 255
  refused_bytes h = rw (cut_refused_exactly.1 h)
