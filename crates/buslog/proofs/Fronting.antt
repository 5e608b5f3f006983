-- Characters put at the front of a buffer, one text behind the other.
use Rattle.std.proofs.Common.{◌≡◌, ℕ, ◌+◌, ◌-◌, ◌≤◌, List, [], ◌++◌, length, take, drop, sym, ap, ◌∙◌, append_assoc, append-nil, arith, length-append, length-drop, drop_of_length-le, length-take-le, take_all, drop-drop}
use borrow.Rule.Slice.PartMut.{put_mid}
use lib.Seq.{take-length, take-append_seam, drop-append_seam}
use Rattle.buslog.specs.Report.{fronted, Fronts}

-- a text that was copied to the front
pub copied : (text before : List ℕ) {r : ℕ} {after : List ℕ} → r ≡ length text → after ≡ take (length text) text ++ drop (length text) before
    → Fronts text before r after
unfolding fronted
copied text before e q = record { count = e; left = q ∙ rw take-length }

-- a buffer keeps its length
pub fronted_length : (cs before : List ℕ) → length cs ≤ length before → length (fronted cs before) ≡ length before
unfolding fronted
fronted_length cs before h = simp (length-append, length-drop) (omega arith)

-- the part of a buffer behind what was put at its front, lent to put more there
module _ (cs ds before : List ℕ) where
  whole_rest : take (length (cs ++ drop (length cs) before) - length cs) (drop (length cs) (cs ++ drop (length cs) before)) ≡ drop (length cs) before
  whole_rest =
      rw (drop-append_seam cs (drop (length cs) before))
      (take_all (length (cs ++ drop (length cs) before) - length cs) (drop (length cs) before) (simp length-append (omega arith)))

  none_left : drop (length (cs ++ drop (length cs) before) - length cs) (drop (length cs) (cs ++ drop (length cs) before)) ≡ []
  none_left =
      rw (drop-append_seam cs (drop (length cs) before))
      (drop_of_length-le (drop (length cs) before) {i = length (cs ++ drop (length cs) before) - length cs} (simp length-append (omega arith)))

  joined : cs ++ ((ds ++ drop (length ds) (drop (length cs) before)) ++ []) ≡ fronted (cs ++ ds) before
  unfolding fronted
  joined = rw (append-nil, drop-drop, length-append) (sym (append_assoc cs ds (drop (length cs + length ds) before)))

  pub behind : {n r : ℕ} {whole part after : List ℕ} → Fronts cs before n whole → Fronts ds (take (length whole - n) (drop n whole)) r part
      → after ≡ put_mid n (length whole - n) whole part → Fronts (cs ++ ds) before (n + r) after
  unfolding fronted
  behind f g e = record {
    count = omega (arith, length-append cs ds, f.count, g.count);
    left = e ∙ rw (g.left, f.count, f.left, whole_rest, none_left, take-append_seam) joined;
  }

-- what was put at the front is no longer than the buffer
pub fronts_within : (cs : List ℕ) {r : ℕ} {before after : List ℕ} → Fronts cs before r after → length after ≡ length before → r ≤ length before
unfolding fronted
fronts_within cs {r} {before} f e = omega (arith, f.count, ap length f.left, length-append cs (drop (length cs) before), length-drop (length cs) before)

-- nor what was put behind a place longer than what stands there
pub behind_within : (cs out : List ℕ) (at : ℕ) {r : ℕ} {part : List ℕ} → at ≤ length out → Fronts cs (take (length out - at) (drop at out)) r part
    → length part ≡ length (take (length out - at) (drop at out)) → at + r ≤ length out
behind_within cs out at h f e =
    let l : length (take (length out - at) (drop at out)) ≡ length out - at = length-take-le (length out - at) (drop at out) (simp length-drop (omega arith)) in
    omega (arith, fronts_within cs f e)
