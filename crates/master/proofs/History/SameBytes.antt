-- The bytes of the published frames: what receptions store beside them does not touch them, and a write goes by them alone.
use Prim.Native.Nat.{ℕ, ◌+◌, ◌*◌, ◌<◌}
use mathlib.Core.Path.{◌≡◌, refl, sym, ◌∙◌}
use mathlib.Core.Bool.{true}
use mathlib.Core.List.{List}
use native.Mathlib.Omega.{arith}
use lib.ListN.{length, get_or, drop, length-take, length-drop}
use lib.Seq.{get_or-take, get_or-drop, ext_get_or}
use Rattle.cluster.specs.Check.{RightTable}
use Rattle.cluster.specs.Table.{published}
use Rattle.cluster.proofs.ValueLaws.{scalar_alike, array_alike}
use Rattle.master.specs.Admit.{buffer_size}
use Rattle.master.specs.Transfers.{frame_data}
use Rattle.master.specs.History.{eight_of}
use Rattle.master.proofs.ReadBack.{untouched_data, value_length}
use Rattle.master.specs.Put.{Value, scalar, array, with_value}

-- two buffers of one length have the same eight bytes in each published frame
pub record SameBytes (t bs cs : List ℕ) : Type 0 where
  pub same_length : length bs ≡ length cs
  pub same_bytes_lem : (f : ℕ) → published t f ≡ true → (k : ℕ) → k < 8 → get_or bs (8 * f + k) 0 ≡ get_or cs (8 * f + k) 0

pub same_refl : (t bs : List ℕ) → SameBytes t bs bs
same_refl t bs = record { same_length = refl; same_bytes_lem = λ f p k b. refl }

-- a byte after a write goes by what that byte was before
value_alike : (t bs cs : List ℕ) (s : ℕ) (v : Value) (i : ℕ) → length bs ≡ length cs → get_or bs i 0 ≡ get_or cs i 0
    → get_or (with_value t bs s v) i 0 ≡ get_or (with_value t cs s v) i 0
value_alike t bs cs s (scalar v) = scalar_alike t bs cs s v
value_alike t bs cs s (array vs) = array_alike t bs cs s vs

-- the same write in both
pub same_written : (t bs cs : List ℕ) (s : ℕ) (v : Value) → SameBytes t bs cs → SameBytes t (with_value t bs s v) (with_value t cs s v)
same_written t bs cs s v e = record {
  same_length = value_length t bs s v ∙ e.same_length ∙ sym (value_length t cs s v);
  same_bytes_lem = λ f p k b. value_alike t bs cs s v (8 * f + k) e.same_length (e.same_bytes_lem f p k b);
}

module _ (t : List ℕ) (bs cs : List ℕ) (size : length bs ≡ buffer_size t) (e : SameBytes t bs cs) (f : ℕ) (p : published t f ≡ true) where
  -- a published frame has the same data
  pub same_data : RightTable t → frame_data t bs f ≡ frame_data t cs f
  same_data ok = sym (untouched_data t bs cs f ok size (sym e.same_length) (λ k b. sym (e.same_bytes_lem f p k b)))

  -- and the same eight bytes
  pub same_eight : eight_of bs f ≡ eight_of cs f
  same_eight =
      ext_get_or 0 (eight_of bs f) (eight_of cs f)
      (simp (length-take, length-drop, e.same_length))
      (λ i h. let l : i < 8 = omega (arith, simp (length-take) at h) in
      get_or-take 8 (drop (8 * f) bs) i 0 l
      ∙ get_or-drop (8 * f) bs i 0
      ∙ e.same_bytes_lem f p i l
      ∙ sym (get_or-drop (8 * f) cs i 0)
      ∙ sym (get_or-take 8 (drop (8 * f) cs) i 0 l))
