-- In every history all placements of a published signal agree.
use Prim.Native.Nat.{ℕ, ◌+◌, ◌*◌, ◌<◌}
use mathlib.Core.Path.{◌≡◌, refl, sym, ◌∙◌}
use mathlib.Core.Bool.{true}
use mathlib.Core.List.{List}
use native.Mathlib.Decide.{ℕ_discrete}
use native.Mathlib.Omega.{arith}
use borrow.Author.Tests.{eqb-true}
use lib.ListN.{length}
use Rattle.signal.specs.Signal.{bit_at, get_array}
use Rattle.signal.proofs.BytesOf.{bytes_ext}
use Rattle.cluster.specs.Check.{RightTable}
use Rattle.cluster.specs.Table.{frame_count, signal_count}
use Rattle.cluster.specs.Places.{place_of}
use Rattle.cluster.specs.Fresh.{array_length, fresh_bytes}
use Rattle.cluster.specs.Values.{signal_published, array_fits, scalar_at, array_at, with_array}
use Rattle.cluster.proofs.SomePlacement.{Of}
use Rattle.cluster.proofs.FreshLaws.{fresh_scalar, fresh_array}
use Rattle.cluster.proofs.ValueLaws.{scalar_at_own, array_at_own, array_put_bit, read_scalar_at}
use Rattle.cluster.proofs.ValueLaws.{other_scalar_scalar, other_array_scalar, other_scalar_array, other_array_array}
use Rattle.master.specs.Start.{fresh_of}
use Rattle.master.specs.Put.{Value, scalar, array, with_value}
use Rattle.master.specs.Write.{is_bytes, fits_signal}
use Rattle.master.specs.Seq.{Seq, ∅, ◌▹◌}
use Rattle.master.specs.Calls.{Call, ◌⇒◌}
use Rattle.master.specs.Acts.{Act, nothing, wrote, selected, ticked, took, status_read, sending}
use Rattle.master.specs.Run.{answer_of, held_after, history_of}
use Rattle.master.specs.Schedule.{Scheduled, act, schedule, scheduled}
use Rattle.master.specs.History.{written_bytes}
use Rattle.master.specs.Claim.{record_of}
use Rattle.master.specs.InWords.{Alike}
use Rattle.master.proofs.Answered.{Writable}
use Rattle.master.proofs.History.LastWrite.{published_bits, call_allowed, written_length}
use Rattle.master.proofs.History.Runs.{fresh_table, agrees}
use Rattle.std.specs.Prelude.{Ok}

module _ (t : List ℕ) (ok : RightTable t) (s : ℕ) (hs : s < signal_count t) (j k : ℕ) (of-j : Of t s j) (of-k : Of t s k) where
  -- a fresh buffer
  alike_start : Alike t (fresh_bytes t) s j k
  unfolding scalar_at array_at
  alike_start =
      (λ a. fresh_scalar t ok s j of-j a ∙ sym (fresh_scalar t ok s k of-k a), λ a. fresh_array t ok s j of-j a ∙ sym (fresh_array t ok s k of-k a))

  -- what a write of the signal leaves as an array, whatever its values
  array_alike : (bs : List ℕ) → length bs ≡ 8 * frame_count t → (vs : List ℕ) → array_fits t s vs ≡ true
      → array_at t (with_array t bs s vs) s j ≡ array_at t (with_array t bs s vs) s k
  unfolding array_at get_array array_fits
  array_alike bs l vs h =
      rw (← eqb-true (length vs) (array_length t s) h)
      (bytes_ext (length vs) (λ i. bit_at (with_array t bs s vs) (place_of t j + i)) (λ i. bit_at (with_array t bs s vs) (place_of t k + i))
      (λ i b. array_put_bit t bs s vs h ok l j of-j i b ∙ sym (array_put_bit t bs s vs h ok l k of-k i b)))

  -- a write of the signal
  alike_own : (bs : List ℕ) → length bs ≡ 8 * frame_count t → (v : Value) → Writable t s (is_bytes v) (fits_signal t s v) → Alike t (with_value t bs s v) s j k
  alike_own bs l (scalar v) w = (
    λ a. read_scalar_at t ok s hs a bs l v w.value_fits_lem j of-j ∙ sym (read_scalar_at t ok s hs a bs l v w.value_fits_lem k of-k),
    λ a. let other = w.kind_is in let z : ◌≡◌ {A = ℕ} 0 1 = cc in absurd (omega arith),
  )
  alike_own bs l (array vs) w =
      (λ a. let other = w.kind_is in let z : ◌≡◌ {A = ℕ} 0 1 = cc in absurd (omega arith), λ a. array_alike bs l vs w.value_fits_lem)

  -- a write of another one
  alike_other : (bs : List ℕ) (r : ℕ) → ¬ (s ≡ r) → (v : Value) → Writable t r (is_bytes v) (fits_signal t r v) → Alike t bs s j k
      → Alike t (with_value t bs r v) s j k
  alike_other bs r n (scalar v) w is = (
    λ a. other_scalar_scalar t ok s r n j of-j bs v ∙ is.0 a ∙ sym (other_scalar_scalar t ok s r n k of-k bs v),
    λ a. other_array_scalar t ok s r n j of-j bs v ∙ is.1 a ∙ sym (other_array_scalar t ok s r n k of-k bs v),
  )
  alike_other bs r n (array vs) w is =
      let h = w.value_fits_lem in (
        λ a. other_scalar_array t ok s r n j of-j bs vs h ∙ is.0 a ∙ sym (other_scalar_array t ok s r n k of-k bs vs h),
        λ a. other_array_array t ok s r n j of-j bs vs h ∙ is.1 a ∙ sym (other_array_array t ok s r n k of-k bs vs h),
      )

  -- one more event, of which a write is one that the table allows
  alike_event : (h : Seq Scheduled) (x : Scheduled) → length (written_bytes t h) ≡ 8 * frame_count t
      → ((r : ℕ) (v : Value) → act x ≡ wrote r v → Writable t r (is_bytes v) (fits_signal t r v))
      → Alike t (written_bytes t h) s j k → Alike t (written_bytes t (h ▹ x)) s j k
  unfolding written_bytes
  alike_event h x l allowed is = by (act x) refl
    where
      by : (a : Act) → act x ≡ a → Alike t (written_bytes t (h ▹ x)) s j k
      by nothing e = rw e is
      by (wrote r v) e = elim (ℕ_discrete r s) [
        | yes p ↦ rw (e, p) (alike_own (written_bytes t h) l v (rw p at (allowed r v e)))
        | no p ↦ rw e (alike_other (written_bytes t h) r (λ q. p (sym q)) v (allowed r v e) is)
      ]
      by (selected n) e = rw e is
      by (ticked m a) e = rw e is
      by (took b a) e = rw e is
      by status_read e = rw e is
      by (sending nad n) e = rw e is

module _ (t bs : List ℕ) (accepted : (fresh_of t bs).given.answer ≡ Ok tt) (s : ℕ) (hs : s < signal_count t) where
  ok : RightTable t
  ok = fresh_table t bs accepted

  module _ (j k : ℕ) (of-j : Of t s j) (of-k : Of t s k) where
    written_alike : (cs : Seq Call) → Alike t (written_bytes t (record_of t bs cs)) s j k
    unfolding history_of scheduled schedule written_bytes
    written_alike ∅ = alike_start t ok s hs j k of-j of-k
    written_alike (cs ▹ c) =
        let x = held_after t bs cs in
        let before = record_of t bs cs in
        alike_event t ok s hs j k of-j of-k before (schedule t before (c ⇒ answer_of t x c)) (written_length t bs accepted s hs cs) (call_allowed t x c)
        (written_alike cs)

    -- "every placement" of a published signal holds the same, after every sequence of calls
    pub placements_agree : signal_published t s ≡ true → (cs : Seq Call) → Alike t (held_after t bs cs).bytes s j k
    placements_agree p cs =
        let held = (held_after t bs cs).bytes in
        let written = written_bytes t (record_of t bs cs) in
        let same = (agrees t bs accepted cs).frames.written_are in
        let at_j = published_bits t ok s hs j of-j p held written same in
        let at-k = published_bits t ok s hs k of-k p held written same in
        let is = written_alike cs in (
          λ a. scalar_at_own t held written s j of-j at_j ∙ is.0 a ∙ sym (scalar_at_own t held written s k of-k at-k),
          λ a. array_at_own t held written s j of-j at_j ∙ is.1 a ∙ sym (array_at_own t held written s k of-k at-k),
        )
