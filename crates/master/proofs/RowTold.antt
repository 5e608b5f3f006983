-- What a row of values tells: 1 as the table check tells it, then 2, 3 and 12, then the number of its first bad pair with its place.
use Prim.Native.Nat.{ℕ, suc}
use mathlib.Core.Path.{◌≡◌, refl}
use mathlib.Core.Bool.{Bool, true, false, beq}
use mathlib.Core.List.{List, [], ◌∷◌}
use lib.Dec.{ltb, eqb}
use lib.ListN.{length}
use Rattle.refusal.specs.Answers.{Told, test, first_failing, behind, told_at}
use Rattle.cluster.specs.Check.{taken_of, then}
use Rattle.cluster.specs.Answers.{behind_table}
use Rattle.cluster.specs.Table.{signal_count, is_array}
use Rattle.cluster.specs.Values.{signal_published}
use Rattle.master.specs.declared.state.State.{State}
use Rattle.master.specs.Answers.{Wrote}
use Rattle.master.specs.Fits.{state_fits}
use Rattle.master.specs.Admit.{unless, buffer_size, admitted, Step, Leaves}
use Rattle.master.specs.Answers.{write_told}
use Rattle.master.specs.Put.{Put, puts}
use Rattle.master.specs.Write.{is_bytes, fits_signal, writable}
use Rattle.master.specs.WriteRow.{at_place, first_bad, row_verdict, row_of}
use Rattle.master.specs.Run.{held}
use Rattle.master.specs.Told.{told_as, pairs_told, row_told}
use Rattle.master.proofs.Answered.{by_verdict}
use Rattle.std.specs.Prelude.{Ok, Err}
use Rattle.cluster.specs.Check.{Verdict}

-- a pair, and then what the later ones tell
pair_told : (i : ℕ) (a b c d : Bool) (v : Verdict) (x : Told) → told_as v [] ≡ x
    → told_as (then (at_place i (unless a 4 (unless b 5 (unless c 6 (unless d 7 (Ok tt)))))) v) []
    ≡ behind (told_at i (first_failing (test 4 a ∷ test 5 b ∷ test 6 c ∷ test 7 d ∷ []) [])) x
unfolding behind told_at first_failing
pair_told i true true true true v x e = e
pair_told i true true true false v x e = refl
pair_told i true true false d v x e = refl
pair_told i true false c d v x e = refl
pair_told i false b c d v x e = refl

pairs_told_lem : (t : List ℕ) (i : ℕ) (ws : List Put) → told_as (first_bad t i ws) [] ≡ pairs_told t i ws
unfolding first_bad pairs_told writable
pairs_told_lem t i [] = refl
pairs_told_lem t i (w ∷ ws) =
    pair_told i (ltb w.signal (signal_count t)) (signal_published t w.signal) (beq (is_array t w.signal) (is_bytes w.value))
    (fits_signal t w.signal w.value) (first_bad t (suc i) ws) (pairs_told t (suc i) ws) (pairs_told_lem t (suc i) ws)

-- 1, 2, 3 and 12, and then what the pairs tell
head_told : (w : Verdict) (a b c : Bool) (v : Verdict) (x : Told) → told_as v [] ≡ x
    → told_as (then (then w (unless a 2 (unless b 3 (Ok tt)))) (unless c 12 v)) []
    ≡ behind_table w (behind (first_failing (test 2 a ∷ test 3 b ∷ test 12 c ∷ []) []) x)
unfolding behind first_failing
head_told (Ok tt) true true true v x e = e
head_told (Ok tt) true true false v x e = refl
head_told (Ok tt) true false c v x e = refl
head_told (Ok tt) false b c v x e = refl
head_told (Err r) a b c v x e = refl

verdict_told_lem : (t : List ℕ) (x : State) (bs ss vs : List ℕ) → told_as (row_verdict t (length bs) x ss vs) [] ≡ row_told t (held x bs) ss vs
unfolding row_verdict row_told admitted buffer_size
verdict_told_lem t x bs ss vs =
    head_told (taken_of t) (eqb (length bs) (buffer_size t)) (state_fits t x) (eqb (length ss) (length vs)) (first_bad t 0 (puts ss vs)) (pairs_told t 0 (puts ss vs))
    (pairs_told_lem t 0 (puts ss vs))

pub row_told_lem : (t : List ℕ) (x : State) (bs ss vs : List ℕ) (r : Wrote) (after : List ℕ) → Leaves (row_of t x bs ss vs) r after
    → Leaves (row_of t x bs ss vs) r after × (write_told r.answer ≡ row_told t (held x bs) ss vs)
unfolding row_of
row_told_lem t x bs ss vs r after e = (
  e,
  rw e.handed
      (by_verdict (λ (z : Step Wrote). write_told z.given.answer ≡ row_told t (held x bs) ss vs) (row_verdict t (length bs) x ss vs) _ _
      (λ q p. rw p at (verdict_told_lem t x bs ss vs)) (λ p. rw p at (verdict_told_lem t x bs ss vs))),
)
