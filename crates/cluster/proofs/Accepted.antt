-- An accepted table: every word is there and right, so that every clause of the header and of each record holds.
use Prim.Native.Nat.{ℕ, zero, suc, ◌+◌, ◌*◌, ◌≤◌, ◌<◌}
use mathlib.Core.Path.{◌≡◌, refl, sym, ◌∙◌}
use mathlib.Core.Bool.{Bool, true, false, ◌&&◌}
use mathlib.Core.List.{List, [], ◌∷◌, ◌++◌}
use native.Mathlib.Decide.{ℕ_discrete}
use native.Mathlib.Nat.{mul-zero}
use native.Mathlib.Omega.{arith}
use borrow.Author.Tests.{ltb-true, ltb-false}
use lib.Dec.{ltb}
use lib.ListN.{length, length-append}
use Rattle.wire.proofs.Tests.{and_left, and_right, whether}
use Rattle.cluster.specs.Check.{faults, then, surplus, judged, RightTable}
use Rattle.cluster.specs.Right.{records, header_right, frame_right, signal_right, placement_right, all_placed, member_right, entry_right}
use Rattle.cluster.specs.Right.{front_right, back_right, words_right}
use Rattle.cluster.specs.Columns.{header_columns, frame_columns, signal_columns, placement_columns, member_columns, entry_columns}
use Rattle.cluster.specs.Table.{frame_count, signal_count, placement_count, member_count, entry_count, placement_at, size}
use Rattle.cluster.specs.Table.{frame_words, signal_words, placement_words, member_words, entry_words}
use Rattle.std.specs.Prelude.{Ok, Err}
use Rattle.cluster.specs.Check.{Verdict}

-- each of the tests holds
abbrev pub AllTrue : List Bool → Type 0
AllTrue [] = Unit {0}
AllTrue (b ∷ bs) = (b ≡ true) × AllTrue bs

all_append : (xs ys : List Bool) → AllTrue (xs ++ ys) → AllTrue xs × AllTrue ys
all_append [] ys h = (tt, h)
all_append (x ∷ xs) ys h = ((h.0, (all_append xs ys h.1).0), (all_append xs ys h.1).1)

all_four : (a b c d : List Bool) → AllTrue (a ++ b ++ c ++ d) → AllTrue a × AllTrue b × AllTrue c × AllTrue d
all_four a b c d h =
    let three = all_append (a ++ b ++ c) d h in
    let two = all_append (a ++ b) c three.0 in
    let one = all_append a b two.0 in
    (one.0, one.1, two.1, three.1)

module _ (right : ℕ → List Bool) where
  pub all_records : (k n : ℕ) → AllTrue (records k n right) → (j : ℕ) → k ≤ j → j < k + n → AllTrue (right j)
  unfolding records
  all_records k zero h j a b = absurd (omega arith)
  all_records k (suc n) h j a b =
      elim (ℕ_discrete j k) [
        | yes p ↦ rw p (all_append (right k) (records (suc k) n right) h).0
        | no p ↦ all_records (suc k) n (all_append (right k) (records (suc k) n right) h).1 j (omega arith) (omega arith)
      ]

  pub length_records : (c : ℕ) → ((j : ℕ) → length (right j) ≡ c) → (k n : ℕ) → length (records k n right) ≡ c * n
  unfolding records
  length_records c each k zero = sym (mul-zero c)
  length_records c each k (suc n) =
      length-append (right k) (records (suc k) n right)
      ∙ omega (arith, each k, length_records c each (suc k) n)

module _ (t : List ℕ) where
  there : (i : ℕ) (b : Bool) (bs : List Bool) → faults t i (b ∷ bs) ≡ Ok tt → (ltb i (length t) && b) ≡ true
  unfolding faults
  there i b bs h = whether (ltb i (length t) && b) (λ e. e) (λ e. let w = rw e at h in cc)

  further : (i : ℕ) (b : Bool) (bs : List Bool) → faults t i (b ∷ bs) ≡ Ok tt → faults t (suc i) bs ≡ Ok tt
  unfolding faults
  further i b bs h = let e = there i b bs h in rw e at h

  pub faults_true : (i : ℕ) (bs : List Bool) → faults t i bs ≡ Ok tt → AllTrue bs
  faults_true i [] h = tt
  faults_true i (b ∷ bs) h = (and_right (ltb i (length t)) b (there i b bs h), faults_true (suc i) bs (further i b bs h))

  pub faults_length : (i : ℕ) (bs : List Bool) → faults t i bs ≡ Ok tt → i ≤ length t → i + length bs ≤ length t
  faults_length i [] h a = omega arith
  faults_length i (b ∷ bs) h a =
      let l = ltb-true i (length t) (and_left (ltb i (length t)) b (there i b bs h)) in
      omega (arith, faults_length (suc i) bs (further i b bs h) l)

-- a verdict with a later one behind it accepts: both do
pub then_first : (v w : Verdict) → then v w ≡ Ok tt → v ≡ Ok tt
then_first (Ok tt) w h = refl
then_first (Err r) w h = h

pub then_second : (v w : Verdict) → then v w ≡ Ok tt → w ≡ Ok tt
then_second (Ok tt) w h = h
then_second (Err r) w h = cc

not_surplus : (t : List ℕ) → surplus t ≡ Ok tt → length t ≤ size t
unfolding surplus
not_surplus t h =
    whether (ltb (size t) (length t))
    (λ e. let w = rw e at h in let z : ◌≡◌ {A = ℕ} 0 1 = cc in omega arith)
    (ltb-false (size t) (length t))

-- there is one test for each word up to the placements
pub front_words : (t : List ℕ) → length (front_right t) ≡ placement_at t (placement_count t)
unfolding front_right header_right frame_right signal_right placement_right header_columns frame_columns signal_columns placement_columns
front_words t =
    simp (
      length-append,
      length_records (frame_right t) frame_words (λ j. refl) 0 (frame_count t),
      length_records (signal_right t) signal_words (λ j. refl) 0 (signal_count t),
      length_records (placement_right t) placement_words (λ j. refl) 0 (placement_count t),
    )
    (omega arith)

-- and for each word behind them
back_words : (t : List ℕ) → length (back_right t) ≡ member_words * member_count t + entry_words * entry_count t
unfolding back_right member_right entry_right member_columns entry_columns
back_words t =
    simp (
      length-append,
      length_records (member_right t) member_words (λ j. refl) 0 (member_count t),
      length_records (entry_right t) entry_words (λ j. refl) 0 (entry_count t),
    )
    (omega arith)

-- where each signal has a placement, and else one test for the place directly behind them
pub placed_words : (t : List ℕ) → all_placed t ≡ true → words_right t ≡ front_right t ++ back_right t
unfolding words_right
placed_words t h = rw h

pub unplaced_words : (t : List ℕ) → all_placed t ≡ false → words_right t ≡ front_right t ++ (false ∷ [])
unfolding words_right
unplaced_words t h = rw h

pub words : (t : List ℕ) → all_placed t ≡ true → length (words_right t) ≡ size t
unfolding size
words t h = rw (placed_words t h, length-append) (omega (arith, front_words t, back_words t))

-- words of which none is wrong: each signal has a placement
pub none_missing : (t : List ℕ) → faults t 0 (words_right t) ≡ Ok tt → all_placed t ≡ true
none_missing t a =
    whether (all_placed t)
    (λ h. h)
    (λ h.
    let all : AllTrue (front_right t ++ (false ∷ [])) = rw (unplaced_words t h) at (faults_true t 0 (words_right t) a) in
    let wrong : ◌≡◌ {A = Bool} false true = (all_append (front_right t) (false ∷ []) all).1.0 in
    let z : ◌≡◌ {A = ℕ} 0 1 = cc in absurd (omega arith))

module _ (t : List ℕ) (ok : RightTable t) where
  accepted : faults t 0 (words_right t) ≡ Ok tt
  unfolding judged
  accepted = then_first (faults t 0 (words_right t)) (surplus t) ok

  fits : surplus t ≡ Ok tt
  unfolding judged
  fits = then_second (faults t 0 (words_right t)) (surplus t) ok

  -- each signal has a placement
  pub all_placed_lem : all_placed t ≡ true
  all_placed_lem = none_missing t accepted

  -- the table has exactly the words that its header announces
  pub exact : length t ≡ size t
  exact =
      omega
      (arith, words t all_placed_lem, faults_length t 0 (words_right t) accepted (omega arith), not_surplus t fits)

  halves : AllTrue (front_right t) × AllTrue (back_right t)
  halves = all_append (front_right t) (back_right t) (rw (placed_words t all_placed_lem) at (faults_true t 0 (words_right t) accepted))

  front : AllTrue (header_right t)
      × AllTrue (records 0 (frame_count t) (frame_right t))
      × AllTrue (records 0 (signal_count t) (signal_right t))
      × AllTrue (records 0 (placement_count t) (placement_right t))
  unfolding front_right
  front =
      all_four
      (header_right t)
      (records 0 (frame_count t) (frame_right t))
      (records 0 (signal_count t) (signal_right t))
      (records 0 (placement_count t) (placement_right t))
      halves.0

  back : AllTrue (records 0 (member_count t) (member_right t)) × AllTrue (records 0 (entry_count t) (entry_right t))
  unfolding back_right
  back = all_append (records 0 (member_count t) (member_right t)) (records 0 (entry_count t) (entry_right t)) halves.1

  -- the clauses of the header hold
  pub header_right_lem : AllTrue (header_right t)
  header_right_lem = front.0

  -- the clauses of each record hold
  pub frame_right_lem : (f : ℕ) → f < frame_count t → AllTrue (frame_right t f)
  frame_right_lem f h = all_records (frame_right t) 0 (frame_count t) front.1 f (omega arith) (omega arith)

  pub signal_right_lem : (s : ℕ) → s < signal_count t → AllTrue (signal_right t s)
  signal_right_lem s h = all_records (signal_right t) 0 (signal_count t) front.2 s (omega arith) (omega arith)

  pub placement_right_lem : (k : ℕ) → k < placement_count t → AllTrue (placement_right t k)
  placement_right_lem k h = all_records (placement_right t) 0 (placement_count t) front.3 k (omega arith) (omega arith)

  pub member_right_lem : (m : ℕ) → m < member_count t → AllTrue (member_right t m)
  member_right_lem m h = all_records (member_right t) 0 (member_count t) back.0 m (omega arith) (omega arith)

  pub entry_right_lem : (e : ℕ) → e < entry_count t → AllTrue (entry_right t e)
  entry_right_lem e h = all_records (entry_right t) 0 (entry_count t) back.1 e (omega arith) (omega arith)
