-- The check goes from word to word: a word that is right is passed, and the first that is not is the answer.
use Prim.Native.Nat.{ℕ, zero, suc, ◌+◌, ◌-◌, ◌≤◌, ◌<◌}
use mathlib.Core.Path.{◌≡◌, refl, ◌∙◌, ap}
use mathlib.Core.Bool.{Bool, true, false}
use mathlib.Core.List.{List, [], ◌∷◌, ◌++◌}
use native.Mathlib.Numerals.{add-one}
use native.Mathlib.Omega.{arith}
use borrow.Author.Tests.{lt-ltb, le-ltb}
use lib.ListN.{length}
use Rattle.wire.proofs.Tests.{whether}
use Rattle.signal.proofs.Inside.{order}
use Rattle.cluster.specs.Check.{Verdict, fault, faults, then}
use Rattle.cluster.specs.Right.{records}
use Rattle.cluster.specs.Read.{due, leading, position}
use Rattle.cluster.specs.Table.{word}
use Rattle.cluster.proofs.Accepted.{AllTrue}
use Rattle.std.specs.Prelude.{Ok}

-- ---- one word

pub due_there : (t : List ℕ) (i : ℕ) → i < length t → due t i ≡ word t i
unfolding due
due_there t i h = rw (lt-ltb i (length t) h)

due_missing : (t : List ℕ) (i : ℕ) → length t ≤ i → due t i ≡ 65536
unfolding due
due_missing t i h = rw (le-ltb i (length t) h)

-- a word that is read as less than 65536 is there
there : (t : List ℕ) (i : ℕ) → due t i < 65536 → i < length t
there t i h = order i (length t) (λ k. k) (λ k. absurd (omega (arith, due_missing t i k)))

pub due_is : (t : List ℕ) (i : ℕ) → due t i < 65536 → due t i ≡ word t i
due_is t i h = due_there t i (there t i h)

pass : (t : List ℕ) (i j : ℕ) (right : Bool) (rest : List Bool) → i + 1 ≡ j → due t i < 65536 → (due t i ≡ word t i → right ≡ true)
    → faults t i (right ∷ rest) ≡ faults t j rest
unfolding faults
pass t i j right rest e d p =
    let h : i < length t = there t i d in
    rw (lt-ltb i (length t) h, p (due_there t i h), ← e, add-one i)

stop : (t : List ℕ) (i : ℕ) (right : Bool) (rest : List Bool) → (due t i ≡ word t i → right ≡ false)
    → faults t i (right ∷ rest) ≡ fault i
unfolding faults
stop t i right rest wrong =
    order i (length t)
    (λ h. rw (lt-ltb i (length t) h, wrong (due_there t i h)))
    (λ h. rw (le-ltb i (length t) h))

-- ---- the words of a record

pub position_is : (at k : ℕ) → position at k ≡ at + k
position_is at zero = omega arith
position_is at (suc k) = refl

-- What was seen of the words from word k on agrees with the definition: a word seen as right is there; and where it is there,
-- it is right exactly where it is seen as right, and then the words behind it agree.
abbrev pub Agrees : List ℕ → ℕ → ℕ → List Bool → List Bool → Type 0
Agrees t at k [] rights = rights ≡ []
Agrees t at k (seen ∷ more) [] = ⊥
Agrees t at k (seen ∷ more) (right ∷ rights) =
    (seen ≡ true → due t (position at k) < 65536)
    × (due t (position at k) ≡ word t (position at k) → (right ≡ seen) × (seen ≡ true → Agrees t at (suc k) more rights))

leading_right : (seen : Bool) (more : List Bool) → seen ≡ true → leading (seen ∷ more) ≡ suc (leading more)
unfolding leading
leading_right seen more e = rw e

leading_wrong : (seen : Bool) (more : List Bool) → seen ≡ false → leading (seen ∷ more) ≡ 0
unfolding leading
leading_wrong seen more e = rw e

-- the words are there
abbrev pub AllThere : List ℕ → ℕ → ℕ → List Bool → Type 0
AllThere t at k [] = Unit {0}
AllThere t at k (seen ∷ more) = (due t (position at k) ≡ word t (position at k)) × AllThere t at (suc k) more

-- words seen as right, all of them
pub leading_all : (seen : List Bool) → length seen ≤ leading seen → AllTrue seen
leading_all [] h = tt
leading_all (seen ∷ more) h =
    whether seen
    (λ e. (e, leading_all more (omega (arith, leading_right seen more e))))
    (λ e. absurd (omega (arith, leading_wrong seen more e)))

pub all_there : (t : List ℕ) (at k : ℕ) (seen rights : List Bool) → Agrees t at k seen rights → AllTrue seen → AllThere t at k seen
all_there t at k [] rights a h = tt
all_there t at k (seen ∷ more) [] a h = absurd a
all_there t at k (seen ∷ more) (right ∷ rights) a h =
    let w = due_is t (position at k) (a.0 h.0) in
    (w, all_there t at (suc k) more rights ((a.1 w).1 h.0) h.1)

-- the words of a record that are all seen as right reach to its end
reaches : (t : List ℕ) (at k : ℕ) (seen rights : List Bool) → Agrees t at k seen rights → AllTrue seen → 0 < length seen
    → at + (k + length seen) ≤ length t
reaches t at k [] rights a h some = absurd (omega arith)
reaches t at k (seen ∷ more) [] a h some = absurd a
reaches t at k (seen ∷ []) (right ∷ rights) a h some = omega (arith, position_is at k, there t (position at k) (a.0 h.0))
reaches t at k (seen ∷ next ∷ more) (right ∷ rights) a h some =
    let w = due_is t (position at k) (a.0 h.0) in
    omega (arith, reaches t at (suc k) (next ∷ more) rights ((a.1 w).1 h.0) h.1 (omega arith))

-- so one that is cut off has a word that is not
pub cut_short : (t : List ℕ) (at : ℕ) (seen rights : List Bool) → Agrees t at 0 seen rights → 0 < length seen → length t < at + length seen
    → leading seen < length seen
cut_short t at seen rights a some short =
    order (leading seen) (length seen) (λ l. l) (λ h. absurd (omega (arith, reaches t at 0 seen rights a (leading_all seen h) some)))

module _ (t : List ℕ) (at : ℕ) (rest : List Bool) where
  forward : (k : ℕ) (right : Bool) (rights : List Bool) → due t (position at k) < 65536
      → (due t (position at k) ≡ word t (position at k) → right ≡ true)
      → faults t (position at k) (right ∷ rights ++ rest) ≡ faults t (position at (suc k)) (rights ++ rest)
  forward k right rights = pass t (position at k) (position at (suc k)) right (rights ++ rest) (omega (arith, position_is at k))

  -- the first word that is not seen as right is the answer
  halts : (k : ℕ) (seen rights : List Bool) → Agrees t at k seen rights → leading seen < length seen
      → faults t (position at k) (rights ++ rest) ≡ fault (at + (k + leading seen))
  halts k [] rights a h = absurd (omega arith)
  halts k (seen ∷ more) [] a h = absurd a
  halts k (seen ∷ more) (right ∷ rights) a h =
      whether seen
      (λ e. let here : at + (suc k + leading more) ≡ at + (k + leading (seen ∷ more)) = omega (arith, leading_right seen more e) in
      let d = a.0 e in
      forward k right rights d (λ w. (a.1 w).0 ∙ e)
      ∙ rw here at (halts (suc k) more rights ((a.1 (due_is t (position at k) d)).1 e) (omega (arith, leading_right seen more e))))
      (λ e. let here : position at k ≡ at + (k + leading (seen ∷ more)) = omega (arith, position_is at k, leading_wrong seen more e) in
      stop t (position at k) right (rights ++ rest) (λ w. (a.1 w).0 ∙ e) ∙ ap fault here)

  -- all words are seen as right
  goes_on : (k : ℕ) (seen rights : List Bool) → Agrees t at k seen rights → length seen ≤ leading seen
      → faults t (position at k) (rights ++ rest) ≡ faults t (at + (k + length seen)) rest
  goes_on k [] rights a h = let here : position at k ≡ at + (k + 0) = omega (arith, position_is at k) in rw (a, here)
  goes_on k (seen ∷ more) [] a h = absurd a
  goes_on k (seen ∷ more) (right ∷ rights) a h =
      whether seen
      (λ e. let here : at + (suc k + length more) ≡ at + (k + suc (length more)) = omega arith in
      let d = a.0 e in
      forward k right rights d (λ w. (a.1 w).0 ∙ e)
      ∙ rw here at (goes_on (suc k) more rights ((a.1 (due_is t (position at k) d)).1 e) (omega (arith, leading_right seen more e))))
      (λ e. absurd (omega (arith, leading_wrong seen more e)))

-- the words of a record, of which j are seen as right before the first that is not; and where all are
module _ (t : List ℕ) (at : ℕ) (seen rights : List Bool) (a : Agrees t at 0 seen rights) where
  pub stops_at : (j place : ℕ) → leading seen ≡ j → j < length seen → at + j ≡ place → (rest : List Bool) → faults t at (rights ++ rest) ≡ fault place
  stops_at j place l b e rest =
      let here : at + (0 + leading seen) ≡ place = omega arith in
      rw here at (halts t at rest 0 seen rights a (omega arith))

  pub goes_to : (next : ℕ) → leading seen ≡ length seen → at + length seen ≡ next → (rest : List Bool)
      → faults t at (rights ++ rest) ≡ faults t next rest
  goes_to next l e rest =
      let here : at + (0 + length seen) ≡ next = omega arith in
      rw here at (goes_on t at rest 0 seen rights a (omega arith))

-- ---- records

turn : (right : ℕ → List Bool) (k n : ℕ) → k < n → records k (n - k) right ≡ right k ++ records (k + 1) (n - (k + 1)) right
unfolding records
turn right k n h = let e : n - k ≡ suc (n - (k + 1)) = omega arith in rw (e, add-one k)

-- what record k of n tells, whatever is behind it, is what the records from there on tell
pub next_record : (t : List ℕ) (at next : ℕ) (right : ℕ → List Bool) (k n : ℕ) (v : Verdict) → k < n
    → ((rest : List Bool) → faults t at (right k ++ rest) ≡ then v (faults t next rest))
    → faults t at (records k (n - k) right) ≡ then v (faults t next (records (k + 1) (n - (k + 1)) right))
next_record t at next right k n v h told = rw (turn right k n h) (told (records (k + 1) (n - (k + 1)) right))

pub no_record : (t : List ℕ) (at : ℕ) (right : ℕ → List Bool) (k n : ℕ) → n ≤ k → faults t at (records k (n - k) right) ≡ Ok tt
unfolding records faults
no_record t at right k n h = let e : n - k ≡ 0 = omega arith in rw e
