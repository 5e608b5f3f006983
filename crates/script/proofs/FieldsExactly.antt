-- What fields, numbers and bytes of a line are, said without the definitions that read them: the fields are those parts of the text that have no separator and
-- stand between separators; a number is one or more decimal digits and at most its limit; a byte is its upper-case hexadecimal pair.
use Prim.Native.Nat.{ℕ, suc, ◌+◌, ◌-◌, ◌*◌, ◌/◌, ◌%◌, ◌<◌, ◌≤◌}
use mathlib.Core.Path.{◌≡◌, refl, sym, ◌∙◌, ap}
use mathlib.Core.Logic.{◌↔◌}
use mathlib.Core.Bool.{true, ◌&&◌}
use mathlib.Core.List.{List, [], ◌∷◌, ◌++◌}
use native.Mathlib.Omega.{arith}
use borrow.Author.Tests.{eqb-true, eqb-false, eq-eqb, ne_eqb, ltb-true, lt-ltb, leb-true, le-leb}
use lib.Dec.{ltb, leb, eqb}
use lib.ListN.{length}
use Rattle.buslog.specs.Pairs.{digit_of, byte_of, is_pair, pair_byte, pair_of}
use Rattle.buslog.proofs.Digits.{decimal_digit, digit_back, character_back}
use Rattle.wire.proofs.Tests.{whether, and_left, and_right}
use Rattle.std.proofs.Common.{Some, None}
use Rattle.script.proofs.Reading.{is_digit}
use Rattle.script.specs.Fields.{joined, fields_of, digits_from, decimal_field, pair_field}

-- ---- fields

-- some fields with a separator between each two
abbrev pub between : ℕ → List (List ℕ) → List ℕ
between s [] = []
between s (f ∷ []) = f
between s (f ∷ g ∷ fs) = f ++ (s ∷ between s (g ∷ fs))

-- a field has no separator
abbrev pub Whole : ℕ → List ℕ → Type 0
Whole s [] = Unit {0}
Whole s (c ∷ cs) = (¬ (c ≡ s)) × Whole s cs

abbrev pub EachWhole : ℕ → List (List ℕ) → Type 0
EachWhole s [] = Unit {0}
EachWhole s (f ∷ fs) = Whole s f × EachWhole s fs

module _ (s : ℕ) where
  -- what the fields of a text are
  split_again : (text : List ℕ) → (f : List ℕ) × (fs : List (List ℕ)) × (fields_of s text ≡ f ∷ fs) × (between s (f ∷ fs) ≡ text) × EachWhole s (f ∷ fs)
  unfolding fields_of joined
  split_again [] = ([], [], refl, refl, (tt, tt))
  split_again (c ∷ cs) =
      let r = split_again cs in
      whether (eqb c s)
      (λ e. ([], r.0 ∷ r.1, rw (e, r.2), ap (λ (k : List ℕ). s ∷ k) r.3 ∙ ap (λ k. k ∷ cs) (sym (eqb-true c s e)), (tt, r.4)))
      (λ e. (c ∷ r.0, r.1, rw (e, r.2), front r.0 r.1 r.3, ((eqb-false c s e, r.4.0), r.4.1)))
    where
      front : (f : List ℕ) (fs : List (List ℕ)) → between s (f ∷ fs) ≡ cs → between s ((c ∷ f) ∷ fs) ≡ c ∷ cs
      front f [] e = ap (λ (k : List ℕ). c ∷ k) e
      front f (g ∷ fs) e = ap (λ (k : List ℕ). c ∷ k) e

  -- and a field before a separator is one
  whole_field : (f rest : List ℕ) → Whole s f → fields_of s (f ++ (s ∷ rest)) ≡ f ∷ fields_of s rest
  unfolding fields_of joined
  whole_field [] rest w = rw (eq-eqb s s refl)
  whole_field (c ∷ f) rest w = rw (ne_eqb c s w.0, whole_field f rest w.1)

  last_field : (f : List ℕ) → Whole s f → fields_of s f ≡ f ∷ []
  unfolding fields_of joined
  last_field [] w = refl
  last_field (c ∷ f) w = rw (ne_eqb c s w.0, last_field f w.1)

  joined_again : (f : List ℕ) (fs : List (List ℕ)) → EachWhole s (f ∷ fs) → fields_of s (between s (f ∷ fs)) ≡ f ∷ fs
  joined_again f [] w = last_field f w.0
  joined_again f (g ∷ fs) w = whole_field f (between s (g ∷ fs)) w.0 ∙ ap (λ (k : List (List ℕ)). f ∷ k) (joined_again g fs w.1)

  -- some fields, one at least, are those of a text if and only if none has a separator and the text is what they are with separators between
  pub fields_exactly : (text f : List ℕ) (fs : List (List ℕ)) → (fields_of s text ≡ f ∷ fs) ↔ ((between s (f ∷ fs) ≡ text) × EachWhole s (f ∷ fs))
  fields_exactly text f fs = (
    (λ e.
        let r = split_again text in
        let q : r.0 ∷ r.1 ≡ f ∷ fs = sym r.2 ∙ e in
        let i : r.0 ≡ f = cc in
        let j : r.1 ≡ fs = cc in
        (rw (i, j) at r.3, rw (i, j) at r.4)),
    (λ h. ap (fields_of s) (sym h.0) ∙ joined_again f fs h.1),
  )

-- ---- numbers

-- decimal digits, `0` is 48 and `9` is 57
abbrev pub Digits : List ℕ → Type 0
Digits [] = Unit {0}
Digits (c ∷ cs) = (48 ≤ c) × (c ≤ 57) × Digits cs

-- the number that some digits are, behind a number that was read before
abbrev pub value_from : ℕ → List ℕ → ℕ
value_from v [] = v
value_from v (c ∷ cs) = value_from (10 * v + (c - 48)) cs

grows : (v : ℕ) (cs : List ℕ) → v ≤ value_from v cs
grows v [] = omega arith
grows v (c ∷ cs) = omega (arith, grows (10 * v + (c - 48)) cs)

digits_read : (limit value : ℕ) (cs : List ℕ) (v : ℕ) → value ≤ limit → digits_from limit value cs ≡ Some v
    → Digits cs × (value_from value cs ≡ v) × (v ≤ limit)
unfolding digits_from
digits_read limit value [] v b e = let q : value ≡ v = cc in (tt, q, omega (arith, q))
digits_read limit value (c ∷ cs) v b e =
    whether (ltb (digit_of c) 10 && leb (10 * value + digit_of c) limit)
    (λ y.
    let d = is_digit c (ltb-true (digit_of c) 10 (and_left (ltb (digit_of c) 10) _ y)) in
    let u = decimal_digit c d.0 d.1 in
    let l = leb-true (10 * value + digit_of c) limit (and_right (ltb (digit_of c) 10) _ y) in
    let r = digits_read limit (10 * value + digit_of c) cs v l (rw y at e) in
    ((d.0, d.1, r.0), rw (← u) r.1, r.2))
    (λ n. let z : None ≡ Some v = rw n at e in let y : ◌≡◌ {A = ℕ} 0 1 = cc in absurd (omega arith))

digits_right : (limit value : ℕ) (cs : List ℕ) → Digits cs → value_from value cs ≤ limit → digits_from limit value cs ≡ Some (value_from value cs)
unfolding digits_from
digits_right limit value [] d b = refl
digits_right limit value (c ∷ cs) d b =
    let u = decimal_digit c d.0 d.1 in
    let low : digit_of c < 10 = omega (arith, u, d.0, d.1) in
    let fits : 10 * value + (c - 48) ≤ limit = omega (arith, grows (10 * value + (c - 48)) cs) in
    rw (lt-ltb (digit_of c) 10 low, u, le-leb (10 * value + (c - 48)) limit fits) (digits_right limit (10 * value + (c - 48)) cs d.2 b)

-- a field is the number v up to a limit if and only if it is one or more decimal digits, their value is v, and v is at most the limit
pub decimal_exactly : (limit : ℕ) (field : List ℕ) (v : ℕ)
    → (decimal_field limit field ≡ Some v) ↔ ((0 < length field) × Digits field × (value_from 0 field ≡ v) × (v ≤ limit))
unfolding decimal_field
decimal_exactly limit [] v = ((λ e. let z : ◌≡◌ {A = ℕ} 0 1 = cc in absurd (omega arith)), (λ h. absurd (omega (arith, h.0))))
decimal_exactly limit (c ∷ cs) v =
    let some = ne_eqb (suc (length cs)) 0 (λ q. omega arith) in (
      (λ e. let r = digits_read limit 0 (c ∷ cs) v (omega arith) (rw some at e) in (omega arith, r.0, r.1, r.2)),
      (λ h. rw (decimal_field, some) (digits_right limit 0 (c ∷ cs) h.1 (rw h.2 h.3) ∙ ap Some h.2)),
    )

-- ---- bytes

-- a pair is that of its byte
pair_read : (h l v : ℕ) → is_pair h l ≡ true → pair_byte h l ≡ v → (v < 256) × (h ∷ l ∷ [] ≡ pair_of v)
unfolding is_pair pair_byte pair_of
pair_read h l v p e =
    let a = ltb-true (digit_of h) 16 (and_left (ltb (digit_of h) 16) (ltb (digit_of l) 16) p) in
    let b = ltb-true (digit_of l) 16 (and_right (ltb (digit_of h) 16) (ltb (digit_of l) 16) p) in
    let high : v / 16 ≡ digit_of h = omega (arith, e, a, b) in
    let low : v % 16 ≡ digit_of l = omega (arith, e, a, b) in
    (omega (arith, e, a, b), rw (high, low, character_back h a, character_back l b))

pair_right : (v : ℕ) → v < 256 → pair_field (pair_of v) ≡ Some v
unfolding pair_field byte_of is_pair pair_byte pair_of
pair_right v b =
    let high = digit_back (v / 16) (omega arith) in
    let low = digit_back (v % 16) (omega arith) in
    let byte : 16 * (v / 16) + v % 16 ≡ v = omega arith in
    rw (high, low, lt-ltb (v / 16) 16 (omega arith), lt-ltb (v % 16) 16 (omega arith), byte)

pair_is : (h l v : ℕ) → pair_field (h ∷ l ∷ []) ≡ Some v → (v < 256) × (h ∷ l ∷ [] ≡ pair_of v)
unfolding pair_field byte_of
pair_is h l v e =
    whether (is_pair h l)
    (λ y. let q : Some (pair_byte h l) ≡ Some v = rw y at e in let k : pair_byte h l ≡ v = cc in pair_read h l v y k)
    (λ n. let z : None ≡ Some v = rw n at e in let y : ◌≡◌ {A = ℕ} 0 1 = cc in absurd (omega arith))

too_long : (h l m : ℕ) (rest : List ℕ) (v : ℕ) → ¬ (pair_field (h ∷ l ∷ m ∷ rest) ≡ Some v)
unfolding pair_field
too_long h l m rest v e =
    let z : None ≡ Some v = rw (ne_eqb (suc (suc (suc (length rest)))) 2 (λ q. omega arith)) at e in
    let y : ◌≡◌ {A = ℕ} 0 1 = cc in
    omega arith

-- a field is the byte v if and only if it is the upper-case hexadecimal pair of v
pub byte_exactly : (field : List ℕ) (v : ℕ) → (pair_field field ≡ Some v) ↔ ((v < 256) × (field ≡ pair_of v))
unfolding pair_field byte_of
byte_exactly field v = (to field, λ h. ap pair_field h.1 ∙ pair_right v h.0)
  where
    to : (field : List ℕ) → pair_field field ≡ Some v → (v < 256) × (field ≡ pair_of v)
    to [] e = let z : ◌≡◌ {A = ℕ} 0 1 = cc in absurd (omega arith)
    to (h ∷ []) e = let z : ◌≡◌ {A = ℕ} 0 1 = cc in absurd (omega arith)
    to (h ∷ l ∷ []) e = pair_is h l v e
    to (h ∷ l ∷ m ∷ rest) e = absurd (too_long h l m rest v e)
