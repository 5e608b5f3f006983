-- What reading a line comes to, pair by pair.
use Rattle.std.proofs.Common.{◌≡◌, ℕ, suc, ◌+◌, ◌*◌, ◌<◌, ◌≤◌, true, false, Option, Some, None, List, [], ◌∷◌, ◌++◌, length, sym, refl, ◌∙◌, arith, length-append, le-ltb, lt-ltb, eq-eqb, ne_eqb, le-leb}
use Rattle.std.proofs.Common.{Bool, ◌%◌, min, append-nil}
use mathlib.Core.Bool.{and-false}
use borrow.Author.Tests.{lt-leb, eqb-true, eqb-false}
use Rattle.std.proofs.Common.{eqb}
use Rattle.buslog.specs.Parts.{part_byte}
use lib.Seq.{append_snoc}
use Rattle.wire.proofs.Tests.{whether}
use Rattle.buslog.specs.Pairs.{digit_of, is_pair, byte_of, pair_byte, are_pairs, pair_bytes, line_bytes}

-- ---- one pair

module _ (h l : ℕ) where
  pub no_high : (digit_of h < 16 → ⊥) → byte_of h l ≡ None
  unfolding byte_of is_pair
  no_high n = simp (le-ltb (digit_of h) 16 (omega arith))

  pub no_low : (digit_of l < 16 → ⊥) → byte_of h l ≡ None
  unfolding byte_of is_pair
  no_low n = simp (le-ltb (digit_of l) 16 (omega arith), and-false)

  pub pair_there : {a b : ℕ} → (digit_of h < 16) × (a ≡ digit_of h) → (digit_of l < 16) × (b ≡ digit_of l) → byte_of h l ≡ Some (16 * a + b)
  unfolding byte_of is_pair pair_byte
  pair_there p q = rw (p.1, q.1) (simp (lt-ltb (digit_of h) 16 p.0, lt-ltb (digit_of l) 16 q.0))

  pub no_byte : byte_of h l ≡ None → is_pair h l ≡ false
  unfolding byte_of
  no_byte e = whether (is_pair h l) (λ t. let bad : ◌≡◌ {A = Option ℕ} (Some (pair_byte h l)) None = rw t at e in cc) (λ t. t)

  module _ {b : ℕ} (e : byte_of h l ≡ Some b) where
    pub is_pair_lem : is_pair h l ≡ true
    unfolding byte_of
    is_pair_lem = whether (is_pair h l) (λ t. t) (λ t. let bad : ◌≡◌ {A = Option ℕ} None (Some b) = rw t at e in cc)

    pub is_byte : b ≡ pair_byte h l
    unfolding byte_of
    is_byte = let q : ◌≡◌ {A = Option ℕ} (Some (pair_byte h l)) (Some b) = rw is_pair_lem at e in cc

-- ---- a line from a pair on

module _ (h l : ℕ) where
  pairs_wrong : (rest : List ℕ) → is_pair h l ≡ false → are_pairs (h ∷ l ∷ rest) ≡ false
  unfolding are_pairs
  pairs_wrong [] e = e
  pairs_wrong (s ∷ rest) e = rw e

  pairs_unspaced : (s : ℕ) (rest : List ℕ) → (s ≡ 32 → ⊥) → are_pairs (h ∷ l ∷ s ∷ rest) ≡ false
  unfolding are_pairs
  pairs_unspaced s rest e = rw (ne_eqb s 32 e) (and-false (is_pair h l))

  pairs_more : (s : ℕ) (rest : List ℕ) → is_pair h l ≡ true → s ≡ 32 → are_pairs (h ∷ l ∷ s ∷ rest) ≡ are_pairs rest
  unfolding are_pairs
  pairs_more s rest e q = rw (e, eq-eqb s 32 q)

-- each pair but the last takes three characters, and the last one two
pub uneven : (xs : List ℕ) → (length xs % 3 ≡ 2 → ⊥) → are_pairs xs ≡ false
unfolding are_pairs
uneven [] n = refl
uneven (h ∷ []) n = refl
uneven (h ∷ l ∷ []) n = absurd (n refl)
uneven (h ∷ l ∷ s ∷ rest) n = rw (uneven rest (λ e. n (omega arith)), and-false, and-false)

-- ---- the whole line

module _ (line : List ℕ) where
  pub is_text : are_pairs line ≡ false → line_bytes line ≡ []
  unfolding line_bytes
  is_text e = rw (e, and-false)

  pub too_long : 29 < length line → line_bytes line ≡ []
  unfolding line_bytes
  too_long h = rw (lt-leb (length line) 29 h)

  pub is_bytes_lem : length line ≤ 29 → are_pairs line ≡ true → line_bytes line ≡ pair_bytes line
  unfolding line_bytes
  is_bytes_lem h e = rw (le-leb (length line) 29 h, e)

-- ---- what is left of a line, three characters at a time

-- none at all is left, or pairs that go on
abbrev pub go_on : List ℕ → Bool
go_on [] = true
go_on (c ∷ cs) = are_pairs (c ∷ cs)

more : (xs : List ℕ) → 0 < length xs → go_on xs ≡ are_pairs xs
more [] h = absurd (omega arith)
more (x ∷ xs) h = refl

-- the line is what the bytes of the pairs passed and the rest make of it
pub record LeftPairs (line rest : List ℕ) (size : ℕ) (bytes : List ℕ) : Type 0 where
  pub three : size ≡ 3
  pub whole : 0 < length rest → length rest % 3 ≡ 2
  pub room : 3 * length bytes + length rest ≤ 30
  pub some : length rest ≡ 0 → 1 ≤ length bytes
  pub pairs : are_pairs line ≡ go_on rest
  pub front : pair_bytes line ≡ bytes ++ pair_bytes rest

pub pairs_begin : (line : List ℕ) → length line ≤ 29 → length line % 3 ≡ 2 → LeftPairs line line 3 []
pairs_begin line h e = record {
  three = refl;
  whole = λ k. e;
  room = omega arith;
  some = λ k. absurd (omega arith);
  pairs = sym (more line (omega arith));
  front = refl;
}

-- the next three characters, or the last two
module _ (line bytes : List ℕ) where
  by_none : (x rest : List ℕ) → LeftPairs line (x ++ rest) 3 bytes → length x ≡ min 3 (length (x ++ rest)) → 0 < length (x ++ rest)
      → part_byte x ≡ None → are_pairs line ≡ false
  unfolding part_byte
  by_none [] rest l e h q = absurd (omega arith)
  by_none (a ∷ []) rest l e h q =
      let p : 0 < suc (length rest) = omega arith in
      let w : suc (length rest) % 3 ≡ 2 = l.whole p in
      let m : 1 ≡ min 3 (suc (length rest)) = e in
      absurd (omega arith)
  by_none (a ∷ b ∷ []) rest l e h q = l.pairs ∙ pairs_wrong a b rest (no_byte a b q)
  by_none (a ∷ b ∷ s ∷ []) rest l e h q =
      whether (eqb s 32)
      (λ t. l.pairs ∙ pairs_wrong a b (s ∷ rest) (no_byte a b (rw t at q)))
      (λ t. l.pairs ∙ pairs_unspaced a b s rest (eqb-false s 32 t))
  by_none (a ∷ b ∷ s ∷ f ∷ x) rest l e h q = absurd (omega arith)

  by_pair : (x rest : List ℕ) (b : ℕ) → LeftPairs line (x ++ rest) 3 bytes → length x ≡ min 3 (length (x ++ rest)) → 0 < length (x ++ rest)
      → part_byte x ≡ Some b → LeftPairs line rest 3 (bytes ++ (b ∷ []))
  unfolding are_pairs pair_bytes part_byte
  by_pair [] rest b l e h q = absurd (omega arith)
  by_pair (a ∷ []) rest b l e h q =
      let p : 0 < suc (length rest) = omega arith in
      let w : suc (length rest) % 3 ≡ 2 = l.whole p in
      let m : 1 ≡ min 3 (suc (length rest)) = e in
      absurd (omega arith)
  by_pair (a ∷ c ∷ []) [] b l e h q = record {
    three = refl;
    whole = λ k. absurd (omega arith);
    room = omega (arith, l.room, length-append bytes (b ∷ []));
    some = λ k. omega (arith, length-append bytes (b ∷ []));
    pairs = l.pairs ∙ is_pair_lem a c q;
    front = l.front ∙ rw (is_byte a c q) (sym (append_snoc bytes (pair_byte a c) []));
  }
  by_pair (a ∷ c ∷ []) (d ∷ rest) b l e h q = absurd (omega arith)
  by_pair (a ∷ c ∷ d ∷ []) rest b l e h q =
      let p : 0 < suc (suc (suc (length rest))) = omega arith in
      let v : suc (suc (suc (length rest))) % 3 ≡ 2 = l.whole p in
      let w : length rest % 3 ≡ 2 = omega arith in
      let space : d ≡ 32 = whether (eqb d 32) (λ t. eqb-true d 32 t) (λ t. let bad : ◌≡◌ {A = Option ℕ} None (Some b) = rw t at q in cc) in
      let q2 : byte_of a c ≡ Some b = rw (eq-eqb d 32 space) at q in
      let o : 3 * length bytes + suc (suc (suc (length rest))) ≤ 30 = l.room in
      record {
        three = refl;
        whole = λ k. w;
        room = omega (arith, o, length-append bytes (b ∷ []));
        some = λ k. omega (arith, length-append bytes (b ∷ []));
        pairs = l.pairs ∙ pairs_more a c d rest (is_pair_lem a c q2) space ∙ sym (more rest (omega arith));
        front = l.front ∙ rw (is_byte a c q2) (sym (append_snoc bytes (pair_byte a c) (pair_bytes rest)));
      }
  by_pair (a ∷ c ∷ d ∷ f ∷ x) rest b l e h q = absurd (omega arith)

  module _ {rest : List ℕ} {size : ℕ} (l : LeftPairs line rest size bytes) (x after : List ℕ) (size2 : ℕ)
      (step : (size2 ≡ size) × ((rest ≡ x ++ after) × (length x ≡ min size (length rest)) × (0 < length rest))) where
    here : LeftPairs line (x ++ after) 3 bytes
    here = rw (step.1.0, l.three) at l

    taken : length x ≡ min 3 (length (x ++ after))
    taken = rw (step.1.0, l.three) at step.1.1

    left : 0 < length (x ++ after)
    left = rw step.1.0 at step.1.2

    pub no_pair : None ≡ part_byte x → line_bytes line ≡ []
    no_pair q = is_text line (by_none x after here taken left (sym q))

    pub room_left : length bytes < 10
    room_left = omega (arith, l.room, step.1.2)

    pub next_pair : {b : ℕ} → Some b ≡ part_byte x → LeftPairs line after size2 (bytes ++ (b ∷ []))
    next_pair {b} q = let z : size2 ≡ 3 = step.0 ∙ l.three in rw z (by_pair x after b here taken left (sym q))

  pub all_pairs : (rest : List ℕ) {size : ℕ} → LeftPairs line rest size bytes → length line ≤ 29 → length rest ≡ 0 → (1 ≤ length bytes) × (bytes ≡ line_bytes line)
  unfolding pair_bytes
  all_pairs [] l h e = (l.some refl, sym (is_bytes_lem line h l.pairs ∙ l.front ∙ append-nil bytes))
  all_pairs (c ∷ cs) l h e = absurd (omega arith)
