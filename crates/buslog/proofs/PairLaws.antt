-- A line is read exactly where it spells bytes: what is spelled is read back, and what is read was spelled so.
use Rattle.std.proofs.Common.{◌≡◌, ℕ, zero, suc, ◌+◌, ◌*◌, ◌/◌, ◌%◌, ◌<◌, ◌≤◌, true, ◌&&◌, eqb, ltb, leb, ◌↔◌, List, [], ◌∷◌, ◌++◌, length, sym, refl, ap, ◌∙◌, true≢false, arith, ltb-true, lt-ltb, eqb-true, le-leb, leb-true}
use Rattle.wire.specs.Bits.{Bytes}
use Rattle.wire.proofs.Tests.{and_left, and_right, whether}
use Rattle.buslog.specs.Pairs.{digit_of, is_pair, pair_byte, are_pairs, pair_bytes, longest_line, line_bytes, digit_character, pair_of, spelled}
use Rattle.buslog.proofs.Digits.{digit_back, character_back}

-- ---- one pair

module _ (b : ℕ) (h : b < 256) where
  high_back : digit_of (digit_character (b / 16)) ≡ b / 16
  high_back = digit_back (b / 16) (omega arith)

  low_back : digit_of (digit_character (b % 16)) ≡ b % 16
  low_back = digit_back (b % 16) (omega arith)

  pair_right : is_pair (digit_character (b / 16)) (digit_character (b % 16)) ≡ true
  unfolding is_pair
  pair_right = rw (high_back, low_back, lt-ltb (b / 16) 16 (omega arith), lt-ltb (b % 16) 16 (omega arith))

  pair_back : pair_byte (digit_character (b / 16)) (digit_character (b % 16)) ≡ b
  unfolding pair_byte
  pair_back = omega (arith, high_back, low_back)

module _ (h l : ℕ) (p : is_pair h l ≡ true) where
  high_digit : digit_of h < 16
  unfolding is_pair
  high_digit = ltb-true (digit_of h) 16 (and_left (ltb (digit_of h) 16) (ltb (digit_of l) 16) p)

  low_digit : digit_of l < 16
  unfolding is_pair
  low_digit = ltb-true (digit_of l) 16 (and_right (ltb (digit_of h) 16) (ltb (digit_of l) 16) p)

  byte_below : pair_byte h l < 256
  unfolding pair_byte
  byte_below = omega (arith, high_digit, low_digit)

  spelled_pair : pair_of (pair_byte h l) ≡ h ∷ l ∷ []
  unfolding pair_of pair_byte
  spelled_pair =
      let a : (16 * digit_of h + digit_of l) / 16 ≡ digit_of h = omega (arith, low_digit) in
      let b : (16 * digit_of h + digit_of l) % 16 ≡ digit_of l = omega (arith, low_digit) in
      rw (a, b, character_back h high_digit, character_back l low_digit)

last_pair : (h l : ℕ) → is_pair h l ≡ true → spelled (pair_byte h l ∷ []) ≡ h ∷ l ∷ []
unfolding spelled
last_pair h l e = spelled_pair h l e

-- ---- what is spelled

tail_bytes : (b : ℕ) (bs : List ℕ) → Bytes (b ∷ bs) → Bytes bs
tail_bytes b bs h i = h (suc i)

spelled_length : (b : ℕ) (bs : List ℕ) → length (spelled (b ∷ bs)) ≡ 3 * length bs + 2
unfolding spelled pair_of
spelled_length b [] = refl
spelled_length b (c ∷ bs) = omega (arith, spelled_length c bs)

spelled_pairs : (b : ℕ) (bs : List ℕ) → Bytes (b ∷ bs) → are_pairs (spelled (b ∷ bs)) ≡ true
unfolding spelled pair_of are_pairs
spelled_pairs b [] h = pair_right b (h 0)
spelled_pairs b (c ∷ bs) h = rw (pair_right b (h 0)) (spelled_pairs c bs (tail_bytes b (c ∷ bs) h))

spelled_bytes : (b : ℕ) (bs : List ℕ) → Bytes (b ∷ bs) → pair_bytes (spelled (b ∷ bs)) ≡ b ∷ bs
unfolding spelled pair_of pair_bytes
spelled_bytes b [] h = rw (pair_back b (h 0))
spelled_bytes b (c ∷ bs) h = rw (pair_back b (h 0), spelled_bytes c bs (tail_bytes b (c ∷ bs) h))

-- "1 to 10 pairs": what they spell is read back
pub spelled_read : (bs : List ℕ) → 1 ≤ length bs → length bs ≤ 10 → Bytes bs → line_bytes (spelled bs) ≡ bs
unfolding line_bytes
spelled_read [] l m h = absurd (omega arith)
spelled_read (b ∷ bs) l m h =
    rw (le-leb (length (spelled (b ∷ bs))) longest_line (omega (arith, spelled_length b bs)), spelled_pairs b bs h) (spelled_bytes b bs h)

-- ---- what is read

module _ (h l s : ℕ) (rest : List ℕ) (e : are_pairs (h ∷ l ∷ s ∷ rest) ≡ true) where
  here : is_pair h l ≡ true
  unfolding are_pairs
  here = and_left (is_pair h l) (eqb s 32 && are_pairs rest) e

  space : s ≡ 32
  unfolding are_pairs
  space = eqb-true s 32 (and_left (eqb s 32) (are_pairs rest) (and_right (is_pair h l) (eqb s 32 && are_pairs rest) e))

  further : are_pairs rest ≡ true
  unfolding are_pairs
  further = and_right (eqb s 32) (are_pairs rest) (and_right (is_pair h l) (eqb s 32 && are_pairs rest) e)

-- some pairs take three characters each, but for the last one's space
pairs_length : (line : List ℕ) → are_pairs line ≡ true → length line + 1 ≡ 3 * length (pair_bytes line)
unfolding are_pairs pair_bytes
pairs_length [] e = absurd (true≢false (sym e))
pairs_length (h ∷ []) e = absurd (true≢false (sym e))
pairs_length (h ∷ l ∷ []) e = refl
pairs_length (h ∷ l ∷ s ∷ rest) e = omega (arith, pairs_length rest (further h l s rest e))

pairs_bytes : (line : List ℕ) → are_pairs line ≡ true → Bytes (pair_bytes line)
unfolding are_pairs pair_bytes
pairs_bytes [] e i = absurd (true≢false (sym e))
pairs_bytes (h ∷ []) e i = absurd (true≢false (sym e))
pairs_bytes (h ∷ l ∷ []) e zero = byte_below h l e
pairs_bytes (h ∷ l ∷ []) e (suc i) = omega arith
pairs_bytes (h ∷ l ∷ s ∷ rest) e zero = byte_below h l (here h l s rest e)
pairs_bytes (h ∷ l ∷ s ∷ rest) e (suc i) = pairs_bytes rest (further h l s rest e) i

one_more : (b : ℕ) (bs : List ℕ) → 1 ≤ length bs → spelled (b ∷ bs) ≡ pair_of b ++ (32 ∷ spelled bs)
unfolding spelled
one_more b [] h = absurd (omega arith)
one_more b (c ∷ bs) h = refl

pairs_spelled : (line : List ℕ) → are_pairs line ≡ true → spelled (pair_bytes line) ≡ line
unfolding are_pairs pair_bytes
pairs_spelled [] e = absurd (true≢false (sym e))
pairs_spelled (h ∷ []) e = absurd (true≢false (sym e))
pairs_spelled (h ∷ l ∷ []) e = last_pair h l e
pairs_spelled (h ∷ l ∷ s ∷ rest) e =
    one_more (pair_byte h l) (pair_bytes rest) (omega (arith, pairs_length rest (further h l s rest e)))
    ∙ rw (spelled_pair h l (here h l s rest e), pairs_spelled rest (further h l s rest e), space h l s rest e)

-- a line that is no text spells the bytes that are read
pub record Spells (line bs : List ℕ) : Type 0 where
  pub spelling : line ≡ spelled bs
  pub most : length bs ≤ 10
  pub each : Bytes bs

pub read_spells : (line : List ℕ) → 1 ≤ length (line_bytes line) → Spells line (line_bytes line)
unfolding line_bytes
read_spells line h =
    whether (leb (length line) longest_line && are_pairs line)
    (λ e.
    let p = and_right (leb (length line) longest_line) (are_pairs line) e in
    let m = leb-true (length line) longest_line (and_left (leb (length line) longest_line) (are_pairs line) e) in
    rw e record {
      spelling = sym (pairs_spelled line p);
      most = omega (arith, pairs_length line p);
      each = pairs_bytes line p;
    })
    (λ e. absurd (omega (arith, simp e at h)))

nothing : (bs : List ℕ) → (1 ≤ length bs → ⊥) → bs ≡ []
nothing [] h = refl
nothing (b ∷ bs) h = absurd (h (omega arith))

-- so a line is text exactly where it spells no 1 to 10 bytes
pub text_exactly : (line : List ℕ) → (line_bytes line ≡ []) ↔ ((bs : List ℕ) → 1 ≤ length bs → Spells line bs → ⊥)
text_exactly line = (
  (λ e bs h s. omega (arith, ap length (sym (spelled_read bs h s.most s.each) ∙ ap line_bytes (sym s.spelling) ∙ e))),
  (λ none. nothing (line_bytes line) (λ h. none (line_bytes line) h (read_spells line h))),
)
