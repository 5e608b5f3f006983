-- The report in the paper's own words: one row for each line, numbered in decimal from 1, with the identifier or `--`.
use Rattle.std.proofs.Common.{◌≡◌, ℕ, zero, suc, ◌+◌, ◌-◌, ◌*◌, ◌/◌, ◌%◌, ◌^◌, ◌<◌, ◌≤◌, eqb, ltb, ◌⊎◌, ◌↔◌, List, [], ◌∷◌, ◌++◌, length, get_or, sym, refl, ap, ◌∙◌, inl, inr, ⊎_elim, div-lt_iff_lt-mul, pow-suc, arith, ltb-false, ltb-true, le-ltb, lt-ltb, eqb-true}
use borrow.Author.Tests.{eqb-false}
use Rattle.wire.proofs.Tests.{whether}
use Rattle.signal.proofs.Inside.{order}
use Rattle.wire.specs.Bits.{bit}
use Rattle.wire.specs.declared.checksum.Model.TheVariants.{Enhanced}
use Rattle.cluster.specs.Table as table
use Rattle.cluster.specs.Table.{frame_count, identifier, frame_length, frame_model, signal_count, member_count, entry_count, placement_count}
use Rattle.buslog.specs.declared.judge.Verdict.{Verdict}
use Rattle.buslog.specs.declared.judge.Verdict.TheVariants.{Text, Parity, Unknown, Length, Checksum, Ok}
use Rattle.buslog.specs.Pairs.{digit_character, pair_of, spelled}
use Rattle.buslog.specs.Verdict.{line_verdict}
use Rattle.buslog.specs.Row.{digits_of, decimal_of, shown_identifier, word, row_of, header}
use Rattle.buslog.specs.Lines.{log_lines}
use Rattle.buslog.specs.Report.{built_in, rows_of, report_of}
use Rattle.buslog.proofs.Decimal.{no_digits, one_digit, decimal}

-- ---- a number in decimal

-- characters `0` to `9`
abbrev pub Digits : List ℕ → Type 0
Digits [] = Unit {0}
Digits (c ∷ cs) = (48 ≤ c) × (c ≤ 57) × Digits cs

-- the number that some digits show, behind a number that others showed
abbrev pub shows : ℕ → List ℕ → ℕ
shows n [] = n
shows n (c ∷ cs) = shows (10 * n + (c - 48)) cs

-- the digits of a number in decimal: they show it, and the first is not 0 where the number is not
pub record Decimal (n : ℕ) (ds : List ℕ) : Type 0 where
  pub digits : Digits ds
  pub shown : shows 0 ds ≡ n
  pub no_0_first : 1 ≤ n → get_or ds 0 48 ≡ 48 → ⊥

digits_snoc : (cs : List ℕ) (c : ℕ) → Digits cs → 48 ≤ c → c ≤ 57 → Digits (cs ++ (c ∷ []))
digits_snoc [] c d l h = (l, h, tt)
digits_snoc (b ∷ cs) c d l h = (d.0, d.1, digits_snoc cs c d.2 l h)

shows_snoc : (n : ℕ) (cs : List ℕ) (c : ℕ) → shows n (cs ++ (c ∷ [])) ≡ 10 * shows n cs + (c - 48)
shows_snoc n [] c = refl
shows_snoc n (b ∷ cs) c = shows_snoc (10 * n + (b - 48)) cs c

leads_snoc : (cs : List ℕ) (c : ℕ) → (get_or cs 0 48 ≡ 48 → ⊥) → get_or (cs ++ (c ∷ [])) 0 48 ≡ 48 → ⊥
leads_snoc [] c h e = h refl
leads_snoc (b ∷ cs) c h e = h e

-- one digit more behind the digits of a tenth
decimal_snoc : (n : ℕ) (cs : List ℕ) → Digits cs → shows 0 cs ≡ n / 10 → (1 ≤ n / 10 → get_or cs 0 48 ≡ 48 → ⊥) → (n / 10 ≡ 0 → cs ≡ [])
    → Decimal n (cs ++ ((48 + n % 10) ∷ []))
decimal_snoc n cs d s lead none =
    record {
      digits = digits_snoc cs (48 + n % 10) d (omega arith) (omega arith);
      shown = omega (arith, shows_snoc 0 cs (48 + n % 10));
      no_0_first = (λ h. whether (eqb (n / 10) 0)
          (λ e. let z = eqb-true (n / 10) 0 e in rw (none z) (λ q. omega arith))
          (λ e. let z = eqb-false (n / 10) 0 e in leads_snoc cs (48 + n % 10) (lead (order (n / 10) 1 (λ l. absurd (z (omega arith))) (λ l. l)))));
    }

-- the digits of a number that k digits hold, with none for 0
digits_show : (k n : ℕ) → n < 10 ^ k → Digits (digits_of k n) × (shows 0 (digits_of k n) ≡ n) × (1 ≤ n → get_or (digits_of k n) 0 48 ≡ 48 → ⊥)
digits_show zero n h = let e : n ≡ 0 = omega arith in rw e (rw (no_digits 0) (tt, refl, (λ l. absurd (omega arith))))
digits_show (suc k) n h =
    order n 1
    (λ l. let e : n ≡ 0 = omega arith in rw e (rw (no_digits (suc k)) (tt, refl, (λ m. absurd (omega arith)))))
    (λ l.
    let b : n / 10 < 10 ^ k = (div-lt_iff_lt-mul {k = 10} {x = n} {y = 10 ^ k} (omega arith)).1 (rw pow-suc at h) in
    let r = digits_show k (n / 10) b in
    let d = decimal_snoc n (digits_of k (n / 10)) r.0 r.1 r.2 (λ e. rw e (no_digits k)) in
    rw (one_digit k n l) (d.digits, d.shown, d.no_0_first))

-- "line number (decimal, ..)": a number of 64 bits
pub decimal_exactly : (n : ℕ) → n < 2 ^ 64 → Decimal n (decimal_of n)
decimal_exactly n h =
    let r = digits_show 19 (n / 10) (omega arith) in
    rw (decimal n h) (decimal_snoc n (digits_of 19 (n / 10)) r.0 r.1 r.2 (λ e. rw e (no_digits 19)))

-- ---- the identifier and the word

-- a hexadecimal digit as a character, `0` to `9` and `A` to `F`
abbrev pub Character : ℕ → ℕ → Type 0
Character d c = ((d < 10) × (c ≡ 48 + d)) ⊎ ((10 ≤ d) × (c ≡ 55 + d))

character_exactly : (d c : ℕ) → (c ≡ digit_character d) ↔ Character d c
unfolding digit_character
character_exactly d c = (
  (λ e. whether (ltb d 10)
      (λ t. inl (ltb-true d 10 t, rw t at e))
      (λ t. inr (ltb-false d 10 t, rw t at e))),
  ⊎_elim (λ h. rw (lt-ltb d 10 h.0) h.1) (λ h. rw (le-ltb d 10 h.0) h.1),
)

-- "identifier as an upper-case hexadecimal pair"
pub pair_exactly : (id : ℕ) (cs : List ℕ) → (cs ≡ pair_of id) ↔ ((h l : ℕ) × (cs ≡ h ∷ l ∷ []) × Character (id / 16) h × Character (id % 16) l)
unfolding pair_of
pair_exactly id cs = (
  (λ e. (digit_character (id / 16), digit_character (id % 16), e, (character_exactly (id / 16) _).0 refl, (character_exactly (id % 16) _).0 refl)),
  (λ h. h.2 ∙ rw ((character_exactly (id / 16) h.0).1 h.3, (character_exactly (id % 16) h.1).1 h.4)),
)

pub identifier_shown : (id : ℕ) → (shown_identifier (Unknown id) ≡ pair_of id) × (shown_identifier (Length id) ≡ pair_of id)
    × (shown_identifier (Checksum id) ≡ pair_of id) × (shown_identifier (Ok id) ≡ pair_of id)
unfolding shown_identifier
identifier_shown id = (refl, refl, refl, refl)

-- bytes are spelled as such pairs, with one space between
pub spelled_exactly : (b c : ℕ) (bs : List ℕ) → (spelled (b ∷ []) ≡ pair_of b) × (spelled (b ∷ c ∷ bs) ≡ pair_of b ++ (32 ∷ spelled (c ∷ bs)))
unfolding spelled
spelled_exactly b c bs = (refl, refl)

-- no pair is two dashes
no_dashes : (id : ℕ) → pair_of id ≡ 45 ∷ 45 ∷ [] → ⊥
no_dashes id e =
    let r = (pair_exactly id (45 ∷ 45 ∷ [])).0 (sym e) in
    let q = r.2 in
    let z : 45 ≡ r.0 = cc in
    ⊎_elim (λ h. omega arith) (λ h. omega arith) r.3

-- a verdict that shows a pair is neither text nor parity
never_dashes : (v : Verdict) (id : ℕ) → shown_identifier v ≡ pair_of id → (v ≡ Text) ⊎ (v ≡ Parity) → ⊥
unfolding shown_identifier
never_dashes v id e = ⊎_elim (λ q. no_dashes id (sym e ∙ ap shown_identifier q)) (λ q. no_dashes id (sym e ∙ ap shown_identifier q))

-- "Text and parity show `--`", and no other verdict does
pub dashes_exactly : (v : Verdict) → (shown_identifier v ≡ 45 ∷ 45 ∷ []) ↔ ((v ≡ Text) ⊎ (v ≡ Parity))
unfolding shown_identifier
dashes_exactly Text = ((λ e. inl refl), (λ e. refl))
dashes_exactly Parity = ((λ e. inr refl), (λ e. refl))
dashes_exactly (Unknown id) = ((λ e. absurd (no_dashes id e)), (λ q. absurd (never_dashes (Unknown id) id refl q)))
dashes_exactly (Length id) = ((λ e. absurd (no_dashes id e)), (λ q. absurd (never_dashes (Length id) id refl q)))
dashes_exactly (Checksum id) = ((λ e. absurd (no_dashes id e)), (λ q. absurd (never_dashes (Checksum id) id refl q)))
dashes_exactly (Ok id) = ((λ e. absurd (no_dashes id e)), (λ q. absurd (never_dashes (Ok id) id refl q)))

-- `text`, `parity`, `unknown`, `length`, `checksum`, `ok`
pub words : (id : ℕ) → (word Text ≡ 116 ∷ 101 ∷ 120 ∷ 116 ∷ [])
    × (word Parity ≡ 112 ∷ 97 ∷ 114 ∷ 105 ∷ 116 ∷ 121 ∷ [])
    × (word (Unknown id) ≡ 117 ∷ 110 ∷ 107 ∷ 110 ∷ 111 ∷ 119 ∷ 110 ∷ [])
    × (word (Length id) ≡ 108 ∷ 101 ∷ 110 ∷ 103 ∷ 116 ∷ 104 ∷ [])
    × (word (Checksum id) ≡ 99 ∷ 104 ∷ 101 ∷ 99 ∷ 107 ∷ 115 ∷ 117 ∷ 109 ∷ [])
    × (word (Ok id) ≡ 111 ∷ 107 ∷ [])
unfolding word
words id = (refl, refl, refl, refl, refl, refl)

-- `line id verdict`, and a newline
pub header_is : header ≡ 108 ∷ 105 ∷ 110 ∷ 101 ∷ 32 ∷ 105 ∷ 100 ∷ 32 ∷ 118 ∷ 101 ∷ 114 ∷ 100 ∷ 105 ∷ 99 ∷ 116 ∷ 10 ∷ []
unfolding header
header_is = refl

-- "Its built-in table has one frame: identifier 2, length 1, enhanced", and no signals, members and entries
pub built_in_exactly : (frame_count built_in ≡ 1) × (identifier built_in 0 ≡ 2) × (frame_length built_in 0 ≡ 1) × (frame_model built_in 0 ≡ Enhanced)
    × (signal_count built_in ≡ 0) × (member_count built_in ≡ 0) × (entry_count built_in ≡ 0) × (placement_count built_in ≡ 0)
unfolding built_in table.word frame_count identifier frame_length table.flags table.classic bit signal_count member_count entry_count placement_count
built_in_exactly = (refl, refl, refl, refl, refl, refl, refl, refl)

-- ---- the rows

-- a row: the number, the identifier and the verdict's word with a space between, and a newline
pub record Row (n : ℕ) (v : Verdict) (row : List ℕ) : Type 0 where
  pub number : List ℕ
  pub decimal : Decimal n number
  pub laid : row ≡ number ++ (32 ∷ shown_identifier v ++ (32 ∷ word v ++ (10 ∷ [])))

row_is : (n : ℕ) (v : Verdict) → n < 2 ^ 64 → Row n v (row_of n v)
unfolding row_of
row_is n v h = record { number = decimal_of n; decimal = decimal_exactly n h; laid = refl }

-- some texts one behind the other
abbrev pub behind_each_other : List (List ℕ) → List ℕ
behind_each_other [] = []
behind_each_other (r ∷ rs) = r ++ behind_each_other rs

module _ (t : List ℕ) where
  row_list : ℕ → List (List ℕ) → List (List ℕ)
  row_list n [] = []
  row_list n (l ∷ ls) = row_of n (line_verdict t l) ∷ row_list (n + 1) ls

  rows_laid : (n : ℕ) (ls : List (List ℕ)) → rows_of t n ls ≡ behind_each_other (row_list n ls)
  unfolding rows_of row_list
  rows_laid n [] = refl
  rows_laid n (l ∷ ls) = ap (λ (rs : List ℕ). row_of n (line_verdict t l) ++ rs) (rows_laid (n + 1) ls)

  rows_count : (n : ℕ) (ls : List (List ℕ)) → length (row_list n ls) ≡ length ls
  unfolding row_list
  rows_count n [] = refl
  rows_count n (l ∷ ls) = ap suc (rows_count (n + 1) ls)

  row_at : (n : ℕ) (ls : List (List ℕ)) (i : ℕ) → i < length ls → get_or (row_list n ls) i [] ≡ row_of (n + i) (line_verdict t (get_or ls i []))
  unfolding row_list
  row_at n [] i h = absurd (omega arith)
  row_at n (l ∷ ls) zero h = let e : n + 0 ≡ n = omega arith in rw e
  row_at n (l ∷ ls) (suc i) h = let e : n + 1 + i ≡ n + suc i = omega arith in row_at (n + 1) ls i (omega arith) ∙ rw e

  -- the report is the header and one row for each line, text or not: the row of line i, counted from 1, has number i and that line's verdict
  pub report_rows : (log : List ℕ)
      → (rows : List (List ℕ)) × (report_of t log ≡ header ++ behind_each_other rows) × (length rows ≡ length (log_lines log))
      × ((i : ℕ) → 1 ≤ i → i ≤ length (log_lines log) → i < 2 ^ 64 → Row i (line_verdict t (get_or (log_lines log) (i - 1) [])) (get_or rows (i - 1) []))
  unfolding report_of
  report_rows log = (
    row_list 1 (log_lines log),
    rw (rows_laid 1 (log_lines log)),
    rows_count 1 (log_lines log),
    (λ i l h b.
        let e : 1 + (i - 1) ≡ i = omega arith in
        rw (row_at 1 (log_lines log) (i - 1) (omega arith), e) (row_is i (line_verdict t (get_or (log_lines log) (i - 1) [])) b)),
  )
