-- The six verdicts in the paper's own words: when each of them is given, by the bytes that the line spells.
use Rattle.std.proofs.Common.{◌≡◌, ℕ, ◌+◌, ◌%◌, ◌<◌, ◌≤◌, true, false, ◌||◌, eqb, ◌⊎◌, ◌↔◌, List, [], ◌∷◌, length, get_or, take, drop, sym, refl, ◌∙◌, inl, inr, ⊎_elim, add-one, arith, length-drop, eq-eqb, ne_eqb, eqb-true}
use native.Mathlib.Decide.{ℕ_discrete}
use Rattle.refusal.specs.declared.Refusal.{Refusal}
use Rattle.wire.specs.Identifier.{right_parity}
use Rattle.wire.specs.Checksum.{checksum_byte}
use Rattle.wire.specs.declared.checksum.Model.{Model}
use Rattle.wire.specs.declared.checksum.Model.TheVariants.{Classic}
use Rattle.wire.proofs.IdentifierExactly as wire
use Rattle.wire.proofs.Tests.{whether}
use Rattle.signal.proofs.Inside.{order}
use Rattle.cluster.specs.Check.{RightTable, taken_of}
use Rattle.cluster.specs.Table.{frame_count, identifier, frame_length, frame_model}
use Rattle.cluster.specs.Check as checked
use Rattle.cluster.proofs.FrameLaws.{identifier_below}
use Rattle.cluster.proofs.Searching.{first_holds, first_least}
use Rattle.buslog.specs.declared.judge.Verdict.{Verdict}
use Rattle.buslog.specs.declared.judge.Verdict.TheVariants.{Text, Parity, Unknown, Length, Checksum, Ok}
use Rattle.buslog.specs.Pairs.{line_bytes}
use Rattle.buslog.specs.Verdict.{frame_with, known_verdict, identifier_verdict, bytes_verdict, line_verdict, answered, judge_of}
use Rattle.buslog.proofs.Judging.{other_length, right_sum, other_sum, diagnostic, listed, unlisted, no_bytes, by_bytes}
use Rattle.buslog.proofs.PairLaws.{Spells, spelled_read, read_spells, text_exactly}
use Rattle.buslog.proofs.VerdictLaws.{found}
use Rattle.std.specs.declared.result.Result.TheVariants as result

-- "60 and 61 are known with length 8", classic; another identifier where the table has a frame with it, with that frame's length and checksum
pub data Known (t : List ℕ) (id : ℕ) (n : ℕ) (wish : Model) : Type 0 where
  by_number_lem : (id ≡ 60) ⊎ (id ≡ 61) → n ≡ 8 → wish ≡ Classic → Known t id n wish
  by_table : (f : ℕ) → f < frame_count t → identifier t f ≡ id → n ≡ frame_length t f → wish ≡ frame_model t f → Known t id n wish

-- the line spells 1 to 10 bytes, and the first of them is a protected identifier with right parity
pub record Identified (line bs : List ℕ) (id : ℕ) : Type 0 where
  pub some : 1 ≤ length bs
  pub spells : Spells line bs
  pub parity : wire.Parity (get_or bs 0 0)
  pub is : id ≡ get_or bs 0 0 % 64

-- when each verdict is given
abbrev pub When : List ℕ → List ℕ → Verdict → Type 0
When t line Text = (bs : List ℕ) → 1 ≤ length bs → Spells line bs → ⊥
When t line Parity = (bs : List ℕ) × (1 ≤ length bs) × Spells line bs × (wire.Parity (get_or bs 0 0) → ⊥)
When t line (Unknown id) =
    (bs : List ℕ) × Identified line bs id × (id ≡ 60 → ⊥) × (id ≡ 61 → ⊥) × ((f : ℕ) → f < frame_count t → identifier t f ≡ id → ⊥)
When t line (Length id) =
    (bs : List ℕ) × Identified line bs id × ((n : ℕ) × (wish : Model) × Known t id n wish × (length bs ≡ n + 2 → ⊥))
When t line (Checksum id) =
    (bs : List ℕ) × Identified line bs id
    × ((n : ℕ) × (wish : Model) × Known t id n wish × (length bs ≡ n + 2) × (get_or bs (n + 1) 0 ≡ checksum_byte id wish (take n (drop 1 bs)) → ⊥))
When t line (Ok id) =
    (bs : List ℕ) × Identified line bs id
    × ((n : ℕ) × (wish : Model) × Known t id n wish × (length bs ≡ n + 2) × (get_or bs (n + 1) 0 ≡ checksum_byte id wish (take n (drop 1 bs))))

-- ---- a known identifier

module _ (t : List ℕ) (right : RightTable t) (id : ℕ) (rest : List ℕ) where
  known : (n : ℕ) (wish : Model) → Known t id n wish → identifier_verdict t id rest ≡ known_verdict id n wish rest
  known n wish (by_number_lem e l w) =
      let d : (eqb id 60 || eqb id 61) ≡ true = ⊎_elim (λ q. rw q) (λ q. rw q) e in
      rw (l, w) (sym (diagnostic t id rest d))
  known n wish (by_table f h e l w) =
      let b = identifier_below t right f h in
      let d : (eqb id 60 || eqb id 61) ≡ false = rw (ne_eqb id 60 (λ q. omega arith), ne_eqb id 61 (λ q. omega arith)) in
      sym (listed t id rest d f n wish (rw e at (sym (found t right f h))) h l w)

  unknown : (id ≡ 60 → ⊥) → (id ≡ 61 → ⊥) → ((f : ℕ) → f < frame_count t → identifier t f ≡ id → ⊥) → identifier_verdict t id rest ≡ Unknown id
  unfolding frame_with
  unknown a b none =
      let d : (eqb id 60 || eqb id 61) ≡ false = rw (ne_eqb id 60 a, ne_eqb id 61 b) in
      sym (unlisted t id rest d (frame_with t id) refl
      (order (frame_with t id) (frame_count t)
      (λ l. absurd (none (frame_with t id) l (eqb-true _ _ (first_holds (λ f. eqb (identifier t f) id) 0 (frame_count t) (omega arith)))))
      (λ l. l)))

  -- an identifier is known, or it is not
  known_or_not : {A : Type 0} → ((n : ℕ) (wish : Model) → Known t id n wish → A)
      → ((id ≡ 60 → ⊥) → (id ≡ 61 → ⊥) → ((f : ℕ) → f < frame_count t → identifier t f ≡ id → ⊥) → A) → A
  unfolding frame_with
  known_or_not yes-case no-case =
      elim (ℕ_discrete id 60) [
        | yes p ↦ yes-case 8 Classic (by_number_lem (inl p) refl refl)
        | no p ↦ elim (ℕ_discrete id 61) [
          | yes q ↦ yes-case 8 Classic (by_number_lem (inr q) refl refl)
          | no q ↦ order (frame_with t id) (frame_count t)
              (λ l. yes-case (frame_length t (frame_with t id)) (frame_model t (frame_with t id))
              (by_table (frame_with t id) l (eqb-true _ _ (first_holds (λ f. eqb (identifier t f) id) 0 (frame_count t) (omega arith))) refl refl))
              (λ l. no-case p q (λ f h e. omega (arith, first_least (λ g. eqb (identifier t g) id) 0 (frame_count t) f (omega arith) (eq-eqb _ _ e))))
        ]
      ]

-- ---- a line

module _ (t line : List ℕ) where
  -- the bytes that a line spells are judged
  spelled_verdict : (bs : List ℕ) → 1 ≤ length bs → Spells line bs → line_verdict t line ≡ bytes_verdict t bs
  spelled_verdict bs l s =
      sym (by_bytes t line bs (rw (← s.spelling) at (sym (spelled_read bs l s.most s.each))))

  parity_of : (bs : List ℕ) → Spells line bs → (right_parity (get_or bs 0 0) ≡ true) ↔ wire.Parity (get_or bs 0 0)
  parity_of bs s = wire.parity_exactly (get_or bs 0 0) (s.each 0)

  wrong_first : (bs : List ℕ) → 1 ≤ length bs → right_parity (get_or bs 0 0) ≡ false → bytes_verdict t bs ≡ Parity
  unfolding bytes_verdict
  wrong_first [] l e = absurd (omega arith)
  wrong_first (p ∷ rest) l e = rw e

  right_first : (bs : List ℕ) → 1 ≤ length bs → right_parity (get_or bs 0 0) ≡ true → bytes_verdict t bs ≡ identifier_verdict t (get_or bs 0 0 % 64) (drop 1 bs)
  unfolding bytes_verdict
  right_first [] l e = absurd (omega arith)
  right_first (p ∷ rest) l e = rw e

  identified : (bs : List ℕ) (id : ℕ) → Identified line bs id → line_verdict t line ≡ identifier_verdict t id (drop 1 bs)
  identified bs id i =
      spelled_verdict bs i.some i.spells
      ∙ right_first bs i.some ((parity_of bs i.spells).1 i.parity)
      ∙ rw i.is

  wrong_parity : (bs : List ℕ) → 1 ≤ length bs → Spells line bs → (wire.Parity (get_or bs 0 0) → ⊥) → line_verdict t line ≡ Parity
  wrong_parity bs l s n =
      spelled_verdict bs l s
      ∙ whether (right_parity (get_or bs 0 0)) (λ e. absurd (n ((parity_of bs s).0 e))) (wrong_first bs l)

  no_text : (bs : List ℕ) → bs ≡ line_bytes line → 1 ≤ length bs → Spells line bs
  no_text bs e l = rw e (read_spells line (rw (← e) l))

behind : (bs : List ℕ) (n : ℕ) → get_or bs (n + 1) 0 ≡ get_or (drop 1 bs) n 0
behind [] n = refl
behind (b ∷ bs) n = rw (add-one n)

module _ (t : List ℕ) (right : RightTable t) (line bs : List ℕ) (id : ℕ) (i : Identified line bs id) (n : ℕ) (wish : Model) (k : Known t id n wish) where
  judged : line_verdict t line ≡ known_verdict id n wish (drop 1 bs)
  judged = identified t line bs id i ∙ known t right id (drop 1 bs) n wish k

  rest_length : length (drop 1 bs) + 1 ≡ length bs
  rest_length = omega (arith, length-drop 1 bs, i.some)

  gives_length : (length bs ≡ n + 2 → ⊥) → line_verdict t line ≡ Length id
  gives_length h = judged ∙ sym (other_length id n wish (drop 1 bs) (λ e. h (omega (arith, rest_length))))

  gives_ok : length bs ≡ n + 2 → get_or bs (n + 1) 0 ≡ checksum_byte id wish (take n (drop 1 bs)) → line_verdict t line ≡ Ok id
  gives_ok l e = judged ∙ sym (right_sum id n wish (drop 1 bs) _ (omega (arith, rest_length)) refl (sym (behind bs n) ∙ e))

  gives_checksum : length bs ≡ n + 2 → (get_or bs (n + 1) 0 ≡ checksum_byte id wish (take n (drop 1 bs)) → ⊥) → line_verdict t line ≡ Checksum id
  gives_checksum l e =
      judged ∙ sym (other_sum id n wish (drop 1 bs) _ (omega (arith, rest_length)) refl (λ q. e (behind bs n ∙ q)))

  -- one of the three verdicts on a known identifier
  known_case : When t line (line_verdict t line)
  known_case =
      elim (ℕ_discrete (length bs) (n + 2)) [
        | yes l ↦ elim (ℕ_discrete (get_or bs (n + 1) 0) (checksum_byte id wish (take n (drop 1 bs)))) [
          | yes e ↦ rw (gives_ok l e) (bs, i, (n, wish, k, l, e))
          | no e ↦ rw (gives_checksum l e) (bs, i, (n, wish, k, l, e))
        ]
        | no l ↦ rw (gives_length l) (bs, i, (n, wish, k, l))
      ]

module _ (t : List ℕ) (right : RightTable t) (line : List ℕ) where
  gives_unknown : (bs : List ℕ) (id : ℕ) → Identified line bs id → (id ≡ 60 → ⊥) → (id ≡ 61 → ⊥)
      → ((f : ℕ) → f < frame_count t → identifier t f ≡ id → ⊥) → line_verdict t line ≡ Unknown id
  gives_unknown bs id i a b none = identified t line bs id i ∙ unknown t right id (drop 1 bs) a b none

  bytes_case : (bs : List ℕ) → 1 ≤ length bs → Spells line bs → When t line (line_verdict t line)
  bytes_case bs l s =
      whether (right_parity (get_or bs 0 0))
      (λ e.
      let id = get_or bs 0 0 % 64 in
      let i : Identified line bs id = record { some = l; spells = s; parity = (parity_of t line bs s).0 e; is = refl } in
      known_or_not t right id (drop 1 bs)
      (λ n wish k. known_case t right line bs id i n wish k)
      (λ a b none. rw (gives_unknown bs id i a b none) (bs, i, a, b, none)))
      (λ e.
      let n : (wire.Parity (get_or bs 0 0) → ⊥) =
      (λ p. let q = (parity_of t line bs s).1 p in let z : ◌≡◌ {A = ℕ} 0 1 = cc in omega arith) in
      rw (wrong_parity t line bs l s n) (bs, l, s, n))

  -- every line has its case
  every_case : When t line (line_verdict t line)
  every_case = by (line_bytes line) refl where
    by : (bs : List ℕ) → bs ≡ line_bytes line → When t line (line_verdict t line)
    by [] e = rw (sym (no_bytes t line (sym e))) ((text_exactly line).0 (sym e))
    by (b ∷ bs) e = bytes_case (b ∷ bs) (omega arith) (no_text t line (b ∷ bs) e (omega arith))

  gives : (v : Verdict) → When t line v → line_verdict t line ≡ v
  gives Text w = sym (no_bytes t line ((text_exactly line).1 w))
  gives Parity w = wrong_parity t line w.0 w.1 w.2 w.3
  gives (Unknown id) w = gives_unknown w.0 id w.1 w.2 w.3 w.4
  gives (Length id) w = let k = w.2 in gives_length t right line w.0 id w.1 k.0 k.1 k.2 k.3
  gives (Checksum id) w = let k = w.2 in gives_checksum t right line w.0 id w.1 k.0 k.1 k.2 k.3 k.4
  gives (Ok id) w = let k = w.2 in gives_ok t right line w.0 id w.1 k.0 k.1 k.2 k.3 k.4

  -- ---- each verdict, exactly when

  verdict_exactly : (v : Verdict) → (line_verdict t line ≡ v) ↔ When t line v
  verdict_exactly v = ((λ e. rw e at every_case), gives v)

  -- text: exactly where the line spells no 1 to 10 bytes
  pub text_given : (line_verdict t line ≡ Text) ↔ ((bs : List ℕ) → 1 ≤ length bs → Spells line bs → ⊥)
  text_given = verdict_exactly Text

  -- parity: exactly where the first byte that it spells has wrong parity
  pub parity_given : (line_verdict t line ≡ Parity) ↔ ((bs : List ℕ) × (1 ≤ length bs) × Spells line bs × (wire.Parity (get_or bs 0 0) → ⊥))
  parity_given = verdict_exactly Parity

  module _ (id : ℕ) where
    -- unknown: exactly where the parity is right, and the identifier is not 60, not 61 and not one of the table's
    pub unknown_given : (line_verdict t line ≡ Unknown id)
        ↔ ((bs : List ℕ) × Identified line bs id × (id ≡ 60 → ⊥) × (id ≡ 61 → ⊥) × ((f : ℕ) → f < frame_count t → identifier t f ≡ id → ⊥))
    unknown_given = verdict_exactly (Unknown id)

    -- length: exactly where the identifier is known with n data bytes, and the line has not n + 2 bytes
    pub length_given : (line_verdict t line ≡ Length id)
        ↔ ((bs : List ℕ) × Identified line bs id × ((n : ℕ) × (wish : Model) × Known t id n wish × (length bs ≡ n + 2 → ⊥)))
    length_given = verdict_exactly (Length id)

    -- checksum: exactly where the length is right, and the last byte is not the checksum of the data
    pub checksum_given : (line_verdict t line ≡ Checksum id)
        ↔ ((bs : List ℕ) × Identified line bs id
        × ((n : ℕ) × (wish : Model) × Known t id n wish × (length bs ≡ n + 2) × (get_or bs (n + 1) 0 ≡ checksum_byte id wish (take n (drop 1 bs)) → ⊥)))
    checksum_given = verdict_exactly (Checksum id)

    -- ok: exactly where it is
    pub ok_given : (line_verdict t line ≡ Ok id)
        ↔ ((bs : List ℕ) × Identified line bs id
        × ((n : ℕ) × (wish : Model) × Known t id n wish × (length bs ≡ n + 2) × (get_or bs (n + 1) 0 ≡ checksum_byte id wish (take n (drop 1 bs)))))
    ok_given = verdict_exactly (Ok id)

-- the judge gives the verdict under a table that is taken, and otherwise the table's refusal
module _ (t line : List ℕ) where
  pub judge_given : (v : Verdict) → (judge_of t line ≡ result.Ok v) ↔ ((taken_of t ≡ result.Ok tt) × (line_verdict t line ≡ v))
  unfolding judge_of answered
  judge_given v = ((λ e. by (taken_of t) refl e), (λ h. rw (h.0, ← h.1))) where
    by : (c : checked.Verdict) → taken_of t ≡ c → answered c (line_verdict t line) ≡ result.Ok v → (taken_of t ≡ result.Ok tt) × (line_verdict t line ≡ v)
    by (result.Ok tt) q e = (q, cc)
    by (result.Err r) q e = let z : ◌≡◌ {A = ℕ} 0 1 = cc in absurd (omega arith)

  pub judge_refused_exactly : (r : Refusal) → (judge_of t line ≡ result.Err r) ↔ (taken_of t ≡ result.Err r)
  unfolding judge_of answered
  judge_refused_exactly r = ((λ e. by (taken_of t) refl e), (λ h. rw h)) where
    by : (c : checked.Verdict) → taken_of t ≡ c → answered c (line_verdict t line) ≡ result.Err r → taken_of t ≡ result.Err r
    by (result.Ok tt) q e = let z : ◌≡◌ {A = ℕ} 0 1 = cc in absurd (omega arith)
    by (result.Err s) q e = cc
