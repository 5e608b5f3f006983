-- The table check in the papers' words (proofs/InWords): it accepts exactly the tables of the right length of which every word is
-- right and every signal
-- has a placement, and
-- refuses at exactly the first position at which a word is wrong, missing or surplus.
use Prim.Native.Nat.{ℕ, zero, suc, ◌+◌, ◌-◌, ◌*◌, ◌/◌, ◌%◌, ◌≤◌, ◌<◌}
use mathlib.Core.Path.{◌≡◌, refl, sym, ◌∙◌, ap, subst}
use mathlib.Core.Bool.{Bool, true, false}
use mathlib.Core.List.{List}
use mathlib.Core.Logic.{◌↔◌, ◌⊎◌, inl, inr, ⊎_elim}
use native.Mathlib.Decide.{ℕ_discrete}
use native.Mathlib.Omega.{arith}
use lib.ListN.{length, length-append, get_or}
use Rattle.refusal.specs.declared.Refusal.{Refusal}
use Rattle.wire.proofs.Tests.{whether}
use Rattle.signal.proofs.Inside.{order}
use Rattle.cluster.specs.Check.{judged}
use Rattle.cluster.specs.Right.{all_placed, words_right}
use Rattle.cluster.specs.Table.{word, frame_count, signal_count, placement_count, member_count, entry_count, size}
use Rattle.cluster.proofs.Accepted.{exact, all_placed_lem, words, front_words, unplaced_words}
use Rattle.cluster.proofs.FirstFault.{FirstFault, AtFault, first_fault, words_right_lem, all_right}
use Rattle.cluster.proofs.InWords.{F, S, M, E, P, signals_at, placements_at, members_at, entries_at, words_due}
use Rattle.cluster.proofs.InWords.{SignalSays, EachPlaced, RightAt, Wrong, Missing, Surplus, Unplaced, FirstWrong}
use Rattle.cluster.proofs.WordsExactly.{Before}
use Rattle.cluster.proofs.WordsExactly.{frames_word, signals_word, members_word, entries_word, placements_word, identifier_word_lem}
use Rattle.cluster.proofs.WordsExactly.{length_word_lem, flags_word_lem}
use Rattle.cluster.proofs.WordsExactly.{kind_word_lem, width_word_lem, start_word_lem, signal_word_lem, frame_word_lem, offset_word_lem}
use Rattle.cluster.proofs.WordsExactly.{placed_exactly, unplaced_word, list_word_lem, member_word_lem}
use Rattle.cluster.proofs.WordsExactly.{schedule_word_lem, entry_kind_word_lem, target_word_lem, delay_word_lem}
use Rattle.std.specs.Prelude.{Ok, Err}
use Rattle.cluster.specs.Check.{Verdict}

-- a number below five, by its value
five : {A : Type 0} (i : ℕ) → i < 5 → (i ≡ 0 → A) → (i ≡ 1 → A) → (i ≡ 2 → A) → (i ≡ 3 → A) → (i ≡ 4 → A) → A
five zero h a b c d e = a refl
five (suc zero) h a b c d e = b refl
five (suc (suc zero)) h a b c d e = c refl
five (suc (suc (suc zero))) h a b c d e = d refl
five (suc (suc (suc (suc zero)))) h a b c d e = e refl
five (suc (suc (suc (suc (suc i))))) h a b c d e = absurd (omega arith)

module _ (t : List ℕ) (d : Bool) (p : ℕ) (before : Before t p) where
  abbrev Test : Type 0
  Test = get_or (words_right t) p d ≡ true

  -- behind the placements: each signal has one
  signals_right : members_at t ≤ p → (k : ℕ) → k < P t → SignalSays t k
  signals_right b k h = (before (placements_at t + 3 * k) (omega arith)).signal k h refl

  passed : members_at t ≤ p → Test → all_placed t ≡ true
  passed b y =
      order (members_at t) p
      (λ l. (placed_exactly t d (signals_right b)).1 ((before (members_at t) l).placed refl))
      (λ l. unplaced_word t d p (omega arith) y)

  test_right : Test → RightAt t p
  test_right y = record {
    frames = λ e. (frames_word t d p e).0 y;
    signals = λ e. (signals_word t d p e).0 y;
    members = λ e. (members_word t d p e).0 y;
    entries = λ e. (entries_word t d p e).0 y;
    placements = λ e. (placements_word t d p e).0 y;
    identifier = λ f h e. (identifier_word_lem t d f h p e).0 y;
    length = λ f h e. (length_word_lem t d f h p e).0 y;
    flags = λ f h e. (flags_word_lem t d f h p e).0 y;
    kind = λ s h e. (kind_word_lem t d s h p e).0 y;
    width = λ s h e. (width_word_lem t d s h p before e).0 y;
    start = λ s h e. (start_word_lem t d s h p before e).0 y;
    signal = λ k h e. (signal_word_lem t d k h p e).0 y;
    frame = λ k h e. (frame_word_lem t d k h p e).0 y;
    offset = λ k h e. (offset_word_lem t d k h p before (sym e)).0 y;
    placed = λ e. (placed_exactly t d (signals_right (omega arith))).0 (passed (omega arith) y);
    list = λ m h e. (list_word_lem t d (passed (omega arith) y) m h p e).0 y;
    member = λ m h e. (member_word_lem t d (passed (omega arith) y) m h p e).0 y;
    schedule = λ n h e. (schedule_word_lem t d (passed (omega arith) y) n h p e).0 y;
    entry_kind_lem = λ n h e. (entry_kind_word_lem t d (passed (omega arith) y) n h p e).0 y;
    target = λ n h e. (target_word_lem t d (passed (omega arith) y) n h p before e).0 y;
    delay = λ n h e. (delay_word_lem t d (passed (omega arith) y) n h p e).0 y;
  }

  -- by the section that the position stands in
  module _ (right : RightAt t p) where
    in_header : p < 5 → Test
    in_header b =
        five p b
        (λ e. (frames_word t d p e).1 (right.frames e))
        (λ e. (signals_word t d p e).1 (right.signals e))
        (λ e. (members_word t d p e).1 (right.members e))
        (λ e. (entries_word t d p e).1 (right.entries e))
        (λ e. (placements_word t d p e).1 (right.placements e))

    in_frames : 5 ≤ p → p < signals_at t → Test
    in_frames a b =
        let f = (p - 5) / 3 in
        let h : f < F t = omega arith in
        five ((p - 5) % 3) (omega arith)
        (λ i. let e : p ≡ 5 + 3 * f = omega arith in (identifier_word_lem t d f h p e).1 (right.identifier f h e))
        (λ i. let e : p ≡ 5 + 3 * f + 1 = omega arith in (length_word_lem t d f h p e).1 (right.length f h e))
        (λ i. let e : p ≡ 5 + 3 * f + 2 = omega arith in (flags_word_lem t d f h p e).1 (right.flags f h e))
        (λ i. absurd (omega arith))
        (λ i. absurd (omega arith))

    in_signals : signals_at t ≤ p → p < placements_at t → Test
    in_signals a b =
        let first = signals_at t in
        let s = (p - first) / 3 in
        let h : s < S t = omega arith in
        five ((p - first) % 3) (omega arith)
        (λ i. let e : p ≡ first + 3 * s = omega arith in (kind_word_lem t d s h p e).1 (right.kind s h e))
        (λ i. let e : p ≡ first + 3 * s + 1 = omega arith in (width_word_lem t d s h p before e).1 (right.width s h e))
        (λ i. let e : p ≡ first + 3 * s + 2 = omega arith in (start_word_lem t d s h p before e).1 (right.start s h e))
        (λ i. absurd (omega arith))
        (λ i. absurd (omega arith))

    in_placements : placements_at t ≤ p → p < members_at t → Test
    in_placements a b =
        let first = placements_at t in
        let k = (p - first) / 3 in
        let h : k < P t = omega arith in
        five ((p - first) % 3) (omega arith)
        (λ i. let e : p ≡ first + 3 * k = omega arith in (signal_word_lem t d k h p e).1 (right.signal k h e))
        (λ i. let e : p ≡ first + 3 * k + 1 = omega arith in (frame_word_lem t d k h p e).1 (right.frame k h e))
        (λ i. let e : p ≡ first + 3 * k + 2 = omega arith in (offset_word_lem t d k h p before (sym e)).1 (right.offset k h e))
        (λ i. absurd (omega arith))
        (λ i. absurd (omega arith))

    all : members_at t ≤ p → all_placed t ≡ true
    all b =
        (placed_exactly t d (signals_right b)).1
        (order (members_at t) p (λ l. (before (members_at t) l).placed refl) (λ l. right.placed (omega arith)))

    in_members : members_at t ≤ p → p < entries_at t → Test
    in_members a b =
        let first = members_at t in
        let m = (p - first) / 2 in
        let h : m < M t = omega arith in
        five ((p - first) % 2) (omega arith)
        (λ i. let e : p ≡ first + 2 * m = omega arith in (list_word_lem t d (all a) m h p e).1 (right.list m h e))
        (λ i. let e : p ≡ first + 2 * m + 1 = omega arith in (member_word_lem t d (all a) m h p e).1 (right.member m h e))
        (λ i. absurd (omega arith))
        (λ i. absurd (omega arith))
        (λ i. absurd (omega arith))

    in_entries : entries_at t ≤ p → p < words_due t → Test
    in_entries a b =
        let first = entries_at t in
        let n = (p - first) / 4 in
        let h : n < E t = omega arith in
        let placed = all (omega arith) in
        five ((p - first) % 4) (omega arith)
        (λ i. let e : p ≡ first + 4 * n = omega arith in (schedule_word_lem t d placed n h p e).1 (right.schedule n h e))
        (λ i. let e : p ≡ first + 4 * n + 1 = omega arith in (entry_kind_word_lem t d placed n h p e).1 (right.entry_kind_lem n h e))
        (λ i. let e : p ≡ first + 4 * n + 2 = omega arith in (target_word_lem t d placed n h p before e).1 (right.target n h e))
        (λ i. let e : p ≡ first + 4 * n + 3 = omega arith in (delay_word_lem t d placed n h p e).1 (right.delay n h e))
        (λ i. absurd (omega arith))

    right_test_lem : p < words_due t → Test
    right_test_lem b =
        order p 5 in_header
        (λ a1. order p (signals_at t) (in_frames a1)
        (λ a2. order p (placements_at t) (in_signals a2)
        (λ a3. order p (members_at t) (in_placements a3)
        (λ a4. order p (entries_at t) (in_members a4)
        (λ a5. in_entries a5 b)))))

  -- the word at a position, behind words that are right, is right by the definition exactly where the paper's sentence holds
  pub word_exactly : p < words_due t → (get_or (words_right t) p d ≡ true) ↔ RightAt t p
  word_exactly b = (test_right, λ right. right_test_lem right b)

same_refusal : (r s : Refusal) → r.number ≡ s.number → r.place ≡ s.place → r ≡ s
same_refusal r s n p =
    let e : ◌≡◌ {A = Refusal} (record { number = r.number; place = r.place }) (record { number = s.number; place = s.place }) = rw (n, p) in e

module _ (t : List ℕ) where
  due_words : size t ≡ words_due t
  unfolding size frame_count signal_count placement_count member_count entry_count word
  due_words = refl

  -- words that are right by the definition, one after another
  all_right_at : (n : ℕ) → ((j : ℕ) → j < n → get_or (words_right t) j false ≡ true) → Before t n
  all_right_at zero tests j b = absurd (omega arith)
  all_right_at (suc n) tests j b =
      let before : Before t n = all_right_at n (λ i l. tests i (omega arith)) in
      elim (ℕ_discrete j n) [
        | yes p ↦ subst (RightAt t) (sym p) (test_right t false n before (tests n (omega arith)))
        | no p ↦ before j (omega arith)
      ]

  -- "The table check accepts" exactly the tables of which the length and every word is right
  pub accepted_exactly : (judged t ≡ Ok tt)
      ↔ ((length t ≡ 5 + 3 * F t + 3 * S t + 3 * P t + 2 * M t + 4 * E t) × EachPlaced t × ((p : ℕ) → p < length t → RightAt t p))
  accepted_exactly = (
    (λ ok.
        let l : length t ≡ size t = exact t ok in
        let right : Before t (size t) = all_right_at (size t) (λ j h. words_right_lem t ok j h) in (
          l ∙ due_words,
          (placed_exactly t false (λ k h. (right (placements_at t + 3 * k) (omega (arith, due_words))).signal k h refl)).0 (all_placed_lem t ok),
          λ p b. right p (omega arith),
        )),
    (λ w.
        let right : (p : ℕ) → p < size t → RightAt t p = (λ p b. w.2 p (omega (arith, due_words))) in
        all_right t (w.0 ∙ sym due_words)
        ((placed_exactly t false (λ k h. (right (placements_at t + 3 * k) (omega (arith, due_words))).signal k h refl)).1 w.1)
        (λ j b. right_test_lem t true j (λ i h. right i (omega arith)) (right j b) (omega (arith, due_words)))),
  )

  -- ---- the first position that is wrong

  -- behind right words each signal has a placement exactly where the definition says so
  placed_at : (p : ℕ) → Before t p → members_at t ≤ p → (all_placed t ≡ true) ↔ EachPlaced t
  placed_at p before b = placed_exactly t false (λ k h. (before (placements_at t + 3 * k) (omega arith)).signal k h refl)

  -- there are tests for the words that are due, or up to the place behind the placements where one is missing
  tests_due : (p : ℕ) → Before t p → p < length (words_right t) → (p < words_due t) ⊎ Unplaced t p
  unfolding frame_count signal_count placement_count member_count entry_count word
  tests_due p before b =
      whether (all_placed t)
      (λ h. inl (omega (arith, words t h, due_words)))
      (λ h. let l : length (words_right t) ≡ members_at t + 1 = rw (unplaced_words t h, length-append) (omega (arith, front_words t)) in
      order p (members_at t)
      (λ q. inl (omega arith))
      (λ q. inr (
        omega arith,
        λ each.
            let z : ◌≡◌ {A = Bool} true false = sym ((placed_at p before q).1 each) ∙ h in
            let n : ◌≡◌ {A = ℕ} 0 1 = cc in omega arith,
      )))

  to_words : (r : Refusal) → FirstFault t r → FirstWrong t r.place
  to_words r f =
      let p = r.place in
      let before : Before t p = all_right_at p (λ j b. (f.before j b).2) in
      record {
        before = λ j b. (
          (f.before j b).0,
          due before j b,
          before j b,
        );
        there = by before f.fault;
      }
    where
      due : Before t r.place → (j : ℕ) → j < r.place → j < words_due t
      due before j b =
          ⊎_elim
          (λ d. d)
          (λ u. absurd (u.1 ((before j b).placed u.0)))
          (tests_due j (λ i l. before i (omega arith)) (f.before j b).1)

      wrong_or_not : Before t r.place → r.place < words_due t → get_or (words_right t) r.place true ≡ false
          → Wrong t r.place ⊎ Missing t r.place ⊎ Surplus t r.place ⊎ Unplaced t r.place
      wrong_or_not before d w =
          order r.place (length t)
          (λ b. inl (
            d,
            b,
            λ right.
                let z : ◌≡◌ {A = Bool} true false = sym (right_test_lem t true r.place before right d) ∙ w in
                let n : ◌≡◌ {A = ℕ} 0 1 = cc in omega arith,
          ))
          (λ b. inr (inl (d, omega (arith, f.within))))

      by : Before t r.place → AtFault t r.place → Wrong t r.place ⊎ Missing t r.place ⊎ Surplus t r.place ⊎ Unplaced t r.place
      by before (inl m) = ⊎_elim (λ d. inr (inl (d, m.0))) (λ u. inr (inr (inr u))) (tests_due r.place before m.1)
      by before (inr (inr s)) = inr (inr (inl (s.0 ∙ due_words, s.1)))
      by before (inr (inl w)) = ⊎_elim (λ d. wrong_or_not before d w.1) (λ u. inr (inr (inr u))) (tests_due r.place before w.0)

  -- there is only one such position
  not_before : (p q : ℕ) → FirstWrong t p → FirstWrong t q → p < q → ⊥
  not_before p q v w b =
      let known = w.before p b in
      ⊎_elim
      (λ x. x.2 known.2)
      (⊎_elim (λ x. omega arith) (⊎_elim (λ x. omega arith) (λ x. x.1 (known.2.placed x.0))))
      v.there

  not_accepted : (p : ℕ) → FirstWrong t p → judged t ≡ Ok tt → ⊥
  not_accepted p w ok =
      let right = accepted_exactly.0 ok in
      ⊎_elim
      (λ x. x.2 (right.2 p x.1))
      (⊎_elim (λ x. omega arith) (⊎_elim (λ x. omega arith) (λ x. x.1 right.1)))
      w.there

  -- "or gives the position of the first word that is wrong, missing or surplus", with refusal 1
  pub refused_exactly : (r : Refusal) → (judged t ≡ Err r) ↔ ((r.number ≡ 1) × FirstWrong t r.place)
  refused_exactly r = (λ h. let f = first_fault t r h in (f.number, to_words r f), λ w. by (judged t) refl w.0 w.1)
    where
      by : (v : Verdict) → judged t ≡ v → r.number ≡ 1 → FirstWrong t r.place → v ≡ Err r
      by (Ok tt) e n w = absurd (not_accepted r.place w e)
      by (Err s) e n w =
          let f = first_fault t s e in
          let v = to_words s f in
          let p : s.place ≡ r.place =
          order s.place r.place
          (λ b. absurd (not_before s.place r.place v w b))
          (λ b. order r.place s.place (λ c. absurd (not_before r.place s.place w v c)) (λ c. omega arith)) in
          ap Err (same_refusal s r (f.number ∙ sym n) p)
