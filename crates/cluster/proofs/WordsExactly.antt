-- Each word of a table, behind words that are right: its test is true exactly where the paper's sentence about it holds.
use Prim.Native.Nat.{ℕ, ◌+◌, ◌-◌, ◌*◌, ◌%◌, ◌≤◌, ◌<◌}
use mathlib.Core.Path.{◌≡◌, refl, sym, ◌∙◌}
use mathlib.Core.Bool.{Bool, true, false, not, ◌&&◌, beq}
use mathlib.Core.List.{List}
use mathlib.Core.Logic.{◌↔◌}
use native.Mathlib.Omega.{arith}
use borrow.Author.Tests.{not-true, eqb-true, eqb-false, ne_eqb, ltb-false, le-ltb}
use lib.Dec.{ltb, eqb}
use lib.ListN.{get_or}
use Rattle.wire.proofs.Tests.{and_left, and_right, whether}
use Rattle.signal.proofs.Inside.{order}
use Rattle.cluster.specs.Columns.{header_columns, frame_columns, signal_columns, placement_columns, member_columns, entry_columns}
use Rattle.cluster.specs.Columns.{offset_right}
use Rattle.cluster.specs.Places.{place_of, places, covers}
use Rattle.cluster.specs.Right.{words_right, header_right, frame_right, signal_right, placement_right, all_placed, member_right}
use Rattle.cluster.specs.Right.{entry_right, earlier, counts_up}
use Rattle.cluster.specs.Right.{earlier_placement, again, mixed, sticks_out, occupied_before, overlaps}
use Rattle.cluster.specs.Table.{word, frame_count, signal_count, placement_count, member_count, entry_count, identifier, frame_length}
use Rattle.cluster.specs.Table.{flags, published}
use Rattle.cluster.specs.Table.{signal_kind, signal_width, signal_start, is_array, placed_signals, member_list, member_frame, list_count, counted}
use Rattle.cluster.specs.Table.{placement_signal, placement_frame, placement_offset, placement_width}
use Rattle.cluster.specs.Table.{entry_schedule, entry_kind, entry_target, entry_delay}
use Rattle.cluster.proofs.Any.{none_below, any_found, any_at, any_none}
use Rattle.cluster.proofs.ColumnsExactly.{le_exactly, lt_exactly, and_true, and_exactly, within_exactly, new_exactly, counts_exactly}
use Rattle.cluster.proofs.ColumnsExactly.{identifier_exactly, offset_exactly, width_exactly, start_exactly, target_exactly}
use Rattle.cluster.proofs.CountingUp.{up_below, up_each}
use Rattle.cluster.specs.Passed.{CountsUp}
use Rattle.cluster.proofs.EarlierPlacement.{same_test, none_earlier}
use Rattle.cluster.proofs.FieldLaws.{published_exactly}
use Rattle.cluster.proofs.InWords.{F, S, M, E, P, signals_at, placements_at, members_at, entries_at, identifier_word, length_word, flags_word}
use Rattle.cluster.proofs.InWords.{kind_word, width_word, start_word, signal_word, frame_word, offset_word, list_word, member_word}
use Rattle.cluster.proofs.InWords.{schedule_word, entry_kind_word, target_word, delay_word}
use Rattle.cluster.proofs.InWords.{CountsOn, NotEarlier, WidthSays, StartSays, SignalSays, EarlierOf, FrameSays, HasBit, OffsetSays, EachPlaced}
use Rattle.cluster.proofs.InWords.{MemberSays, TargetSays, RightAt}
use Rattle.cluster.proofs.Occupied.{covers_from, covered_from}
use Rattle.cluster.proofs.StickingOut.{out_is}
use Rattle.cluster.proofs.WordTests.{header_test, frame_test, signal_test, placement_test, unplaced_test, member_test, entry_test}

-- a test that is another one
by_test : {A : Type 0} {b c : Bool} → b ≡ c → (c ≡ true) ↔ A → (b ≡ true) ↔ A
by_test e w = (λ h. w.0 (sym e ∙ h), λ a. e ∙ w.1 a)

-- "existing list": where list numbers count up, the lists that there are, are those of the members
existing_list : (t : List ℕ) → CountsUp (member_list t) (member_count t) → (l : ℕ)
    → (l < list_count t) ↔ ((m : ℕ) × (m < member_count t) × (member_list t m ≡ l))
unfolding list_count
existing_list t up l = (
  up_each (member_list t) (member_count t) up l,
  (λ w. rw w.2 at (up_below (member_list t) (member_count t) up w.0 w.1)),
)

-- a frame that is not published
not_one : (t : List ℕ) (f : ℕ) → published t f ≡ false → flags_word t f % 2 ≡ 0
not_one t f n =
    whether (eqb (flags_word t f % 2) 1)
    (λ y. let z : ◌≡◌ {A = Bool} true false = sym ((published_exactly t f).1 (eqb-true (flags_word t f % 2) 1 y)) ∙ n in
    let q : ◌≡◌ {A = ℕ} 0 1 = cc in absurd (omega arith))
    (λ y. let q = eqb-false (flags_word t f % 2) 1 y in omega arith)

-- two frames have one publisher
publisher_exactly : (t : List ℕ) (f g : ℕ) → (not (beq (published t f) (published t g)) ≡ false) ↔ (flags_word t f % 2 ≡ flags_word t g % 2)
publisher_exactly t f g =
    let a = published_exactly t f in
    let b = published_exactly t g in (
      (λ h. let e = same_test (published t f) (published t g) h in
          whether (published t g)
          (λ y. omega (arith, a.0 (e ∙ y), b.0 y))
          (λ n. omega (arith, not_one t f (e ∙ n), not_one t g n))),
      (λ h. whether (published t f)
          (λ y. rw (y, b.1 (omega (arith, a.0 y))))
          (λ n. whether (published t g) (λ y. absurd (omega (arith, b.0 y, not_one t f n))) (λ z. rw (n, z)))),
    )

-- every word before position p is right
abbrev pub Before : List ℕ → ℕ → Type 0
Before t p = (j : ℕ) → j < p → RightAt t j

module _ (t : List ℕ) (d : Bool) where
  -- the word at position p is right by the definition
  abbrev Test : ℕ → Type 0
  Test p = get_or (words_right t) p d ≡ true

  -- ---- the header

  pub frames_word : (p : ℕ) → p ≡ 0 → Test p ↔ (F t ≤ 60)
  unfolding header_right header_columns frame_count word
  frames_word p e = by_test (rw e (header_test d t 0 (omega arith))) (le_exactly (F t) 60)

  pub signals_word : (p : ℕ) → p ≡ 1 → Test p ↔ (S t ≤ 256)
  unfolding header_right header_columns signal_count word
  signals_word p e = by_test (rw e (header_test d t 1 (omega arith))) (le_exactly (S t) 256)

  pub members_word : (p : ℕ) → p ≡ 2 → Test p ↔ (M t ≤ 60)
  unfolding header_right header_columns member_count word
  members_word p e = by_test (rw e (header_test d t 2 (omega arith))) (le_exactly (M t) 60)

  pub entries_word : (p : ℕ) → p ≡ 3 → Test p ↔ (E t ≤ 256)
  unfolding header_right header_columns entry_count word
  entries_word p e = by_test (rw e (header_test d t 3 (omega arith))) (le_exactly (E t) 256)

  pub placements_word : (p : ℕ) → p ≡ 4 → Test p ↔ (P t ≤ 512)
  unfolding header_right header_columns placement_count word
  placements_word p e = by_test (rw e (header_test d t 4 (omega arith))) (le_exactly (P t) 512)

  -- ---- a frame

  module _ (f : ℕ) (h : f < F t) where
    pub identifier_word_lem : (p : ℕ) → p ≡ 5 + 3 * f → Test p ↔ ((identifier_word t f ≤ 59) × NotEarlier (identifier_word t) f)
    unfolding frame_right frame_columns frame_count identifier word
    identifier_word_lem p e = by_test (frame_test d t f 0 p h (omega arith) (omega arith)) (identifier_exactly (identifier_word t) f)

    pub length_word_lem : (p : ℕ) → p ≡ 5 + 3 * f + 1 → Test p ↔ ((1 ≤ length_word t f) × (length_word t f ≤ 8))
    unfolding frame_right frame_columns frame_count frame_length word
    length_word_lem p e = by_test (frame_test d t f 1 p h (omega arith) e) (within_exactly 1 8 (length_word t f))

    pub flags_word_lem : (p : ℕ) → p ≡ 5 + 3 * f + 2 → Test p ↔ (flags_word t f ≤ 3)
    unfolding frame_right frame_columns frame_count flags word
    flags_word_lem p e = by_test (frame_test d t f 2 p h (omega arith) e) (le_exactly (flags_word t f) 3)

  -- ---- a signal

  module _ (s : ℕ) (h : s < S t) where
    pub kind_word_lem : (p : ℕ) → p ≡ signals_at t + 3 * s → Test p ↔ (kind_word t s ≤ 1)
    unfolding signal_right signal_columns frame_count signal_count signal_kind word
    kind_word_lem p e = by_test (signal_test d t s 0 p h (omega arith) (omega arith)) (le_exactly (kind_word t s) 1)

    module _ (p : ℕ) (before : Before t p) where
      kind_right : signals_at t + 3 * s < p → kind_word t s ≤ 1
      kind_right b = (before (signals_at t + 3 * s) b).kind s h refl

      pub width_word_lem : p ≡ signals_at t + 3 * s + 1 → Test p ↔ WidthSays t s
      unfolding signal_right signal_columns frame_count signal_count signal_kind signal_width word
      width_word_lem e =
          by_test (signal_test d t s 1 p h (omega arith) e) (width_exactly (kind_word t s) (width_word t s) (kind_right (omega arith)))

      pub start_word_lem : p ≡ signals_at t + 3 * s + 2 → Test p ↔ StartSays t s
      unfolding signal_right signal_columns frame_count signal_count signal_kind signal_width signal_start word
      start_word_lem e =
          by_test (signal_test d t s 2 p h (omega arith) e)
          (start_exactly (kind_word t s) (width_word t s) (start_word t s) (kind_right (omega arith)))

  -- ---- a placement

  module _ (k : ℕ) (h : k < P t) where
    pub signal_word_lem : (p : ℕ) → p ≡ placements_at t + 3 * k → Test p ↔ SignalSays t k
    unfolding placement_right placement_columns frame_count signal_count placement_count placement_signal word
    signal_word_lem p e =
        by_test (placement_test d t k 0 p h (omega arith) (omega arith))
        (and_exactly (counts_up (signal_word t) k) (ltb (signal_word t k) (S t)) (counts_exactly (signal_word t) k)
        (lt_exactly (signal_word t k) (S t)))

    -- no earlier placement of the signal has a property
    none_exactly : (test : ℕ → Bool) → (not (earlier_placement t k test) ≡ true) ↔ ((j : ℕ) → EarlierOf t k j → test j ≡ false)
    unfolding earlier_placement placement_signal frame_count signal_count word
    none_exactly test = (
      (λ y j e. none_earlier t k test (not-true (earlier_placement t k test) y) j e.0 e.1),
      (λ none. rw (any_none k (λ j. places t (placement_signal t k) j && test j) (λ j b. whether (places t (placement_signal t k) j)
          (λ y. rw y (none j (b, eqb-true (signal_word t j) (signal_word t k) y)))
          (λ z. rw z)))),
    )

    pub frame_word_lem : (p : ℕ) → p ≡ placements_at t + 3 * k + 1 → Test p ↔ FrameSays t k
    unfolding placement_right placement_columns again mixed frame_count signal_count placement_count placement_frame word
    frame_word_lem p e =
        let same : ℕ → Bool = (λ j. eqb (frame_word t j) (frame_word t k)) in
        let other : ℕ → Bool = (λ j. not (beq (published t (frame_word t j)) (published t (frame_word t k)))) in
        let new = none_exactly same in
        let one = none_exactly other in
        let inside = lt_exactly (frame_word t k) (F t) in
        let known = and_exactly (ltb (frame_word t k) (F t)) (not (earlier_placement t k same)) inside new in
        let all = and_exactly (ltb (frame_word t k) (F t) && not (earlier_placement t k same)) (not (earlier_placement t k other)) known one in
        by_test (placement_test d t k 1 p h (omega arith) e) (
          (λ y. let w = all.0 y in (
            w.0.0,
            (λ j b. eqb-false (frame_word t j) (frame_word t k) (w.0.1 j b)),
            (λ j b. (publisher_exactly t (frame_word t j) (frame_word t k)).0 (w.1 j b)),
          )),
          (λ w. all.1 (
            (w.0, λ j b. ne_eqb (frame_word t j) (frame_word t k) (w.1 j b)),
            λ j b. (publisher_exactly t (frame_word t j) (frame_word t k)).1 (w.2 j b),
          )),
        )

    module _ (p : ℕ) (before : Before t p) (e : placements_at t + 3 * k + 2 ≡ p) where
      -- what is known of the placements up to this one, and of their signals and frames
      signal_there : (j : ℕ) → j ≤ k → signal_word t j < S t
      signal_there j b = ((before (placements_at t + 3 * j) (omega arith)).signal j (omega arith) refl).1

      frame_there_lem : (j : ℕ) → j ≤ k → frame_word t j < F t
      frame_there_lem j b = ((before (placements_at t + 3 * j + 1) (omega arith)).frame j (omega arith) refl).0

      kind_known : (s : ℕ) → s < S t → kind_word t s ≤ 1
      kind_known s b = (before (signals_at t + 3 * s) (omega arith)).kind s b refl

      wide : (s : ℕ) → s < S t → (1 ≤ width_word t s) × (width_word t s ≤ 64)
      wide s b =
          let says = (before (signals_at t + 3 * s + 1) (omega arith)).width s b refl in
          order (kind_word t s) 1
          (λ z. omega (arith, says.0 (omega arith)))
          (λ z. omega (arith, says.1 (omega (arith, kind_known s b))))

      short : (j : ℕ) → j ≤ k → length_word t (frame_word t j) ≤ 8
      short j b = ((before (5 + 3 * frame_word t j + 1) (omega (arith, frame_there_lem j b))).length (frame_word t j) (frame_there_lem j b) refl).1

      -- an earlier placement ends inside its 64 bits
      earlier_end : (j : ℕ) → j < k → offset_word t j + width_word t (signal_word t j) ≤ 64
      earlier_end j b =
          let w = wide (signal_word t j) (signal_there j (omega arith)) in
          let says = (before (placements_at t + 3 * j + 2) (omega arith)).offset j (omega arith) refl in
          omega (arith, short j (omega arith), says.2 (offset_word t j + width_word t (signal_word t j) - 1) (omega arith, omega arith))

      abbrev bits : ℕ
      bits = 8 * length_word t (frame_word t k)

      abbrev end : ℕ
      end = offset_word t k + width_word t (signal_word t k)

      -- no bit stands behind the frame's
      fit_exactly : offset_word t k < bits → (not (sticks_out t k) ≡ true) ↔ ((b : ℕ) → HasBit t k b → b < bits)
      unfolding placement_signal placement_frame placement_offset placement_width signal_width frame_length frame_count signal_count word
      fit_exactly o =
          let w = wide (signal_word t k) (signal_there k (omega arith)) in
          let is : sticks_out t k ≡ ltb bits end = out_is t k o (omega (arith, short k (omega arith))) w.1 in (
            (λ y b has. let n = ltb-false bits end (sym is ∙ not-true (sticks_out t k) y) in omega (arith, has)),
            (λ all. rw (is, le-ltb bits end (omega (arith, all (end - 1) (omega arith, omega arith))))),
          )

      -- no bit is an earlier placement's
      overlap_exactly : end ≤ bits
          → (not (overlaps t k) ≡ true) ↔ ((j b : ℕ) → j < k → frame_word t j ≡ frame_word t k → HasBit t j b → HasBit t k b → ⊥)
      unfolding overlaps occupied_before place_of placement_signal placement_frame
          placement_offset placement_width signal_width frame_count signal_count word
      overlap_exactly l =
          let high : end ≤ 64 = omega (arith, short k (omega arith)) in
          let shared : ℕ → Bool = (λ i. covers t k i && occupied_before t k i) in (
            (λ y j b q s x z.
                let i = 64 * frame_word t k + b in
                let none = none_below (64 * F t) shared (not-true (overlaps t k) y) i (omega (arith, z, frame_there_lem k (omega arith))) in
                let own : covers t k i ≡ true = covers_from t k i (omega (arith, z)) (omega (arith, z)) in
                let other : covers t j i ≡ true = covers_from t j i (omega (arith, x)) (omega (arith, x)) in
                let w : ◌≡◌ {A = Bool} true false = sym (any_at k (λ m. covers t m i) j q other) ∙ (rw own at none) in
                let n : ◌≡◌ {A = ℕ} 0 1 = cc in omega arith),
            (λ free. rw (any_none (64 * F t) shared (λ i b. whether (shared i) (λ y. absurd (both high free i y)) (λ n. n)))),
          )
        where
          both : end ≤ 64 → ((j b : ℕ) → j < k → frame_word t j ≡ frame_word t k → HasBit t j b → HasBit t k b → ⊥) → (i : ℕ)
              → (covers t k i && occupied_before t k i) ≡ true → ⊥
          both high free i y =
              let found = any_found k (λ j. covers t j i) (and_right (covers t k i) (occupied_before t k i) y) in
              let j = found.0 in
              let own = covered_from t k i (and_left (covers t k i) (occupied_before t k i) y) in
              let other = covered_from t j i found.2 in
              let low = earlier_end j found.1 in
              let same : frame_word t j ≡ frame_word t k = omega arith in
              free j (i - 64 * frame_word t k) found.1 same (omega arith, omega arith) (omega arith, omega arith)

      pub offset_word_lem : Test p ↔ OffsetSays t k
      unfolding placement_right placement_columns is_array signal_kind frame_length
          placement_signal placement_frame placement_offset frame_count signal_count placement_count word
      offset_word_lem =
          let kind = kind_word t (signal_word t k) in
          let right = offset_right (eqb kind 1) bits (offset_word t k) in
          let offset = offset_exactly kind bits (offset_word t k) (kind_known (signal_word t k) (signal_there k (omega arith))) in
          let w = wide (signal_word t k) (signal_there k (omega arith)) in
          by_test (placement_test d t k 2 p h (omega arith) (sym e)) (
            (λ y.
                let in_frame = and_left (right && not (sticks_out t k)) (not (overlaps t k)) y in
                let o = offset.0 (and_left right (not (sticks_out t k)) in_frame) in
                let fit = (fit_exactly o.0).0 (and_right right (not (sticks_out t k)) in_frame) in
                let last : end ≤ bits = omega (arith, fit (end - 1) (omega arith, omega arith)) in
                (o.0, o.1, fit, (overlap_exactly last).0 (and_right (right && not (sticks_out t k)) (not (overlaps t k)) y))),
            (λ x.
                let last : end ≤ bits = omega (arith, x.2 (end - 1) (omega arith, omega arith)) in
                and_true (right && not (sticks_out t k)) (not (overlaps t k))
                (and_true right (not (sticks_out t k)) (offset.1 (x.0, x.1)) ((fit_exactly x.0).1 x.2))
                ((overlap_exactly last).1 x.3)),
          )

  -- ---- behind the placements

  -- where the signals of the placements count up, each signal has a placement exactly where as many are counted as there are
  pub placed_exactly : ((k : ℕ) → k < P t → SignalSays t k) → (all_placed t ≡ true) ↔ EachPlaced t
  unfolding all_placed placed_signals frame_count signal_count placement_count placement_signal word
  placed_exactly says =
      let up : CountsUp (signal_word t) (P t) = (λ k b. (counts_exactly (signal_word t) k).1 (says k b).0) in (
        (λ y s b. up_each (signal_word t) (P t) up s (omega (arith, (le_exactly (S t) (counted (signal_word t) (P t))).0 y))),
        (λ each. order (counted (signal_word t) (P t)) (S t)
            (λ l. let w = each (counted (signal_word t) (P t)) l in absurd (omega (arith, w.2, up_below (signal_word t) (P t) up w.0 w.1)))
            (λ l. (le_exactly (S t) (counted (signal_word t) (P t))).1 l)),
      )

  -- where one has none, the word behind the placements is wrong
  pub unplaced_word : (p : ℕ) → p ≡ members_at t → Test p → all_placed t ≡ true
  unfolding frame_count signal_count placement_count word
  unplaced_word p e y =
      whether (all_placed t)
      (λ h. h)
      (λ h. let z : ◌≡◌ {A = Bool} true false = sym y ∙ unplaced_test d t p h e in let n : ◌≡◌ {A = ℕ} 0 1 = cc in absurd (omega arith))

  -- ---- a member

  module _ (all : all_placed t ≡ true) (m : ℕ) (h : m < M t) where
    pub list_word_lem : (p : ℕ) → p ≡ members_at t + 2 * m → Test p ↔ CountsOn (list_word t) m
    unfolding member_right member_columns frame_count signal_count placement_count member_count member_list word
    list_word_lem p e = by_test (member_test d t all m 0 p h (omega arith) (omega arith)) (counts_exactly (list_word t) m)

    pub member_word_lem : (p : ℕ) → p ≡ members_at t + 2 * m + 1 → Test p ↔ MemberSays t m
    unfolding member_right member_columns frame_count signal_count placement_count member_count member_frame word
    member_word_lem p e =
        let f = member_word t m in
        let inside = ltb f (F t) in
        let known = and_exactly inside (published t f) (lt_exactly f (F t)) (published_exactly t f) in
        let new = not (earlier (member_word t) m) in
        let says = and_exactly (inside && published t f) new known (new_exactly (member_word t) m) in
        by_test (member_test d t all m 1 p h (omega arith) e)
        ((λ y. let w = says.0 y in (w.0.0, w.0.1, w.1)), λ w. says.1 ((w.0, w.1), w.2))

  -- ---- an entry

  module _ (all : all_placed t ≡ true) (e : ℕ) (h : e < E t) where
    pub schedule_word_lem : (p : ℕ) → p ≡ entries_at t + 4 * e → Test p ↔ CountsOn (schedule_word t) e
    unfolding entry_right entry_columns frame_count signal_count placement_count member_count entry_count entry_schedule word
    schedule_word_lem p q = by_test (entry_test d t all e 0 p h (omega arith) (omega arith)) (counts_exactly (schedule_word t) e)

    pub entry_kind_word_lem : (p : ℕ) → p ≡ entries_at t + 4 * e + 1 → Test p ↔ (entry_kind_word t e ≤ 3)
    unfolding entry_right entry_columns frame_count signal_count placement_count member_count entry_count entry_kind word
    entry_kind_word_lem p q = by_test (entry_test d t all e 1 p h (omega arith) q) (le_exactly (entry_kind_word t e) 3)

    pub delay_word_lem : (p : ℕ) → p ≡ entries_at t + 4 * e + 3
        → Test p ↔ ((1 ≤ delay_word t e) × (delay_word t e ≤ 65535))
    unfolding entry_right entry_columns frame_count signal_count placement_count member_count entry_count entry_delay word
    delay_word_lem p q = by_test (entry_test d t all e 3 p h (omega arith) q) (within_exactly 1 65535 (delay_word t e))

    module _ (p : ℕ) (before : Before t p) (q : p ≡ entries_at t + 4 * e + 2) where
      lists_right : CountsUp (member_list t) (member_count t)
      unfolding member_count member_list frame_count signal_count placement_count word
      lists_right m b = (counts_exactly (list_word t) m).1 ((before (members_at t + 2 * m) (omega arith)).list m b refl)

      pub target_word_lem : Test p ↔ TargetSays t e
      unfolding entry_right entry_columns frame_count signal_count placement_count member_count member_list entry_count entry_kind entry_target word
      target_word_lem =
          let kind = (before (entries_at t + 4 * e + 1) (omega arith)).entry_kind_lem e h refl in
          let says = target_exactly (F t) (list_count t) (entry_kind_word t e) (target_word t e) kind in
          let list = existing_list t lists_right (target_word t e) in
          by_test (entry_test d t all e 2 p h (omega arith) q) (
            (λ y. let w = says.0 y in (w.0, (λ k. list.0 (w.1 k)), w.2, w.3)),
            (λ w. says.1 (w.0, (λ k. list.1 (w.1 k)), w.2, w.3)),
          )
