-- Every field by its name is the word at its place, and what the flags, the kinds and the tests on a signal say of those words.
use Prim.Native.Nat.{ℕ, ◌+◌, ◌*◌, ◌/◌, ◌%◌, ◌^◌, ◌<◌}
use mathlib.Core.Path.{◌≡◌, refl, sym, ◌∙◌}
use mathlib.Core.Bool.{Bool, true, false}
use mathlib.Core.List.{List}
use mathlib.Core.Logic.{◌↔◌}
use native.Mathlib.Omega.{arith}
use borrow.Author.Tests.{eq-eqb, eqb-true, eqb-false, ne_eqb}
use lib.Dec.{eqb}
use lib.ListN.{length, get_or}
use Rattle.wire.specs.Bits.{bit}
use Rattle.wire.specs.declared.checksum.Model.TheVariants.{Classic, Enhanced}
use Rattle.wire.proofs.Tests.{whether}
use Rattle.signal.proofs.Numbers.{bit_zero, bit_suc}
use Rattle.cluster.specs.Check.{RightTable}
use Rattle.cluster.specs.Table.{word, frame_count, signal_count, member_count, entry_count, identifier, frame_length, flags}
use Rattle.cluster.specs.Table.{published, classic, frame_model, is_array, list_count, schedule_count}
use Rattle.cluster.specs.Table.{signal_kind, signal_width, signal_start, placement_count, placement_signal, placement_frame, placement_offset}
use Rattle.cluster.specs.Table.{member_list, member_frame, entry_schedule, entry_kind, entry_target, entry_delay}
use Rattle.cluster.specs.Values.{touches, signal_published, value_fits, array_fits}
use Rattle.cluster.proofs.ColumnsExactly.{lt_exactly, eq_exactly}
use Rattle.cluster.proofs.EntryLaws.{schedule_below, schedule_entry}
use Rattle.cluster.proofs.FreshLaws.{array_length_lem}
use Rattle.cluster.proofs.InWords.{F, S, M, E, P, flags_word, signal_word, frame_word, kind_word, width_word, list_word, schedule_word}
use Rattle.cluster.proofs.MemberLaws.{list_below, list_member}
use Rattle.cluster.proofs.PlacementLaws.{published_as}
use Rattle.cluster.proofs.SignalLaws.{signal_kind_high}
use Rattle.cluster.proofs.SomePlacement.{some_found, some_at}

-- "Words 0 to 3", "a fifth word P", and the words of the records "in this order"
pub record Fields (t : List ℕ) : Type 0 where
  pub frames : frame_count t ≡ get_or t 0 0
  pub signals : signal_count t ≡ get_or t 1 0
  pub members : member_count t ≡ get_or t 2 0
  pub entries : entry_count t ≡ get_or t 3 0
  pub placements : placement_count t ≡ get_or t 4 0
  pub identifiers : (f : ℕ) → identifier t f ≡ get_or t (5 + 3 * f) 0
  pub lengths : (f : ℕ) → frame_length t f ≡ get_or t (5 + 3 * f + 1) 0
  pub flags_of : (f : ℕ) → flags t f ≡ get_or t (5 + 3 * f + 2) 0
  pub signal_kinds : (s : ℕ) → signal_kind t s ≡ get_or t (5 + 3 * F t + 3 * s) 0
  pub widths : (s : ℕ) → signal_width t s ≡ get_or t (5 + 3 * F t + 3 * s + 1) 0
  pub starts : (s : ℕ) → signal_start t s ≡ get_or t (5 + 3 * F t + 3 * s + 2) 0
  pub placement_signals : (k : ℕ) → placement_signal t k ≡ get_or t (5 + 3 * F t + 3 * S t + 3 * k) 0
  pub placement_frames : (k : ℕ) → placement_frame t k ≡ get_or t (5 + 3 * F t + 3 * S t + 3 * k + 1) 0
  pub offsets : (k : ℕ) → placement_offset t k ≡ get_or t (5 + 3 * F t + 3 * S t + 3 * k + 2) 0
  pub lists : (m : ℕ) → member_list t m ≡ get_or t (5 + 3 * F t + 3 * S t + 3 * P t + 2 * m) 0
  pub member_frames : (m : ℕ) → member_frame t m ≡ get_or t (5 + 3 * F t + 3 * S t + 3 * P t + 2 * m + 1) 0
  pub schedules : (e : ℕ) → entry_schedule t e ≡ get_or t (5 + 3 * F t + 3 * S t + 3 * P t + 2 * M t + 4 * e) 0
  pub entry_kinds : (e : ℕ) → entry_kind t e ≡ get_or t (5 + 3 * F t + 3 * S t + 3 * P t + 2 * M t + 4 * e + 1) 0
  pub targets : (e : ℕ) → entry_target t e ≡ get_or t (5 + 3 * F t + 3 * S t + 3 * P t + 2 * M t + 4 * e + 2) 0
  pub delays : (e : ℕ) → entry_delay t e ≡ get_or t (5 + 3 * F t + 3 * S t + 3 * P t + 2 * M t + 4 * e + 3) 0

pub fields_exactly : (t : List ℕ) → Fields t
unfolding word frame_count signal_count member_count entry_count placement_count identifier frame_length flags signal_kind signal_width signal_start
    placement_signal placement_frame placement_offset member_list member_frame entry_schedule entry_kind entry_target entry_delay
fields_exactly t = record {
  frames = refl;
  signals = refl;
  members = refl;
  entries = refl;
  placements = refl;
  identifiers = λ f. refl;
  lengths = λ f. refl;
  flags_of = λ f. refl;
  signal_kinds = λ s. refl;
  widths = λ s. refl;
  starts = λ s. refl;
  placement_signals = λ k. refl;
  placement_frames = λ k. refl;
  offsets = λ k. refl;
  lists = λ m. refl;
  member_frames = λ m. refl;
  schedules = λ e. refl;
  entry_kinds = λ e. refl;
  targets = λ e. refl;
  delays = λ e. refl;
}

-- bit 0 and bit 1 of a number
bit_0 : (n : ℕ) → (bit n 0 ≡ true) ↔ (n % 2 ≡ 1)
bit_0 n = rw (bit_zero n) (eq_exactly (n % 2) 1)

bit_1 : (n : ℕ) → (bit n 1 ≡ true) ↔ (n / 2 % 2 ≡ 1)
bit_1 n = rw (bit_suc n 0) (bit_0 (n / 2))

module _ (t : List ℕ) where
  -- ---- "flags 0..3 (bit 0: master publishes, bit 1: classic)"

  pub published_exactly : (f : ℕ) → (published t f ≡ true) ↔ (flags_word t f % 2 ≡ 1)
  unfolding published flags word
  published_exactly f = bit_0 (flags_word t f)

  pub classic_exactly : (f : ℕ) → (classic t f ≡ true) ↔ (flags_word t f / 2 % 2 ≡ 1)
  unfolding classic flags word
  classic_exactly f = bit_1 (flags_word t f)

  -- the checksum of a frame is classic where bit 1 is 1, and enhanced where it is 0
  pub model_classic : (f : ℕ) → (frame_model t f ≡ Classic) ↔ (flags_word t f / 2 % 2 ≡ 1)
  model_classic f = (
    (λ e. whether (classic t f) (λ y. (classic_exactly f).0 y) (λ n. let w = rw n at e in absurd (let z : ◌≡◌ {A = ℕ} 0 1 = cc in omega arith))),
    (λ e. rw ((classic_exactly f).1 e)),
  )

  pub model_enhanced : (f : ℕ) → (frame_model t f ≡ Enhanced) ↔ (flags_word t f / 2 % 2 ≡ 0)
  model_enhanced f = (
    (λ e. whether (classic t f)
        (λ y. let w = rw y at e in absurd (let z : ◌≡◌ {A = ℕ} 0 1 = cc in omega arith))
        (λ n. clear f n)),
    (λ e. whether (classic t f) (λ y. absurd (omega (arith, (classic_exactly f).0 y))) (λ n. rw n)),
  )
    where
      clear : (f : ℕ) → classic t f ≡ false → flags_word t f / 2 % 2 ≡ 0
      clear f n = whether (eqb (flags_word t f / 2 % 2) 1)
          (λ y. let w = sym ((classic_exactly f).1 (eqb-true (flags_word t f / 2 % 2) 1 y)) ∙ n in
          absurd (let z : ◌≡◌ {A = ℕ} 0 1 = cc in omega arith))
          (λ z. let d = eqb-false (flags_word t f / 2 % 2) 1 z in omega arith)

  -- ---- "kind 0 scalar, 1 array"

  pub array_exactly : (s : ℕ) → (is_array t s ≡ true) ↔ (kind_word t s ≡ 1)
  unfolding is_array signal_kind frame_count word
  array_exactly s = eq_exactly (kind_word t s) 1

  pub scalar_exactly : RightTable t → (s : ℕ) → s < S t → (is_array t s ≡ false) ↔ (kind_word t s ≡ 0)
  unfolding is_array signal_kind signal_count frame_count word
  scalar_exactly ok s h = (
    (λ e. let d = eqb-false (kind_word t s) 1 e in omega (arith, signal_kind_high t ok s h)),
    (λ e. ne_eqb (kind_word t s) 1 (λ q. omega arith)),
  )

  -- ---- a signal and what is handed over for it

  -- a signal stands in a frame exactly where one of its placements does
  pub touches_exactly : (s f : ℕ) → (touches t s f ≡ true) ↔ ((k : ℕ) × (k < P t) × (signal_word t k ≡ s) × (frame_word t k ≡ f))
  unfolding touches placement_count placement_signal placement_frame signal_count frame_count word
  touches_exactly s f =
      let test : ℕ → Bool = (λ k. eqb (placement_frame t k) f) in (
        (λ h. let w = some_found t s test h in (w.0, w.1.there, w.1.is, eqb-true (frame_word t w.0) f w.2)),
        (λ w. some_at t s test w.0 (record { there = w.1; is = w.2 }) (eq-eqb (frame_word t w.0) f w.3)),
      )

  -- "a master-published signal": the frame of each of its placements is
  pub signal_published_exactly : RightTable t → (s k : ℕ) → k < P t → signal_word t k ≡ s
      → (signal_published t s ≡ true) ↔ (flags_word t (frame_word t k) % 2 ≡ 1)
  unfolding placement_count placement_signal placement_frame signal_count frame_count word
  signal_published_exactly ok s k h e =
      let is = published_as t ok s k (record { there = h; is = e }) in
      let w = published_exactly (frame_word t k) in
      (λ y. w.0 (sym is ∙ y), λ y. is ∙ w.1 y)

  -- refusal 7: "value of 2^width or more"
  pub value_fits_exactly : (s v : ℕ) → (value_fits t s v ≡ true) ↔ (v < 2 ^ width_word t s)
  unfolding value_fits signal_width frame_count word
  value_fits_exactly s v = lt_exactly v (2 ^ width_word t s)

  -- refusal 7: "array of another length"
  pub array_fits_exactly : RightTable t → (s : ℕ) → s < S t → kind_word t s ≡ 1 → (vs : List ℕ)
      → (array_fits t s vs ≡ true) ↔ (length vs ≡ width_word t s / 8)
  unfolding array_fits signal_width signal_count frame_count word
  array_fits_exactly ok s h k vs = rw (array_length_lem t ok s h ((array_exactly s).1 k)) (eq_exactly (length vs) (width_word t s / 8))

  -- ---- how many lists and schedules there are

  -- there is a list exactly where a member has its number
  pub list_exactly : RightTable t → (l : ℕ) → (l < list_count t) ↔ ((m : ℕ) × (m < M t) × (list_word t m ≡ l))
  unfolding member_count member_list frame_count signal_count placement_count word
  list_exactly ok l = (list_member t ok l, λ w. rw w.2 at (list_below t ok w.0 w.1))

  -- there is a schedule exactly where an entry has its number
  pub schedule_exactly : RightTable t → (n : ℕ) → (n < schedule_count t) ↔ ((e : ℕ) × (e < E t) × (schedule_word t e ≡ n))
  unfolding entry_count entry_schedule frame_count signal_count placement_count member_count word
  schedule_exactly ok n = (schedule_entry t ok n, λ w. rw w.2 at (schedule_below t ok w.0 w.1))
