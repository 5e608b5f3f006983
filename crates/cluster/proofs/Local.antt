-- "Every word judged by itself and the words before it": two tables that agree up to a word judge that word alike. Of the
-- columns behind a frame or a signal number this holds where those numbers are right, which are judged before them.
use Prim.Native.Nat.{ℕ, zero, suc, ◌+◌, ◌*◌, ◌≤◌, ◌<◌}
use mathlib.Core.Path.{◌≡◌, refl, ◌∙◌, ap}
use mathlib.Core.Bool.{not, ◌&&◌, beq}
use mathlib.Core.List.{List}
use native.Mathlib.Omega.{arith}
use borrow.Author.Tests.{ltb-true}
use lib.Dec.{leb, ltb, eqb}
use Rattle.wire.proofs.Tests.{whether}
use Rattle.cluster.specs.Columns.{identifier_right, length_right, flags_right, signal_kind_right, width_right, start_right}
use Rattle.cluster.specs.Columns.{placement_signal_right, placement_frame_right, placement_offset_right}
use Rattle.cluster.specs.Columns.{member_frame_right, entry_kind_right, target_right, delay_right}
use Rattle.cluster.specs.Places.{place_of, places, covers}
use Rattle.cluster.specs.Right.{earlier, earlier_placement, again, mixed, sticks_out, occupied_before, overlaps, frame_bits, all_placed, counts_up}
use Rattle.cluster.specs.Table.{word, frame_count, signal_count, placement_count, member_count, counted, placed_signals, list_count}
use Rattle.cluster.specs.Table.{frame_at, identifier, frame_length, flags, published}
use Rattle.cluster.specs.Table.{signal_at, signal_kind, signal_width, signal_start, is_array}
use Rattle.cluster.specs.Table.{placement_at, placement_signal, placement_frame, placement_offset, placement_width}
use Rattle.cluster.specs.Table.{member_at, member_list, member_frame, entry_at, entry_schedule, entry_kind, entry_target, entry_delay}
use Rattle.cluster.proofs.Any.{any_ext}

-- the tables agree in their first n words
abbrev pub Same : List ℕ → List ℕ → ℕ → Type 0
Same t u n = (j : ℕ) → j < n → word t j ≡ word u j

counted_ext : (f g : ℕ → ℕ) (k : ℕ) → ((j : ℕ) → j < k → f j ≡ g j) → counted f k ≡ counted g k
unfolding counted
counted_ext f g zero e = refl
counted_ext f g (suc k) e = rw (e k (omega arith))

counts_ext : (f g : ℕ → ℕ) (k : ℕ) → ((j : ℕ) → j ≤ k → f j ≡ g j) → counts_up f k ≡ counts_up g k
counts_ext f g k e = rw (e k (omega arith), counted_ext f g k (λ j h. e j (omega arith)))

earlier_ext : (f g : ℕ → ℕ) (k : ℕ) → ((j : ℕ) → j ≤ k → f j ≡ g j) → earlier f k ≡ earlier g k
earlier_ext f g k e =
    rw (e k (omega arith))
    (any_ext k (λ j. eqb (f j) (g k)) (λ j. eqb (g j) (g k)) (λ j h. rw (e j (omega arith))))

module _ (t u : List ℕ) (n : ℕ) (same : Same t u n) where
  -- ---- the frames

  identifier_same : (f : ℕ) → frame_at f < n → identifier t f ≡ identifier u f
  unfolding identifier
  identifier_same f h = same (frame_at f) h

  length_same : (f : ℕ) → frame_at f + 1 < n → frame_length t f ≡ frame_length u f
  unfolding frame_length
  length_same f h = same (frame_at f + 1) h

  flags_same : (f : ℕ) → frame_at f + 2 < n → flags t f ≡ flags u f
  unfolding flags
  flags_same f h = same (frame_at f + 2) h

  pub identifier_local : (f : ℕ) → frame_at f < n
      → identifier_right (earlier (identifier t) f) (identifier t f) ≡ identifier_right (earlier (identifier u) f) (identifier u f)
  identifier_local f h = rw (earlier_ext (identifier t) (identifier u) f (λ g b. identifier_same g (omega arith)), identifier_same f h)

  pub length_local : (f : ℕ) → frame_at f + 1 < n → length_right (frame_length t f) ≡ length_right (frame_length u f)
  length_local f h = rw (length_same f h)

  pub flags_local : (f : ℕ) → frame_at f + 2 < n → flags_right (flags t f) ≡ flags_right (flags u f)
  flags_local f h = rw (flags_same f h)

  -- ---- the signals, behind a header that is the same

  module _ (header : 5 ≤ n) where
    frames_same : frame_count t ≡ frame_count u
    unfolding frame_count
    frames_same = same 0 (omega arith)

    signals_same : signal_count t ≡ signal_count u
    unfolding signal_count
    signals_same = same 1 (omega arith)

    members_same : member_count t ≡ member_count u
    unfolding member_count
    members_same = same 2 (omega arith)

    placements_same : placement_count t ≡ placement_count u
    unfolding placement_count
    placements_same = same 4 (omega arith)

    -- a word of the two tables at places that are the same
    word_same : (i j : ℕ) → i < n → i ≡ j → word t i ≡ word u j
    word_same i j h e = same i h ∙ ap (word u) e

    kind_same : (s : ℕ) → signal_at t s < n → signal_kind t s ≡ signal_kind u s
    unfolding signal_kind
    kind_same s h = word_same (signal_at t s) (signal_at u s) h (omega (arith, frames_same))

    array_same : (s : ℕ) → signal_at t s < n → is_array t s ≡ is_array u s
    unfolding is_array
    array_same s h = rw (kind_same s h)

    width_same : (s : ℕ) → signal_at t s + 1 < n → signal_width t s ≡ signal_width u s
    unfolding signal_width
    width_same s h = word_same (signal_at t s + 1) (signal_at u s + 1) h (omega (arith, frames_same))

    start_same : (s : ℕ) → signal_at t s + 2 < n → signal_start t s ≡ signal_start u s
    unfolding signal_start
    start_same s h = word_same (signal_at t s + 2) (signal_at u s + 2) h (omega (arith, frames_same))

    pub signal_kind_local : (s : ℕ) → signal_at t s < n → signal_kind_right (signal_kind t s) ≡ signal_kind_right (signal_kind u s)
    signal_kind_local s h = rw (kind_same s h)

    pub width_local : (s : ℕ) → signal_at t s + 1 < n → width_right (is_array t s) (signal_width t s) ≡ width_right (is_array u s) (signal_width u s)
    width_local s h = rw (array_same s (omega arith), width_same s h)

    pub start_local : (s : ℕ) → signal_at t s + 2 < n
        → start_right (is_array t s) (signal_width t s) (signal_start t s) ≡ start_right (is_array u s) (signal_width u s) (signal_start u s)
    start_local s h = rw (array_same s (omega arith), width_same s (omega arith), start_same s h)

    -- ---- the placements

    placement_signal_same : (k : ℕ) → placement_at t k < n → placement_signal t k ≡ placement_signal u k
    unfolding placement_signal
    placement_signal_same k h = word_same (placement_at t k) (placement_at u k) h (omega (arith, frames_same, signals_same))

    placement_frame_same : (k : ℕ) → placement_at t k + 1 < n → placement_frame t k ≡ placement_frame u k
    unfolding placement_frame
    placement_frame_same k h = word_same (placement_at t k + 1) (placement_at u k + 1) h (omega (arith, frames_same, signals_same))

    placement_offset_same : (k : ℕ) → placement_at t k + 2 < n → placement_offset t k ≡ placement_offset u k
    unfolding placement_offset
    placement_offset_same k h = word_same (placement_at t k + 2) (placement_at u k + 2) h (omega (arith, frames_same, signals_same))

    published_same : (f : ℕ) → frame_at f + 2 < n → published t f ≡ published u f
    unfolding published
    published_same f h = rw (flags_same f h)

    pub placement_signal_local : (k : ℕ) → placement_at t k < n
        → placement_signal_right (signal_count t) (counts_up (placement_signal t) k) (placement_signal t k)
        ≡ placement_signal_right (signal_count u) (counts_up (placement_signal u) k) (placement_signal u k)
    placement_signal_local k h =
        rw (
          counts_ext (placement_signal t) (placement_signal u) k (λ j b. placement_signal_same j (omega arith)),
          placement_signal_same k h,
          signals_same,
        )

    -- of the columns behind a frame number: the earlier placements stand in frames of the table
    module _ (k : ℕ) (below : (j : ℕ) → j ≤ k → placement_frame t j < frame_count t) where
      again_same : placement_at t k + 1 < n → again t k ≡ again u k
      unfolding again earlier_placement
      again_same h =
          rw (placement_signal_same k (omega arith), placement_frame_same k h)
          (any_ext k (λ j. places t (placement_signal u k) j && eqb (placement_frame t j) (placement_frame u k))
          (λ j. places u (placement_signal u k) j && eqb (placement_frame u j) (placement_frame u k))
          (λ j b. rw (placement_signal_same j (omega arith), placement_frame_same j (omega arith))))

      publisher_same : (j : ℕ) → j ≤ k → placement_at t k + 1 < n → published t (placement_frame t j) ≡ published u (placement_frame u j)
      publisher_same j b h =
          published_same (placement_frame t j) (omega (arith, below j b)) ∙ ap (published u) (placement_frame_same j (omega arith))

      mixed_same : placement_at t k + 1 < n → mixed t k ≡ mixed u k
      unfolding mixed earlier_placement
      mixed_same h =
          rw (placement_signal_same k (omega arith), publisher_same k (omega arith) h)
          (any_ext k
          (λ j. places t (placement_signal u k) j && not (beq (published t (placement_frame t j)) (published u (placement_frame u k))))
          (λ j. places u (placement_signal u k) j && not (beq (published u (placement_frame u j)) (published u (placement_frame u k))))
          (λ j b. rw (placement_signal_same j (omega arith), publisher_same j (omega arith) h)))

      pub placement_frame_local : placement_at t k + 1 < n
          → placement_frame_right (frame_count t) (again t k) (mixed t k) (placement_frame t k)
          ≡ placement_frame_right (frame_count u) (again u k) (mixed u k) (placement_frame u k)
      placement_frame_local h = rw (again_same h, mixed_same h, placement_frame_same k h, frames_same)

      -- and of those behind a signal number: the placements are of signals of the table
      module _ (signals : (j : ℕ) → j ≤ k → placement_signal t j < signal_count t) (here : placement_at t k + 2 < n) where
        covers_same : (j b : ℕ) → j ≤ k → covers t j b ≡ covers u j b
        unfolding covers place_of placement_width
        covers_same j b l =
            rw (
              placement_frame_same j (omega arith),
              placement_offset_same j (omega arith),
              width_same (placement_signal t j) (omega (arith, signals j l)),
              placement_signal_same j (omega arith),
            )

        bits_same : frame_bits t k ≡ frame_bits u k
        bits_same =
            ap (λ l. 8 * l) (length_same (placement_frame t k) (omega (arith, below k (omega arith)))
            ∙ ap (frame_length u) (placement_frame_same k (omega arith)))

        out_same : sticks_out t k ≡ sticks_out u k
        unfolding sticks_out
        out_same =
            rw (bits_same, placement_frame_same k (omega arith))
            (any_ext 128 (λ j. covers t k (64 * placement_frame u k + j) && leb (frame_bits u k) j)
            (λ j. covers u k (64 * placement_frame u k + j) && leb (frame_bits u k) j)
            (λ j b. rw (covers_same k (64 * placement_frame u k + j) (omega arith))))

        occupied_same : (b : ℕ) → occupied_before t k b ≡ occupied_before u k b
        unfolding occupied_before
        occupied_same b = any_ext k (λ j. covers t j b) (λ j. covers u j b) (λ j l. covers_same j b (omega arith))

        overlaps_same : overlaps t k ≡ overlaps u k
        unfolding overlaps
        overlaps_same =
            rw frames_same
            (any_ext (64 * frame_count u) (λ j. covers t k j && occupied_before t k j) (λ j. covers u k j && occupied_before u k j)
            (λ j b. rw (covers_same k j (omega arith), occupied_same j)))

        signal_array_same : is_array t (placement_signal t k) ≡ is_array u (placement_signal u k)
        signal_array_same =
            array_same (placement_signal t k) (omega (arith, signals k (omega arith))) ∙ ap (is_array u) (placement_signal_same k (omega arith))

        pub placement_offset_local :
            placement_offset_right (is_array t (placement_signal t k)) (frame_bits t k) (sticks_out t k) (overlaps t k) (placement_offset t k)
            ≡ placement_offset_right (is_array u (placement_signal u k)) (frame_bits u k) (sticks_out u k) (overlaps u k) (placement_offset u k)
        placement_offset_local = rw (signal_array_same, bits_same, out_same, overlaps_same, placement_offset_same k here)

    -- whether each signal has a placement
    pub placed_local : placement_at t (placement_count t) ≤ n → all_placed t ≡ all_placed u
    unfolding all_placed placed_signals
    placed_local h =
        rw (
          signals_same,
          counted_ext (placement_signal t) (placement_signal u) (placement_count t) (λ j b. placement_signal_same j (omega arith)),
          placements_same,
        )

    -- ---- the members

    list_same : (m : ℕ) → member_at t m < n → member_list t m ≡ member_list u m
    unfolding member_list
    list_same m h = word_same (member_at t m) (member_at u m) h (omega (arith, frames_same, signals_same, placements_same))

    member_frame_same : (m : ℕ) → member_at t m + 1 < n → member_frame t m ≡ member_frame u m
    unfolding member_frame
    member_frame_same m h = word_same (member_at t m + 1) (member_at u m + 1) h (omega (arith, frames_same, signals_same, placements_same))

    pub list_local : (m : ℕ) → member_at t m < n → counts_up (member_list t) m ≡ counts_up (member_list u) m
    list_local m h = counts_ext (member_list t) (member_list u) m (λ k b. list_same k (omega arith))

    pub member_frame_local : (m : ℕ) → member_at t m + 1 < n
        → member_frame_right (frame_count t) (published t (member_frame t m)) (earlier (member_frame t) m) (member_frame t m)
        ≡ member_frame_right (frame_count u) (published u (member_frame u m)) (earlier (member_frame u) m) (member_frame u m)
    member_frame_local m h =
        rw (
          earlier_ext (member_frame t) (member_frame u) m (λ k b. member_frame_same k (omega arith)),
          member_frame_same m h,
          frames_same,
        )
        (whether (ltb (member_frame u m) (frame_count u))
        (λ e. rw (published_same (member_frame u m) (omega (arith, ltb-true (member_frame u m) (frame_count u) e, frames_same))))
        (λ e. rw e))

    -- ---- the entries

    schedule_same : (e : ℕ) → entry_at t e < n → entry_schedule t e ≡ entry_schedule u e
    unfolding entry_schedule
    schedule_same e h = word_same (entry_at t e) (entry_at u e) h (omega (arith, frames_same, signals_same, placements_same, members_same))

    entry_kind_same : (e : ℕ) → entry_at t e + 1 < n → entry_kind t e ≡ entry_kind u e
    unfolding entry_kind
    entry_kind_same e h = word_same (entry_at t e + 1) (entry_at u e + 1) h (omega (arith, frames_same, signals_same, placements_same, members_same))

    target_same : (e : ℕ) → entry_at t e + 2 < n → entry_target t e ≡ entry_target u e
    unfolding entry_target
    target_same e h = word_same (entry_at t e + 2) (entry_at u e + 2) h (omega (arith, frames_same, signals_same, placements_same, members_same))

    delay_same : (e : ℕ) → entry_at t e + 3 < n → entry_delay t e ≡ entry_delay u e
    unfolding entry_delay
    delay_same e h = word_same (entry_at t e + 3) (entry_at u e + 3) h (omega (arith, frames_same, signals_same, placements_same, members_same))

    lists_same : entry_at t 0 ≤ n → list_count t ≡ list_count u
    unfolding list_count
    lists_same h = rw (← members_same) (counted_ext (member_list t) (member_list u) (member_count t) (λ k b. list_same k (omega arith)))

    pub schedule_local : (e : ℕ) → entry_at t e < n → counts_up (entry_schedule t) e ≡ counts_up (entry_schedule u) e
    schedule_local e h = counts_ext (entry_schedule t) (entry_schedule u) e (λ k b. schedule_same k (omega arith))

    pub entry_kind_local : (e : ℕ) → entry_at t e + 1 < n → entry_kind_right (entry_kind t e) ≡ entry_kind_right (entry_kind u e)
    entry_kind_local e h = rw (entry_kind_same e h)

    pub target_local : (e : ℕ) → entry_at t e + 2 < n
        → target_right (frame_count t) (list_count t) (entry_kind t e) (entry_target t e)
        ≡ target_right (frame_count u) (list_count u) (entry_kind u e) (entry_target u e)
    target_local e h = rw (frames_same, lists_same (omega arith), entry_kind_same e (omega arith), target_same e h)

    pub delay_local : (e : ℕ) → entry_at t e + 3 < n → delay_right (entry_delay t e) ≡ delay_right (entry_delay u e)
    delay_local e h = rw (delay_same e h)
