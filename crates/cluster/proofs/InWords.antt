-- Document 01, "The cluster table", with Req 03 of document 02, as they stand there: what each word may be, by the word's position and in numbers.
-- Nothing of specs/ is used, so that this can be read beside the papers; proofs/RightExactly says that the check goes by exactly this.
use Prim.Native.Nat.{ℕ, ◌+◌, ◌*◌, ◌%◌, ◌^◌, ◌≤◌, ◌<◌}
use mathlib.Core.Path.{◌≡◌}
use mathlib.Core.List.{List}
use mathlib.Core.Logic.{◌≢◌, ◌⊎◌}
use lib.ListN.{length, get_or}

-- "first 0, then equal to the previous one or one more", of record k's number
abbrev pub CountsOn : (ℕ → ℕ) → ℕ → Type 0
CountsOn number k = (k ≡ 0 → number k ≡ 0) × ((j : ℕ) → k ≡ j + 1 → (number k ≡ number j) ⊎ (number k ≡ number j + 1))

-- "not used earlier", "no earlier member"
abbrev pub NotEarlier : (ℕ → ℕ) → ℕ → Type 0
NotEarlier number k = (j : ℕ) → j < k → number j ≢ number k

module _ (t : List ℕ) where
  -- the word at a position
  abbrev pub word_at : ℕ → ℕ
  word_at i = get_or t i 0

  -- ---- "Words 0 to 3: frames F, signals S, list members M, schedule entries E", "a fifth word P"

  abbrev pub F : ℕ
  F = word_at 0

  abbrev pub S : ℕ
  S = word_at 1

  abbrev pub M : ℕ
  M = word_at 2

  abbrev pub E : ℕ
  E = word_at 3

  abbrev pub P : ℕ
  P = word_at 4

  -- where the records of each kind begin; behind the entries the table ends: the length is exactly 5 + 3F + 3S + 3P + 2M + 4E

  abbrev pub signals_at : ℕ
  signals_at = 5 + 3 * F

  abbrev pub placements_at : ℕ
  placements_at = 5 + 3 * F + 3 * S

  abbrev pub members_at : ℕ
  members_at = 5 + 3 * F + 3 * S + 3 * P

  abbrev pub entries_at : ℕ
  entries_at = 5 + 3 * F + 3 * S + 3 * P + 2 * M

  abbrev pub words_due : ℕ
  words_due = 5 + 3 * F + 3 * S + 3 * P + 2 * M + 4 * E

  -- ---- "frame: identifier, length, flags", three words each

  abbrev pub identifier_word : ℕ → ℕ
  identifier_word f = word_at (5 + 3 * f)

  abbrev pub length_word : ℕ → ℕ
  length_word f = word_at (5 + 3 * f + 1)

  abbrev pub flags_word : ℕ → ℕ
  flags_word f = word_at (5 + 3 * f + 2)

  -- ---- "the signal record keeps kind, width and start value", three words each

  abbrev pub kind_word : ℕ → ℕ
  kind_word s = word_at (signals_at + 3 * s)

  abbrev pub width_word : ℕ → ℕ
  width_word s = word_at (signals_at + 3 * s + 1)

  abbrev pub start_word : ℕ → ℕ
  start_word s = word_at (signals_at + 3 * s + 2)

  -- ---- "a placement record of signal, frame and offset", three words each, "behind the signals"

  abbrev pub signal_word : ℕ → ℕ
  signal_word k = word_at (placements_at + 3 * k)

  abbrev pub frame_word : ℕ → ℕ
  frame_word k = word_at (placements_at + 3 * k + 1)

  abbrev pub offset_word : ℕ → ℕ
  offset_word k = word_at (placements_at + 3 * k + 2)

  -- ---- "member: list number, frame number", two words each

  abbrev pub list_word : ℕ → ℕ
  list_word m = word_at (members_at + 2 * m)

  abbrev pub member_word : ℕ → ℕ
  member_word m = word_at (members_at + 2 * m + 1)

  -- ---- "entry: schedule number, kind, target, delay", four words each

  abbrev pub schedule_word : ℕ → ℕ
  schedule_word e = word_at (entries_at + 4 * e)

  abbrev pub entry_kind_word : ℕ → ℕ
  entry_kind_word e = word_at (entries_at + 4 * e + 1)

  abbrev pub target_word : ℕ → ℕ
  target_word e = word_at (entries_at + 4 * e + 2)

  abbrev pub delay_word : ℕ → ℕ
  delay_word e = word_at (entries_at + 4 * e + 3)

  -- ---- what the columns of more than one test say

  -- "width 1..16, for arrays 8..64 in eights"
  abbrev pub WidthSays : ℕ → Type 0
  WidthSays s =
      (kind_word s ≡ 0 → (1 ≤ width_word s) × (width_word s ≤ 16))
      × (kind_word s ≡ 1 → (8 ≤ width_word s) × (width_word s ≤ 64) × (width_word s % 8 ≡ 0))

  -- "start value below 2^width, for arrays 0..255"
  abbrev pub StartSays : ℕ → Type 0
  StartSays s = (kind_word s ≡ 0 → start_word s < 2 ^ width_word s) × (kind_word s ≡ 1 → start_word s ≤ 255)

  -- "in ascending signal order", none skipped, and the signal is there
  abbrev pub SignalSays : ℕ → Type 0
  SignalSays k = CountsOn signal_word k × (signal_word k < S)

  -- placement j is an earlier one of the signal of placement k
  abbrev pub EarlierOf : ℕ → ℕ → Type 0
  EarlierOf k j = (j < k) × (signal_word j ≡ signal_word k)

  -- "frame number < F"; a signal with "two in one frame, or mixed publishers" is refused
  abbrev pub FrameSays : ℕ → Type 0
  FrameSays k =
      (frame_word k < F)
      × ((j : ℕ) → EarlierOf k j → frame_word j ≢ frame_word k)
      × ((j : ℕ) → EarlierOf k j → flags_word (frame_word j) % 2 ≡ flags_word (frame_word k) % 2)

  -- bit b of its frame belongs to placement k
  abbrev pub HasBit : ℕ → ℕ → Type 0
  HasBit k b = (offset_word k ≤ b) × (b < offset_word k + width_word (signal_word k))

  -- "offset below 8 x length, for arrays a multiple of 8"; "fit and overlap are judged at the offset word"
  abbrev pub OffsetSays : ℕ → Type 0
  OffsetSays k =
      (offset_word k < 8 * length_word (frame_word k))
      × (kind_word (signal_word k) ≡ 1 → offset_word k % 8 ≡ 0)
      × ((b : ℕ) → HasBit k b → b < 8 * length_word (frame_word k))
      × ((j b : ℕ) → j < k → frame_word j ≡ frame_word k → HasBit j b → HasBit k b → ⊥)

  -- no signal is without a placement
  abbrev pub EachPlaced : Type 0
  EachPlaced = (s : ℕ) → s < S → (k : ℕ) × (k < P) × (signal_word k ≡ s)

  -- "frame number, master-published, no earlier member"
  abbrev pub MemberSays : ℕ → Type 0
  MemberSays m = (member_word m < F) × (flags_word (member_word m) % 2 ≡ 1) × NotEarlier member_word m

  -- "target (frame < F, existing list, or 0 for kinds 2 and 3)"
  abbrev pub TargetSays : ℕ → Type 0
  TargetSays e =
      (entry_kind_word e ≡ 0 → target_word e < F)
      × (entry_kind_word e ≡ 1 → (m : ℕ) × (m < M) × (list_word m ≡ target_word e))
      × (entry_kind_word e ≡ 2 → target_word e ≡ 0)
      × (entry_kind_word e ≡ 3 → target_word e ≡ 0)

  -- ---- the word at position p is right: what the papers say of the column that it stands in

  pub record RightAt (p : ℕ) : Type 0 where
    pub frames : p ≡ 0 → F ≤ 60
    pub signals : p ≡ 1 → S ≤ 256
    pub members : p ≡ 2 → M ≤ 60
    pub entries : p ≡ 3 → E ≤ 256
    pub placements : p ≡ 4 → P ≤ 512
    pub identifier : (f : ℕ) → f < F → p ≡ 5 + 3 * f → (identifier_word f ≤ 59) × NotEarlier identifier_word f
    pub length : (f : ℕ) → f < F → p ≡ 5 + 3 * f + 1 → (1 ≤ length_word f) × (length_word f ≤ 8)
    pub flags : (f : ℕ) → f < F → p ≡ 5 + 3 * f + 2 → flags_word f ≤ 3
    pub kind : (s : ℕ) → s < S → p ≡ signals_at + 3 * s → kind_word s ≤ 1
    pub width : (s : ℕ) → s < S → p ≡ signals_at + 3 * s + 1 → WidthSays s
    pub start : (s : ℕ) → s < S → p ≡ signals_at + 3 * s + 2 → StartSays s
    pub signal : (k : ℕ) → k < P → p ≡ placements_at + 3 * k → SignalSays k
    pub frame : (k : ℕ) → k < P → p ≡ placements_at + 3 * k + 1 → FrameSays k
    pub offset : (k : ℕ) → k < P → p ≡ placements_at + 3 * k + 2 → OffsetSays k
    -- "a missing one shows at the word that skips it or directly behind the last"
    pub placed : p ≡ members_at → EachPlaced
    pub list : (m : ℕ) → m < M → p ≡ members_at + 2 * m → CountsOn list_word m
    pub member : (m : ℕ) → m < M → p ≡ members_at + 2 * m + 1 → MemberSays m
    pub schedule : (e : ℕ) → e < E → p ≡ entries_at + 4 * e → CountsOn schedule_word e
    pub entry_kind_lem : (e : ℕ) → e < E → p ≡ entries_at + 4 * e + 1 → entry_kind_word e ≤ 3
    pub target : (e : ℕ) → e < E → p ≡ entries_at + 4 * e + 2 → TargetSays e
    pub delay : (e : ℕ) → e < E → p ≡ entries_at + 4 * e + 3 → (1 ≤ delay_word e) × (delay_word e ≤ 65535)

  -- a word that is due and there is wrong, one that is due is missing, one behind the last is surplus
  abbrev pub Wrong : ℕ → Type 0
  Wrong p = (p < words_due) × (p < length t) × (RightAt p → ⊥)

  abbrev pub Missing : ℕ → Type 0
  Missing p = (p < words_due) × (length t ≡ p)

  abbrev pub Surplus : ℕ → Type 0
  Surplus p = (p ≡ words_due) × (p < length t)

  -- a placement is missing: told directly behind the last, whatever word stands there, or none
  abbrev pub Unplaced : ℕ → Type 0
  Unplaced p = (p ≡ members_at) × (EachPlaced → ⊥)

  -- "the position of the first word that is wrong, missing or surplus"
  pub record FirstWrong (p : ℕ) : Type 0 where
    pub before : (j : ℕ) → j < p → (j < length t) × (j < words_due) × RightAt j
    pub there : Wrong p ⊎ Missing p ⊎ Surplus p ⊎ Unplaced p
