-- What the check knows of the records that passed, section by section; only private contracts cite this.
use Rattle.std.specs.Prelude.{ℕ, zero, suc, ◌+◌, ◌*◌, ◌<◌, ◌≤◌, ◌≡◌, Bool, true, false, not, cond, ◌&&◌, List, eqb, length, get_or}
use Rattle.std.specs.Bool.{beq}
use Rattle.wire.specs.Bits.{bit}
use Rattle.cluster.specs.declared.entries.Passed as entry
use Rattle.cluster.specs.declared.frames.Passed as frame
use Rattle.cluster.specs.declared.members.Passed as member
use Rattle.cluster.specs.declared.placements.Mark.{Mark}
use Rattle.cluster.specs.declared.placements.Passed.{Passed}
use Rattle.cluster.specs.declared.signals.Passed as signal
use Rattle.cluster.specs.Places.{any_below}
use Rattle.cluster.specs.Read.{InLimits, RecordsBefore}
use Rattle.cluster.specs.Table.{most_frames, identifiers, counted, frame_count, signal_count, entry_count, list_count, frame_at, signal_at, member_at, entry_at}
use Rattle.cluster.specs.Right.{counts_up, mixed, occupied_before}
use Rattle.cluster.specs.Table.{placement_at, published, placement_signal, placement_frame}
use Rattle.cluster.specs.Table.{identifier, member_list, member_frame, entry_schedule}

-- the marks say of each number whether one of the first n records has it
abbrev pub Marks : ℕ → (ℕ → ℕ) → ℕ → List Bool → Type 0
Marks size key n marks = (length marks ≡ size) × ((x : ℕ) → get_or marks x false ≡ any_below n (λ k. eqb (key k) x))

-- the first f frames passed
pub record FramesPassed (t : List ℕ) (f : ℕ) (x : frame.Passed) : Type 0 where
  pub limits : InLimits t
  pub whole : x.whole ≡ true → frame_at (frame_count t) ≤ length t
  pub used : Marks identifiers (identifier t) f x.used

-- the first s signals passed
pub record SignalsPassed (t : List ℕ) (s : ℕ) (x : signal.Passed) : Type 0 where
  pub limits : InLimits t
  pub first : x.first ≡ signal_at t 0

-- the first m members passed
pub record MembersPassed (t : List ℕ) (m : ℕ) (x : member.Passed) : Type 0 where
  pub limits : InLimits t
  pub records : RecordsBefore t
  pub first : x.first ≡ member_at t 0
  pub listed : Marks most_frames (member_frame t) m x.listed
  pub lists : x.lists ≡ counted (member_list t) m
  pub few : x.lists ≤ m

-- the first e entries passed
pub record EntriesPassed (t : List ℕ) (e : ℕ) (x : entry.Passed) : Type 0 where
  pub limits : InLimits t
  pub first : x.first ≡ entry_at t 0
  pub whole : x.whole ≡ true → entry_at t (entry_count t) ≤ length t
  pub frames : x.frames ≡ frame_count t
  pub lists : x.lists ≡ list_count t
  pub lists_high : x.lists ≤ 65536
  pub schedules : x.schedules ≡ counted (entry_schedule t) e
  pub few : x.schedules ≤ e

-- ---- the placements

-- what is known of a frame before the first placement
abbrev pub unmarked : Mark
unmarked = record { occupied = 0; last = 0 }

-- the signal placed in a frame last (plus one), and the bits occupied in it, as the marks say
abbrev pub last_of : Passed → ℕ → ℕ
last_of x f = (get_or x.marks f unmarked).last

abbrev pub occupied_of : Passed → ℕ → ℕ
occupied_of x f = (get_or x.marks f unmarked).occupied

-- their signals and the frame of the last one are there, and no frame is marked with a later signal
pub record PlacedBefore (t : List ℕ) (x : Passed) : Type 0 where
  pub signals : x.placed ≤ signal_count t
  pub frame : 0 < x.placed → x.frame < frame_count t
  pub marks : (f : ℕ) → last_of x f ≤ x.placed

-- a placement of signal s in frame f is of the same signal as the one before, which is in a frame of the other publisher
abbrev pub mixes : List ℕ → Passed → ℕ → ℕ → Bool
mixes t x s f = eqb (s + 1) x.placed && not (beq (published t x.frame) (published t f))

-- one more than the signal of the last of the first k placements that is in frame f; 0 where none is
unfoldable pub last_in : List ℕ → ℕ → ℕ → ℕ
last_in t zero f = 0
last_in t (suc k) f = cond (eqb (placement_frame t k) f) (suc (placement_signal t k)) (last_in t k f)

-- the frame of the placement before placement k
unfoldable pub frame_before : List ℕ → ℕ → ℕ
frame_before t zero = 0
frame_before t (suc k) = placement_frame t k

-- each of the first n numbers counts up
abbrev pub CountsUp : (ℕ → ℕ) → ℕ → Type 0
CountsUp number n = (k : ℕ) → k < n → counts_up number k ≡ true

-- bit j of the number of frame f says whether bit j of the frame belongs to one of the first n placements
abbrev pub BitMarks : List ℕ → ℕ → (ℕ → ℕ) → Type 0
BitMarks t n bits = (f j : ℕ) → j < 64 → bit (bits f) j ≡ occupied_before t n (64 * f + j)

-- the first k placements passed: their bits and signals are marked, their signals counted, and each signal has one publisher
pub record PlacementsPassed (t : List ℕ) (k : ℕ) (x : Passed) : Type 0 where
  pub limits : InLimits t
  pub records : RecordsBefore t
  pub first : x.first ≡ placement_at t 0
  pub size : length x.marks ≡ most_frames
  pub bits : BitMarks t k (occupied_of x)
  pub lasts : (f : ℕ) → last_of x f ≡ last_in t k f
  pub counts : x.placed ≡ counted (placement_signal t) k
  pub before : x.frame ≡ frame_before t k
  pub there : PlacedBefore t x
  pub up : CountsUp (placement_signal t) k
  pub one : (j : ℕ) → j < k → mixed t j ≡ false
