-- Document 01, "The cluster table": what the table check answers.
use Rattle.std.specs.Prelude.{ℕ, suc, ◌≡◌, Bool, cond, ◌&&◌, List, [], ◌∷◌, ltb, length}
use Rattle.refusal.specs.Numbers.{table, refused_at}
use Rattle.cluster.specs.Table.{frame_count, signal_count, member_count, entry_count, placement_count}
use Rattle.cluster.specs.Table.{frame_at, signal_at, placement_at, member_at, entry_at, size}
use Rattle.cluster.specs.Right.{records, header_right, frame_right, signal_right, placement_right, all_placed, member_right, entry_right, words_right}
use Rattle.std.specs.Prelude.{Result, Ok, Err, ⊤}
use Rattle.refusal.specs.declared.Refusal.{Refusal}

-- what the table check answers: nothing where it accepts, or the refusal
abbrev pub Verdict : Type 0
Verdict = Result ⊤ Refusal

-- "refusal 1" with the position
abbrev pub fault : ℕ → Verdict
fault i = Err (refused_at table i)

-- the first word from position i on that is missing or wrong
unfoldable pub faults : List ℕ → ℕ → List Bool → Verdict
faults t i [] = Ok tt
faults t i (right ∷ rest) = cond (ltb i (length t) && right) (faults t (suc i) rest) (fault i)

-- a first judgement, and a second one where the first accepts
abbrev pub then : Verdict → Verdict → Verdict
then (Ok tt) v = v
then (Err r) v = Err r

-- the first fault of each section, where the sections before have none
abbrev pub header_faults : List ℕ → Verdict
header_faults t = faults t 0 (header_right t)

abbrev pub frame_faults : List ℕ → Verdict
frame_faults t = faults t (frame_at 0) (records 0 (frame_count t) (frame_right t))

abbrev pub signal_faults : List ℕ → Verdict
signal_faults t = faults t (signal_at t 0) (records 0 (signal_count t) (signal_right t))

abbrev pub placement_faults : List ℕ → Verdict
placement_faults t = faults t (placement_at t 0) (records 0 (placement_count t) (placement_right t))

-- refusal 1 "also covers a signal with no placement", told "directly behind the last" one
unfoldable pub unplaced : List ℕ → Verdict
unplaced t = cond (all_placed t) (Ok tt) (fault (placement_at t (placement_count t)))

abbrev pub member_faults : List ℕ → Verdict
member_faults t = faults t (member_at t 0) (records 0 (member_count t) (member_right t))

abbrev pub entry_faults : List ℕ → Verdict
entry_faults t = faults t (entry_at t 0) (records 0 (entry_count t) (entry_right t))

-- a word behind the last record is surplus
unfoldable pub surplus : List ℕ → Verdict
surplus t = cond (ltb (size t) (length t)) (fault (size t)) (Ok tt)

-- "The table check accepts, or gives the position of the first word that is wrong, missing or surplus."
unfoldable pub judged : List ℕ → Verdict
judged t = then (faults t 0 (words_right t)) (surplus t)

-- the table check accepts the table
abbrev pub RightTable : List ℕ → Type 0
RightTable t = judged t ≡ Ok tt

-- what a call asks of its table before all else: refusal 1, "the table check finds a fault"
unfoldable pub taken_of : List ℕ → Verdict
taken_of t = judged t

-- a call takes the table
abbrev pub TakenTable : List ℕ → Type 0
TakenTable t = taken_of t ≡ Ok tt
