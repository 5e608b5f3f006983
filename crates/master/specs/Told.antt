-- Document 01, "Refusal numbers": what each call tells. "Each call tests those that concern it; the lowest number is given."; where every test holds, its
-- values. Every public call has a clause that says so by these definitions.
use Rattle.std.specs.Prelude.{ℕ, suc, ◌*◌, true, false, cond, not, List, [], ◌∷◌, ltb, eqb, length}
use Rattle.std.specs.Bool.{beq}
use Rattle.refusal.specs.Answers.{Told, Test, test, gives, refuses, first_failing, behind, told_at}
use Rattle.cluster.specs.Check.{taken_of}
use Rattle.cluster.specs.Answers.{behind_table}
use Rattle.cluster.specs.Table.{frame_count, signal_count, is_array, member_count, schedule_count}
use Rattle.cluster.specs.Lists.{member_of, frames_ahead}
use Rattle.cluster.specs.Values.{signal_published}
use Rattle.transport.specs.Cutting.{is_length}
use Rattle.master.specs.declared.state.State.{State}
use Rattle.master.specs.Fits.{state_fits, is_sending, lent_fits}
use Rattle.master.specs.declared.state.Opened.{Opened}
use Rattle.master.specs.Transfers.{is_open, open_protected}
use Rattle.master.specs.Received.{source_of, scalar_from, array_from}
use Rattle.master.specs.Plan.{waits}
use Rattle.master.specs.Write.{is_bytes, fits_signal}
use Rattle.master.specs.Tick.{tick_effect}
use Rattle.master.specs.Status.{status_word}
use Rattle.master.specs.Ahead.{pending_count}
use Rattle.master.specs.Calls as call
use Rattle.master.specs.Calls.{Call}
use Rattle.master.specs.Put.{Put, puts}
use Rattle.master.specs.Run.{Held}
use Rattle.std.specs.Prelude.{Ok, Err}
use Rattle.cluster.specs.Check.{Verdict}

-- a verdict, and the values where it accepts
abbrev pub told_as : Verdict → List ℕ → Told
told_as (Ok tt) vs = gives vs
told_as (Err r) vs = refuses r

-- "the frame buffer isn't 8F bytes"
abbrev pub size_test : List ℕ → ℕ → Test
size_test t size = test 2 (eqb size (8 * frame_count t))

-- "the state doesn't fit the table"
abbrev pub state_test : List ℕ → State → Test
state_test t s = test 3 (state_fits t s)

-- "no such signal", "write to a signal the master doesn't publish", "scalar call on an array or the reverse", "value of 2^width or more; array of
-- another length"
abbrev pub put_tests : List ℕ → Put → List Test
put_tests t w =
    test 4 (ltb w.signal (signal_count t))
    ∷ test 5 (signal_published t w.signal)
    ∷ test 6 (beq (is_array t w.signal) (is_bytes w.value))
    ∷ test 7 (fits_signal t w.signal w.value)
    ∷ []

-- the tests of a call behind 1, in the order of their numbers
unfoldable pub tests_of : List ℕ → Held → Call → List Test
tests_of t x (call.write w) = size_test t (length x.bytes) ∷ state_test t x.state ∷ put_tests t w
tests_of t x (call.read s) =
    size_test t (length x.bytes)
    ∷ state_test t x.state
    ∷ test 4 (ltb s (signal_count t))
    ∷ test 6 (beq (is_array t s) false)
    ∷ []
tests_of t x (call.read_array s) =
    size_test t (length x.bytes)
    ∷ state_test t x.state
    ∷ test 4 (ltb s (signal_count t))
    ∷ test 6 (beq (is_array t s) true)
    ∷ []
tests_of t x (call.select n) = state_test t x.state ∷ test 4 (ltb n (schedule_count t)) ∷ []
tests_of t x (call.tick m) =
    size_test t (length x.bytes) ∷ state_test t x.state ∷ test 3 (lent_fits x.state.message (length m)) ∷ []
tests_of t x (call.byte_in b) =
    size_test t (length x.bytes) ∷ state_test t x.state ∷ test 8 (is_open x.state.transfer.opened) ∷ []
tests_of t x call.read_status = state_test t x.state ∷ []
tests_of t x (call.send nad n) =
    state_test t x.state ∷ test 9 (is_length n) ∷ test 10 (not (is_sending x.state.message)) ∷ []
tests_of t x call.message_state = state_test t x.state ∷ []
tests_of t x (call.number_ahead f) = state_test t x.state ∷ test 4 (ltb (member_of t f) (member_count t)) ∷ []

-- "Opening answers the protected identifier": of what is open behind a slot's start, if anything is
abbrev pub opened_value : List ℕ → Opened → List ℕ
opened_value t o = cond (is_open o) (open_protected t o ∷ []) []

-- the values that an accepted call tells
unfoldable pub values_of : List ℕ → Held → Call → List ℕ
values_of t x (call.write w) = []
values_of t x (call.read s) = scalar_from t x.bytes s (source_of t x.state.received s) ∷ []
values_of t x (call.read_array s) = (array_from t x.bytes s (source_of t x.state.received s)).count ∷ []
values_of t x (call.select n) = []
values_of t x (call.tick m) = cond (waits x.state.plan) [] (opened_value t (tick_effect t x.bytes m x.state).state.transfer.opened)
values_of t x (call.byte_in b) = []
values_of t x call.read_status = status_word x.state.status ∷ []
values_of t x (call.send nad n) = []
values_of t x call.message_state = []
values_of t x (call.number_ahead f) = pending_count x.state.pending (frames_ahead t f) ∷ []

-- what a call tells
unfoldable pub call_told : List ℕ → Held → Call → Told
call_told t x c = behind_table (taken_of t) (first_failing (tests_of t x c) (values_of t x c))

-- what the pairs of a row tell, of which the first has place i
unfoldable pub pairs_told : List ℕ → ℕ → List Put → Told
pairs_told t i [] = gives []
pairs_told t i (w ∷ ws) = behind (told_at i (first_failing (put_tests t w) [])) (pairs_told t (suc i) ws)

-- what a row of values tells: "rows of unequal length are 12, tested after 1 to 3; then the number of the first bad pair, with its place, by 4 to 7"
unfoldable pub row_told : List ℕ → Held → List ℕ → List ℕ → Told
row_told t x ss vs =
    behind_table (taken_of t)
    (behind
    (first_failing (size_test t (length x.bytes) ∷ state_test t x.state ∷ test 12 (eqb (length ss) (length vs)) ∷ []) [])
    (pairs_told t 0 (puts ss vs)))

-- what fresh tells, which is lent some frame bytes
unfoldable pub fresh_call_told : List ℕ → ℕ → Told
fresh_call_told t size = behind_table (taken_of t) (first_failing (size_test t size ∷ []) [])

-- what the tests at the head of the calls tell
unfoldable pub admit_told : List ℕ → ℕ → State → Told
admit_told t size s = behind_table (taken_of t) (first_failing (size_test t size ∷ state_test t s ∷ []) [])
