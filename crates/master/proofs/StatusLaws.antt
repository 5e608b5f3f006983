-- Laws of status: what a counted transfer does to its parts, that they stay until they are read, and the bits of the word.
use Prim.Native.Nat.{ℕ, ◌+◌, ◌*◌, ◌/◌, ◌%◌, ◌^◌, ◌<◌}
use mathlib.Core.Path.{◌≡◌, refl}
use mathlib.Core.Bool.{Bool, true, false, ◌||◌}
use mathlib.Core.List.{List}
use native.Mathlib.Omega.{arith}
use borrow.Author.Tests.{eq-eqb, ne_eqb}
use lib.Dec.{eqb}
use Rattle.wire.specs.Bits.{bit, digit}
use Rattle.wire.proofs.Tests.{digit_below}
use Rattle.transport.proofs.Tests.{whether}
use Rattle.master.specs.declared.state.Status.{Status}
use Rattle.master.specs.declared.state.State.{State}
use Rattle.master.specs.Answers.{StatusRead}
use Rattle.master.specs.Transfers.{is_open}
use Rattle.master.specs.Admit.{admitted, buffer_size}
use Rattle.master.specs.Status.{with_counted, status_after, status_word, status_of}
use Rattle.master.specs.Closing.{failed}
use Rattle.master.specs.Tick.{abandoned}
use Rattle.master.proofs.Admitted.{admitted_taken, admitted_fits, admits, fits_clauses, fits_all}
use Rattle.master.proofs.FitsKept.{status_fits}
use Rattle.master.proofs.Tests.{or_true, or_false}
use Rattle.master.proofs.Answered.{by_verdict}
use Rattle.master.specs.State.{with_status}
use Rattle.master.specs.Fresh.{no_status}
use Rattle.std.specs.Prelude.{Ok}

-- ---- what a counted transfer does

module _ (x : Status) (last : ℕ) where
  -- a failed transfer sets the error bit
  pub counted_error : (with_counted x false last).error ≡ true
  unfolding with_counted
  counted_error = or_true x.error

  -- a successful transfer sets the success bit
  pub counted_success : (with_counted x true last).success ≡ true
  unfolding with_counted
  counted_success = or_true x.success

  -- a counted transfer is the last one
  pub counted_last : (success : Bool) → (with_counted x success last).last ≡ last
  unfolding with_counted
  counted_last success = refl

  -- a successful transfer leaves the error bit
  pub error_only : (with_counted x true last).error ≡ x.error
  unfolding with_counted
  error_only = or_false x.error

  -- a failed transfer leaves the success bit
  pub success_only : (with_counted x false last).success ≡ x.success
  unfolding with_counted
  success_only = or_false x.success

-- every bit that is set in one status is set in another
pub record Stays (x y : Status) : Type 0 where
  pub error_stays : x.error ≡ true → y.error ≡ true
  pub success_stays : x.success ≡ true → y.success ≡ true
  pub overrun_stays : x.overrun ≡ true → y.overrun ≡ true

-- "either stays set until read", and so does overrun
pub stays_set : (x : Status) (counts success : Bool) (last : ℕ) → Stays x (status_after x counts success last)
unfolding with_counted
stays_set x true success last = record {
  error_stays = λ h. rw h;
  success_stays = λ h. rw h;
  overrun_stays = λ h. rw h;
}
stays_set x false success last = record {
  error_stays = λ h. h;
  success_stays = λ h. h;
  overrun_stays = λ h. h;
}

-- overrun stays set
pub overrun_stays : (x : Status) (success : Bool) (last : ℕ) → x.overrun ≡ true → (with_counted x success last).overrun ≡ true
unfolding with_counted
overrun_stays x success last h = rw h

some_bit : (x : Status) (success : Bool) (last : ℕ) → ((with_counted x success last).error || (with_counted x success last).success) ≡ true
unfolding with_counted
some_bit x true last = rw (or_true x.success) (or_true (x.error || false))
some_bit x false last = rw (or_true x.error)

-- "overrun means two or more since the last reading": not after the first transfer counted
pub overrun_first : (x : Status) (success : Bool) (last : ℕ) → x.error ≡ false → x.success ≡ false → x.overrun ≡ false
    → (with_counted x success last).overrun ≡ false
unfolding with_counted
overrun_first x success last e s o = rw (e, s, o)

-- but after the second
pub overrun_second : (x : Status) (first second : Bool) (last later : ℕ) → (with_counted (with_counted x first last) second later).overrun ≡ true
unfolding with_counted
overrun_second x first second last later = rw (some_bit x first last) (or_true (with_counted x first last).overrun)

-- "Only closed transfers with at least one response byte count": a slot that closes one without any leaves status as it was
pub uncounted : (t : List ℕ) (s : State) → s.transfer.count ≡ 0 → (abandoned t s).status ≡ s.status
unfolding abandoned failed
uncounted t s h = whether (is_open s.transfer.opened) (λ y. rw (y, h)) (λ n. rw n)

-- ---- reading

-- what an accepted reading answers, the state that it leaves, and what another one answers then
pub record Cleared (t : List ℕ) (s : State) : Type 0 where
  pub answers : (status_of t s).answer ≡ Ok (status_word s.status)
  pub cleared : status_word (status_of t s).state.status ≡ 0
  pub again : (status_of t (status_of t s).state).answer ≡ Ok 0

-- "Reading sets it to 0."
pub status_cleared : (t : List ℕ) (s : State) (w : ℕ) → (status_of t s).answer ≡ Ok w → Cleared t s
unfolding status_of status_word
status_cleared t s =
    let n = buffer_size t in
    by_verdict (λ (r : StatusRead). (w : ℕ) → r.answer ≡ Ok w → Cleared t s) (admitted t n s) _ _
    (λ r e w k. let z : ◌≡◌ {A = ℕ} 0 1 = cc in absurd (omega arith))
    (λ a w k.
    let after =
    admits t n (with_status s no_status) (admitted_taken t n s a) refl
    (fits_all t (with_status s no_status) (status_fits t s (fits_clauses t s (admitted_fits t n s a)))) in
    record { answers = rw a; cleared = rw a; again = rw (a, after) })

-- ---- the word

low_bit : (b : Bool) (n : ℕ) → eqb ((digit b + 2 * n) % 2) 1 ≡ b
low_bit true n = eq-eqb ((1 + 2 * n) % 2) 1 (omega arith)
low_bit false n = ne_eqb ((0 + 2 * n) % 2) 1 (λ e. omega arith)

-- the bits of the word: error, success, overrun, then the last identifier from bit 8 on, and nothing else
pub record WordBits (x : Status) : Type 0 where
  pub error_bit : bit (status_word x) 0 ≡ x.error
  pub success_bit : bit (status_word x) 1 ≡ x.success
  pub overrun_bit : bit (status_word x) 2 ≡ x.overrun
  pub others : status_word x % 256 < 8
  pub last_part : status_word x / 256 ≡ x.last
  pub small : x.last < 256 → status_word x < 65536

-- every status has its word so
pub word_bits : (x : Status) → WordBits x
unfolding status_word bit
word_bits x =
    let w = digit x.error + 2 * digit x.success + 4 * digit x.overrun + 256 * x.last in
    let b0 = digit_below x.error in
    let b1 = digit_below x.success in
    let b2 = digit_below x.overrun in
    let e0 : w / 2 ^ 0 ≡ digit x.error + 2 * (digit x.success + 2 * digit x.overrun + 128 * x.last) = omega arith in
    let e1 : w / 2 ^ 1 ≡ digit x.success + 2 * (digit x.overrun + 64 * x.last) = omega arith in
    let e2 : w / 2 ^ 2 ≡ digit x.overrun + 2 * (32 * x.last) = omega arith in
    record {
      error_bit = rw e0 (low_bit x.error (digit x.success + 2 * digit x.overrun + 128 * x.last));
      success_bit = rw e1 (low_bit x.success (digit x.overrun + 64 * x.last));
      overrun_bit = rw e2 (low_bit x.overrun (32 * x.last));
      others = omega arith;
      last_part = omega arith;
      small = λ h. omega arith;
    }
