-- What an accepted call knows, call by call.
use Prim.Native.Nat.{ℕ, ◌≤◌, ◌<◌}
use mathlib.Core.Path.{◌≡◌}
use mathlib.Core.Bool.{Bool, true, false}
use mathlib.Core.List.{List}
use lib.Dec.{ltb, leb}
use borrow.Author.Tests.{ltb-true, leb-true}
use Rattle.refusal.specs.Numbers as number
use Rattle.transport.proofs.Tests.{and_right}
use Rattle.transport.specs.Cutting.{is_length}
use Rattle.cluster.specs.Table.{signal_count, member_count}
use Rattle.cluster.specs.Values.{value_fits}
use Rattle.cluster.specs.Check.{TakenTable, RightTable, then}
use Rattle.cluster.proofs.Accepted.{then_first, then_second}
use Rattle.cluster.proofs.ValueLaws.{value_limit}
use Rattle.master.specs.declared.state.State.{State}
use Rattle.master.specs.Transfers.{is_open, open_length}
use Rattle.master.specs.Fits.{lent_fits, state_fits}
use Rattle.master.specs.Admit.{unless, buffer_size, admitted}
use Rattle.master.specs.Write.{writable}
use Rattle.master.specs.Read.{read_verdict}
use Rattle.master.specs.Message.{send_verdict}
use Rattle.master.specs.Tick.{tick_verdict}
use Rattle.master.specs.Byte.{byte_verdict}
use Rattle.master.specs.Ahead.{ahead_verdict}
use Rattle.cluster.specs.Lists.{member_of}
use Rattle.master.proofs.Answered.{Writable, writable_signal}
use Rattle.master.proofs.Admitted.{unless_test, admits, admitted_table, admitted_size, admitted_fits, Fits, fits_clauses}
use Rattle.master.proofs.Admitted.{open_length_high, open_count}
use Rattle.std.specs.Prelude.{Ok}

-- ---- write

module _ (t : List ℕ) (n : ℕ) (x : State) (s : ℕ) (array fits : Bool) (h : then (admitted t n x) (writable t s array fits) ≡ Ok tt) where
  pub write_table : RightTable t
  write_table = admitted_table t n x (then_first (admitted t n x) (writable t s array fits) h)

  pub write_signal : Writable t s array fits
  write_signal = writable_signal t s array fits (then_second (admitted t n x) (writable t s array fits) h)

-- an accepted scalar is a number of 16 bits
pub write_value_below : (t : List ℕ) (n : ℕ) (x : State) (s v : ℕ)
    → then (admitted t n x) (writable t s false (value_fits t s v)) ≡ Ok tt → v < 65536
write_value_below t n x s v h =
    let fits = value_fits t s v in
    let w = write_signal t n x s false fits h in
    value_limit t (write_table t n x s false fits h) s w.below w.kind_is v w.value_fits_lem

-- ---- read

module _ (t : List ℕ) (n : ℕ) (x : State) (s : ℕ) (array : Bool) (h : read_verdict t n x s array ≡ Ok tt) where
  pub read_table : RightTable t
  unfolding read_verdict
  read_table = admitted_table t n x (then_first (admitted t n x) _ h)

  pub read_signal : s < signal_count t
  unfolding read_verdict
  read_signal = ltb-true s (signal_count t) (unless_test (ltb s (signal_count t)) number.unknown _ (then_second (admitted t n x) _ h))

-- ---- send

pub send_length : (t : List ℕ) (s : State) (n : ℕ) → send_verdict t s n ≡ Ok tt → n ≤ 4095
unfolding send_verdict
send_length t s n h =
    let rest = then_second (admitted t (buffer_size t) s) _ h in
    leb-true n 4095 (and_right (leb 1 n) (leb n 4095) (unless_test (is_length n) number.message_length _ rest))

-- ---- number ahead

module _ (t : List ℕ) (s : State) (f : ℕ) (h : ahead_verdict t s f ≡ Ok tt) where
  pub ahead_member : member_of t f < member_count t
  unfolding ahead_verdict
  ahead_member =
      ltb-true (member_of t f) (member_count t)
      (unless_test (ltb (member_of t f) (member_count t)) number.unknown (Ok tt) (then_second (admitted t (buffer_size t) s) _ h))

-- ---- tick

module _ (t : List ℕ) (n lent : ℕ) (s : State) (h : tick_verdict t n lent s ≡ Ok tt) where
  pub tick_admitted : admitted t n s ≡ Ok tt
  unfolding tick_verdict
  tick_admitted = then_first (admitted t n s) _ h

  pub tick_size : n ≡ buffer_size t
  tick_size = admitted_size t n s tick_admitted

  pub tick_fits : Fits t s
  tick_fits = fits_clauses t s (admitted_fits t n s tick_admitted)

-- ---- byte in

module _ (t : List ℕ) (n : ℕ) (s : State) (h : byte_verdict t n s ≡ Ok tt) where
  pub byte_admitted : admitted t n s ≡ Ok tt
  unfolding byte_verdict
  byte_admitted = then_first (admitted t n s) _ h

  pub byte_table : RightTable t
  byte_table = admitted_table t n s byte_admitted

  pub byte_size : n ≡ buffer_size t
  byte_size = admitted_size t n s byte_admitted

  pub byte_fits : Fits t s
  byte_fits = fits_clauses t s (admitted_fits t n s byte_admitted)

  pub byte_open : is_open s.transfer.opened ≡ true
  unfolding byte_verdict
  byte_open = unless_test (is_open s.transfer.opened) number.no_transfer (Ok tt) (then_second (admitted t n s) _ h)

  pub byte_length_high : open_length t s.transfer.opened ≤ 8
  byte_length_high = open_length_high t byte_table s.transfer.opened byte_fits.frame_there_lem

  pub byte_count : s.transfer.count ≤ open_length t s.transfer.opened
  byte_count = open_count t s byte_fits.count_fits_lem byte_open

-- in a state that fits, only a lent message of another length brings a 3 on tick
pub tick_refusal : (t : List ℕ) (n lent : ℕ) (s : State) → TakenTable t → n ≡ buffer_size t → state_fits t s ≡ true
    → tick_verdict t n lent s ≡ unless (lent_fits s.message lent) number.state (Ok tt)
unfolding tick_verdict
tick_refusal t n lent s ok e h = rw (admits t n s ok e h)
