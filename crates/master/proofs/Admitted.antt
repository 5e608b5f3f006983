-- What an admitted call knows: the table is right, the buffer has its size, and the state fits clause by clause.
use Prim.Native.Nat.{ℕ, ◌≤◌, ◌<◌}
use mathlib.Core.Path.{◌≡◌, refl}
use mathlib.Core.Bool.{Bool, true, false, ◌&&◌}
use mathlib.Core.List.{List}
use native.Mathlib.Omega.{arith}
use lib.Dec.{eqb}
use borrow.Author.Tests.{ltb-true, leb-true, eqb-true, eq-eqb}
use Rattle.refusal.specs.Numbers.{buffer, state}
use Rattle.transport.proofs.Tests.{and_left, and_right}
use Rattle.cluster.specs.Table.{frame_count}
use Rattle.cluster.specs.Check.{taken_of, TakenTable, RightTable}
use Rattle.cluster.proofs.Accepted.{then_first, then_second}
use Rattle.cluster.proofs.FrameLaws.{identifier_below, frame_length_low, frame_length_high}
use Rattle.master.specs.declared.state.Opened.{Opened}
use Rattle.master.specs.declared.state.Opened.TheVariants.{Nothing, Frame, Request, Response}
use Rattle.master.specs.declared.state.State.{State}
use Rattle.master.specs.Received.{received_fits}
use Rattle.master.specs.Transfers.{format_of, is_open, open_length, open_identifier}
use Rattle.master.specs.Fits.{entry_there, schedule_there, frame_there, wait_fits, pending_fits, can_open, count_fits, message_fits, state_fits}
use Rattle.master.specs.Admit.{unless, buffer_size, admitted}
use Rattle.cluster.proofs.TakenLaws.{taken_right}
use Rattle.std.specs.Prelude.{Ok}
use Rattle.cluster.specs.Check.{Verdict}

-- a test in front of a verdict that accepts holds, and what is behind it accepts
pub unless_test : (b : Bool) (n : ℕ) (v : Verdict) → unless b n v ≡ Ok tt → b ≡ true
unless_test true n v h = refl
unless_test false n v h = cc

pub unless_rest : (b : Bool) (n : ℕ) (v : Verdict) → unless b n v ≡ Ok tt → v ≡ Ok tt
unless_rest true n v h = h
unless_rest false n v h = cc

module _ (t : List ℕ) (n : ℕ) (s : State) (h : admitted t n s ≡ Ok tt) where
  behind : unless (eqb n (buffer_size t)) buffer (unless (state_fits t s) state (Ok tt)) ≡ Ok tt
  unfolding admitted
  behind = then_second (taken_of t) _ h

  -- the table is taken, and so it is right
  pub admitted_taken : TakenTable t
  unfolding admitted
  admitted_taken = then_first (taken_of t) _ h

  pub admitted_table : RightTable t
  admitted_table = taken_right t admitted_taken

  -- the buffer has its size
  pub admitted_size : n ≡ buffer_size t
  admitted_size = eqb-true n (buffer_size t) (unless_test (eqb n (buffer_size t)) buffer _ behind)

  -- the state fits
  pub admitted_fits : state_fits t s ≡ true
  admitted_fits = unless_test (state_fits t s) state (Ok tt) (unless_rest (eqb n (buffer_size t)) buffer _ behind)

-- what admits is just these three
pub admits : (t : List ℕ) (n : ℕ) (s : State) → TakenTable t → n ≡ buffer_size t → state_fits t s ≡ true → admitted t n s ≡ Ok tt
unfolding admitted
admits t n s ok e f = rw (ok, eq-eqb n (buffer_size t) e, f)

-- every clause of a state that fits
pub record Fits (t : List ℕ) (s : State) : Type 0 where
  pub entry_there_lem : entry_there t s.plan.current ≡ true
  pub schedule_there_lem : schedule_there t s.plan.requested ≡ true
  pub frame_there_lem : frame_there t s.transfer.opened ≡ true
  pub wait_fits_lem : wait_fits t s.plan ≡ true
  pub pending_fits_lem : pending_fits t 0 s.pending ≡ true
  pub can_open_lem : can_open t s.message s.plan.current s.transfer.opened ≡ true
  pub count_fits_lem : count_fits t s.transfer ≡ true
  pub message_fits_lem : message_fits s.message ≡ true
  pub receptions_fit : received_fits t 0 s.received ≡ true

-- each of nine tests that hold together holds
nine : (a b c d e f g h i : Bool) → (a && b && c && d && e && f && g && h && i) ≡ true
    → (a ≡ true) × (b ≡ true) × (c ≡ true) × (d ≡ true) × (e ≡ true) × (f ≡ true) × (g ≡ true) × (h ≡ true) × (i ≡ true)
nine a b c d e f g h i k8 =
    let k7 = and_left (a && b && c && d && e && f && g && h) i k8 in
    let k6 = and_left (a && b && c && d && e && f && g) h k7 in
    let k5 = and_left (a && b && c && d && e && f) g k6 in
    let k4 = and_left (a && b && c && d && e) f k5 in
    let k3 = and_left (a && b && c && d) e k4 in
    let k2 = and_left (a && b && c) d k3 in
    let k1 = and_left (a && b) c k2 in (
      and_left a b k1,
      and_right a b k1,
      and_right (a && b) c k2,
      and_right (a && b && c) d k3,
      and_right (a && b && c && d) e k4,
      and_right (a && b && c && d && e) f k5,
      and_right (a && b && c && d && e && f) g k6,
      and_right (a && b && c && d && e && f && g) h k7,
      and_right (a && b && c && d && e && f && g && h) i k8,
    )

-- each clause of a state that fits holds
pub fits_clauses : (t : List ℕ) (s : State) → state_fits t s ≡ true → Fits t s
unfolding state_fits
fits_clauses t s h =
    let w =
    nine (entry_there t s.plan.current) (schedule_there t s.plan.requested) (frame_there t s.transfer.opened) (wait_fits t s.plan)
    (pending_fits t 0 s.pending) (can_open t s.message s.plan.current s.transfer.opened) (count_fits t s.transfer)
    (message_fits s.message) (received_fits t 0 s.received) h
    in
    record {
      entry_there_lem = w.0;
      schedule_there_lem = w.1;
      frame_there_lem = w.2;
      wait_fits_lem = w.3;
      pending_fits_lem = w.4;
      can_open_lem = w.5;
      count_fits_lem = w.6;
      message_fits_lem = w.7;
      receptions_fit = w.8;
    }

-- and back: a state of which every clause holds fits
pub fits_all : (t : List ℕ) (s : State) → Fits t s → state_fits t s ≡ true
unfolding state_fits
fits_all t s f =
    rw (
      f.entry_there_lem,
      f.schedule_there_lem,
      f.frame_there_lem,
      f.wait_fits_lem,
      f.pending_fits_lem,
      f.can_open_lem,
      f.count_fits_lem,
      f.message_fits_lem,
      f.receptions_fit,
    )

-- ---- numbers of an open transfer of which the frame is there

module _ (t : List ℕ) (ok : RightTable t) where
  pub frame_below : (f : ℕ) → frame_there t (Frame f) ≡ true → f < frame_count t
  frame_below f h = ltb-true f (frame_count t) h

  -- its identifier is one of 0..63
  pub open_identifier_lem : (o : Opened) → frame_there t o ≡ true → open_identifier t o < 64
  unfolding format_of
  open_identifier_lem Nothing h = omega arith
  open_identifier_lem (Frame f) h = omega (arith, identifier_below t ok f (frame_below f h))
  open_identifier_lem Request h = omega arith
  open_identifier_lem Response h = omega arith

  -- it has at least one data byte
  pub open_length_low : (o : Opened) → frame_there t o ≡ true → is_open o ≡ true → 1 ≤ open_length t o
  unfolding format_of
  open_length_low Nothing h p =
      let z : ◌≡◌ {A = ℕ} 0 1 = cc in absurd (omega arith)
  open_length_low (Frame f) h p = frame_length_low t ok f (frame_below f h)
  open_length_low Request h p = omega arith
  open_length_low Response h p = omega arith

  -- it has at most eight
  pub open_length_high : (o : Opened) → frame_there t o ≡ true → open_length t o ≤ 8
  unfolding format_of
  open_length_high Nothing h = omega arith
  open_length_high (Frame f) h = frame_length_high t ok f (frame_below f h)
  open_length_high Request h = omega arith
  open_length_high Response h = omega arith

-- an open transfer has fewer bytes than close it
pub open_count : (t : List ℕ) (s : State) → count_fits t s.transfer ≡ true → is_open s.transfer.opened ≡ true
    → s.transfer.count ≤ open_length t s.transfer.opened
unfolding count_fits
open_count t s h p = leb-true _ _ (rw p at h)
