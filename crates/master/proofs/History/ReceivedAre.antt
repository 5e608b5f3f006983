-- The receptions that the state keeps are those of the history.
use Prim.Native.Nat.{ℕ}
use mathlib.Core.Path.{◌≡◌, refl, ◌∙◌}
use mathlib.Core.Bool.{true, false}
use mathlib.Core.List.{List}
use native.Mathlib.Omega.{arith}
use lib.ListN.{length, get_or, replicate}
use Rattle.cluster.specs.Check.{RightTable}
use Rattle.cluster.proofs.HeaderLaws.{signal_count_lem}
use Rattle.master.specs.declared.state.Opened.{Opened}
use Rattle.master.specs.declared.state.Opened.TheVariants.{Nothing, Frame, Request, Response}
use Rattle.master.specs.declared.state.Reception.{Reception}
use Rattle.master.specs.Fresh.{never_received}
use Rattle.master.specs.Received.{last_of, received_by, scalar_from, array_from}
use Rattle.master.specs.Seq.{Seq, ∅, ◌▹◌}
use Rattle.master.specs.Schedule.{Scheduled}
use Rattle.master.specs.History.{succeeds, open_after}
use Rattle.master.specs.Answering.{received_in, received_after, scalar_read, array_given}
use Rattle.master.specs.Transfers.{format_of, sends}
use Rattle.master.proofs.ReceivedLaws.{never_last, frame_received, received_length}
use Rattle.std.specs.Prelude.{Some, None, Option}

pub record ReceivedAre (t : List ℕ) (h : Seq Scheduled) (rs : List Reception) : Type 0 where
  pub all : length rs ≡ 256
  pub each : (s : ℕ) → last_of rs s ≡ received_after t h s

pub received_fresh : (t : List ℕ) → ReceivedAre t ∅ (replicate 256 never_received)
unfolding received_after
received_fresh t = record { all = refl; each = never_last t 256 }

-- a transfer that the master sends sets none
sent_none : (t : List ℕ) (o : Opened) (s : ℕ) (x : Option ℕ) → sends t o ≡ true → received_in t o s x ≡ x
unfolding received_in format_of
sent_none t Nothing s x y = refl
sent_none t (Frame f) s x y = rw y
sent_none t Request s x y = refl
sent_none t Response s x y = refl

-- one that it receives sets what the definition of the call says
received_same : (t : List ℕ) → RightTable t → (o : Opened) (rs : List Reception) → sends t o ≡ false → length rs ≡ 256 → (s : ℕ)
    → last_of (received_by t o rs) s ≡ received_in t o s (last_of rs s)
unfolding received_in received_by format_of
received_same t ok Nothing rs n l s = refl
received_same t ok (Frame f) rs n l s = rw n (frame_received t ok f rs s (omega (arith, signal_count_lem t ok)))
received_same t ok Request rs n l s = refl
received_same t ok Response rs n l s = refl

module _ (t : List ℕ) (h : Seq Scheduled) (rs : List Reception) (is : ReceivedAre t h rs) (y : Scheduled) where
  -- an event that is no success
  pub received_quiet : succeeds y ≡ false → ReceivedAre t (h ▹ y) rs
  unfolding received_after
  received_quiet n = record { all = is.all; each = λ s. rw n (is.each s) }

  -- a success of a transfer that the master sends
  pub received_sent : succeeds y ≡ true → sends t (open_after t h) ≡ true → ReceivedAre t (h ▹ y) rs
  unfolding received_after
  received_sent w n = record { all = is.all; each = λ s. rw (w, sent_none t (open_after t h) s (received_after t h s) n) (is.each s) }

  -- and of one that it receives
  pub received_success : RightTable t → (o : Opened) → o ≡ open_after t h → succeeds y ≡ true → sends t o ≡ false → ReceivedAre t (h ▹ y) (received_by t o rs)
  unfolding received_after
  received_success ok o e w n = record {
    all = received_length t o rs ∙ is.all;
    each = λ s. received_same t ok o rs n is.all s ∙ rw (w, ← e, is.each s);
  }

-- the value where a read takes it, in the words of the call and of the history
pub scalars_same : (t bs : List ℕ) (s : ℕ) (x : Option ℕ) → scalar_from t bs s x ≡ scalar_read t bs s x
unfolding scalar_from scalar_read
scalars_same t bs s None = refl
scalars_same t bs s (Some k) = refl

pub arrays_same : (t bs : List ℕ) (s : ℕ) (x : Option ℕ) → array_from t bs s x ≡ array_given t bs s x
unfolding array_from array_given
arrays_same t bs s None = refl
arrays_same t bs s (Some k) = refl

-- what is kept of each signal, as the claim says it
pub received_each : (t : List ℕ) (h : Seq Scheduled) (rs : List Reception) → ReceivedAre t h rs → (s : ℕ) → (get_or rs s never_received).last ≡ received_after t h s
unfolding last_of
received_each t h rs is s = is.each s
