-- The state that a step of a call leaves fits the same table: marking, asking, waiting, reading, sending, closing, and one more byte.
use Prim.Native.Nat.{ℕ, ◌+◌, ◌-◌, ◌<◌}
use mathlib.Core.Path.{◌≡◌, refl}
use mathlib.Core.Bool.{Bool, true, false}
use mathlib.Core.List.{List}
use native.Mathlib.Omega.{arith}
use borrow.Author.Tests.{ltb-true, lt-ltb, leb-true, le-leb}
use Rattle.cluster.specs.Check.{RightTable}
use Rattle.cluster.specs.Table.{signal_count, schedule_count}
use Rattle.cluster.specs.Values.{signal_published}
use Rattle.transport.specs.Cutting.{is_length}
use Rattle.transport.proofs.Tests.{whether}
use Rattle.master.specs.declared.state.Message.TheVariants as message
use Rattle.master.specs.declared.state.State.{State}
use Rattle.master.specs.Fresh.{fresh}
use Rattle.master.specs.Transfers.{is_open, open_length, sends}
use Rattle.master.specs.Fits.{current_delay, wait_fits, can_open}
use Rattle.master.specs.Fits.{count_fits, message_fits, state_fits}
use Rattle.master.specs.Write.{marked, rewritten}
use Rattle.master.specs.Plan.{asking, waited}
use Rattle.master.specs.Message.{message_sent, message_failed}
use Rattle.master.specs.Closing.{failed, sent, received}
use Rattle.master.specs.Byte.{passed, early}
use Rattle.master.proofs.Admitted.{Fits}
use Rattle.master.proofs.MessageFits.{message_failed_fits, message_sent_fits, first_frame_fits, nothing_open, open_sending}
use Rattle.master.proofs.ReceivedLaws.{never_fits, by_fits}
use Rattle.master.proofs.PendingFits.{none_pending, sent_fits, marks_fit}
use Rattle.master.specs.State.{with_message, with_plan, with_status}
use Rattle.master.specs.Fresh.{no_status}

-- the fresh state fits every table
pub fresh_fits : (t : List ℕ) → state_fits t fresh ≡ true
unfolding state_fits fresh wait_fits can_open count_fits message_fits
fresh_fits t = rw (none_pending t 0 60, never_fits t 0 256)

module _ (t : List ℕ) (s : State) (fits : Fits t s) where
  -- the state after a write of a published signal fits
  pub marked_fits : RightTable t → (s' : ℕ) → s' < signal_count t → signal_published t s' ≡ true → Fits t (marked t s' s)
  unfolding marked rewritten count_fits
  marked_fits ok s' hs p = record {
    entry_there_lem = fits.entry_there_lem;
    schedule_there_lem = fits.schedule_there_lem;
    frame_there_lem = fits.frame_there_lem;
    wait_fits_lem = fits.wait_fits_lem;
    pending_fits_lem = marks_fit t ok s' hs p 0 s.pending fits.pending_fits_lem;
    can_open_lem = fits.can_open_lem;
    count_fits_lem = fits.count_fits_lem;
    message_fits_lem = fits.message_fits_lem;
    receptions_fit = fits.receptions_fit;
  }

  -- the state after a select of a schedule that is there fits
  pub asking_fits : (n : ℕ) → n < schedule_count t → Fits t (with_plan s (asking s.plan n))
  unfolding wait_fits
  asking_fits n h = record {
    entry_there_lem = fits.entry_there_lem;
    schedule_there_lem = lt-ltb n (schedule_count t) h;
    frame_there_lem = fits.frame_there_lem;
    wait_fits_lem = fits.wait_fits_lem;
    pending_fits_lem = fits.pending_fits_lem;
    can_open_lem = fits.can_open_lem;
    count_fits_lem = fits.count_fits_lem;
    message_fits_lem = fits.message_fits_lem;
    receptions_fit = fits.receptions_fit;
  }

  -- the state after a waiting tick fits
  pub waited_fits : Fits t (with_plan s (waited s.plan))
  unfolding wait_fits
  waited_fits = record {
    entry_there_lem = fits.entry_there_lem;
    schedule_there_lem = fits.schedule_there_lem;
    frame_there_lem = fits.frame_there_lem;
    wait_fits_lem = le-leb (s.plan.wait - 1) (current_delay t s.plan.current)
        (omega (arith, leb-true s.plan.wait (current_delay t s.plan.current) fits.wait_fits_lem));
    pending_fits_lem = fits.pending_fits_lem;
    can_open_lem = fits.can_open_lem;
    count_fits_lem = fits.count_fits_lem;
    message_fits_lem = fits.message_fits_lem;
    receptions_fit = fits.receptions_fit;
  }

  -- the state after a status reading fits
  pub status_fits : Fits t (with_status s no_status)
  status_fits = record {
    entry_there_lem = fits.entry_there_lem;
    schedule_there_lem = fits.schedule_there_lem;
    frame_there_lem = fits.frame_there_lem;
    wait_fits_lem = fits.wait_fits_lem;
    pending_fits_lem = fits.pending_fits_lem;
    can_open_lem = fits.can_open_lem;
    count_fits_lem = fits.count_fits_lem;
    message_fits_lem = fits.message_fits_lem;
    receptions_fit = fits.receptions_fit;
  }

  -- the state after a send of a message with a right length fits
  pub send_fits : (nad n : ℕ) → is_length n ≡ true → Fits t (with_message s (message.Sending (record { nad = nad; length = n; next = 0 })))
  send_fits nad n h = record {
    entry_there_lem = fits.entry_there_lem;
    schedule_there_lem = fits.schedule_there_lem;
    frame_there_lem = fits.frame_there_lem;
    wait_fits_lem = fits.wait_fits_lem;
    pending_fits_lem = fits.pending_fits_lem;
    can_open_lem = open_sending t s.message _ s.plan.current s.transfer.opened refl fits.can_open_lem;
    count_fits_lem = fits.count_fits_lem;
    message_fits_lem = first_frame_fits nad n h;
    receptions_fit = fits.receptions_fit;
  }

  -- the state after a failed transfer fits
  pub failed_fits : (counts : Bool) → Fits t (failed t s counts)
  unfolding failed count_fits
  failed_fits counts = record {
    entry_there_lem = fits.entry_there_lem;
    schedule_there_lem = fits.schedule_there_lem;
    frame_there_lem = refl;
    wait_fits_lem = fits.wait_fits_lem;
    pending_fits_lem = fits.pending_fits_lem;
    can_open_lem = nothing_open t (message_failed s.transfer.opened s.message) s.plan.current;
    count_fits_lem = refl;
    message_fits_lem = message_failed_fits s.transfer.opened s.message fits.message_fits_lem;
    receptions_fit = fits.receptions_fit;
  }

  -- the state after a transfer that was received with success fits
  pub received_fits_lem : RightTable t → sends t s.transfer.opened ≡ false → Fits t (received t s)
  unfolding received count_fits
  received_fits_lem ok n = record {
    entry_there_lem = fits.entry_there_lem;
    schedule_there_lem = fits.schedule_there_lem;
    frame_there_lem = refl;
    wait_fits_lem = fits.wait_fits_lem;
    pending_fits_lem = fits.pending_fits_lem;
    can_open_lem = nothing_open t s.message s.plan.current;
    count_fits_lem = refl;
    message_fits_lem = fits.message_fits_lem;
    receptions_fit = by_fits t ok s.transfer.opened s.received n fits.receptions_fit;
  }

  -- the state after a transfer that was sent with success fits
  pub all_sent_fits : Fits t (sent t s)
  unfolding sent count_fits
  all_sent_fits = record {
    entry_there_lem = fits.entry_there_lem;
    schedule_there_lem = fits.schedule_there_lem;
    frame_there_lem = refl;
    wait_fits_lem = fits.wait_fits_lem;
    pending_fits_lem = sent_fits t s.transfer.opened s.transfer.written s.pending fits.pending_fits_lem;
    can_open_lem = nothing_open t (message_sent s.transfer.opened s.message) s.plan.current;
    count_fits_lem = refl;
    message_fits_lem = message_sent_fits s.transfer.opened s.message fits.message_fits_lem;
    receptions_fit = fits.receptions_fit;
  }

  -- the state after a byte that is not the last one fits
  pub passed_fits : (nine : List ℕ) → early t s.transfer ≡ true → Fits t (passed s nine)
  unfolding passed count_fits
  passed_fits nine h = record {
    entry_there_lem = fits.entry_there_lem;
    schedule_there_lem = fits.schedule_there_lem;
    frame_there_lem = fits.frame_there_lem;
    wait_fits_lem = fits.wait_fits_lem;
    pending_fits_lem = fits.pending_fits_lem;
    can_open_lem = fits.can_open_lem;
    count_fits_lem =
        whether (is_open s.transfer.opened)
        (λ y. rw y (le-leb (s.transfer.count + 1) (open_length t s.transfer.opened)
        (omega (arith, ltb-true s.transfer.count (open_length t s.transfer.opened) h))))
        (λ n. rw n);
    message_fits_lem = fits.message_fits_lem;
    receptions_fit = fits.receptions_fit;
  }
