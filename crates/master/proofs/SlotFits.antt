-- The state that a slot leaves fits: its entry is there, the wait is the entry's delay, and the entry can open what it opens.
use Prim.Native.Nat.{ℕ}
use mathlib.Core.Path.{◌≡◌, refl}
use mathlib.Core.Bool.{true, false}
use mathlib.Core.List.{List}
use native.Mathlib.Omega.{arith}
use borrow.Author.Tests.{ltb-true, le-leb}
use lib.Dec.{ltb}
use Rattle.cluster.specs.Check.{RightTable}
use Rattle.cluster.specs.Table.{entry_count, entry_delay}
use Rattle.transport.proofs.Tests.{whether}
use Rattle.master.specs.declared.state.Opened.{Opened}
use Rattle.master.specs.declared.state.Opened.TheVariants.{Nothing, Frame, Request, Response}
use Rattle.master.specs.declared.state.State.{State}
use Rattle.master.specs.Transfers.{is_open, open_length, opening}
use Rattle.master.specs.Fits.{entry_there, wait_fits, can_open, count_fits}
use Rattle.master.specs.Plan.{waits, entry_due, begun}
use Rattle.master.specs.Closing.{failed}
use Rattle.master.specs.Tick.{slot_opens, abandoned, opens_or_silent, slot_at, slot, tick_effect}
use Rattle.master.proofs.Admitted.{Fits}
use Rattle.master.proofs.FitsKept.{waited_fits, failed_fits}
use Rattle.master.proofs.MessageFits.{nothing_open}
use Rattle.master.proofs.SlotOpens.{Opens, slot_opens_lem, due_there}
use Rattle.master.specs.State.{with_plan}
use Rattle.std.specs.Prelude.{Some, None, Option}

-- what is not open is nothing
pub not_open : (o : Opened) → is_open o ≡ false → o ≡ Nothing
not_open Nothing h = refl
not_open (Frame f) h = cc
not_open Request h = cc
not_open Response h = cc

module _ (t : List ℕ) (s : State) where
  -- nothing is open behind the closing of a transfer
  pub abandoned_nothing : (abandoned t s).transfer.opened ≡ Nothing
  unfolding abandoned failed
  abandoned_nothing = whether (is_open s.transfer.opened) (λ y. rw y) (λ n. rw n (not_open s.transfer.opened n))

  -- closing leaves the plan
  pub abandoned_plan : (abandoned t s).plan ≡ s.plan
  unfolding abandoned failed
  abandoned_plan = whether (is_open s.transfer.opened) (λ y. rw y) (λ n. rw n)

  -- and the receptions
  pub abandoned_received : (abandoned t s).received ≡ s.received
  unfolding abandoned failed
  abandoned_received = whether (is_open s.transfer.opened) (λ y. rw y) (λ n. rw n)

  -- the state with the open transfer closed as failed fits
  pub abandoned_fits : Fits t s → Fits t (abandoned t s)
  unfolding abandoned
  abandoned_fits fits =
      whether (is_open s.transfer.opened)
      (λ y. rw y (failed_fits t s fits (ltb 0 s.transfer.count)))
      (λ n. rw n fits)

module _ (t bs m : List ℕ) (s : State) (fits : Fits t s) where
  -- a state whose entry begins fits, with nothing open
  begun_fits : (e : ℕ) → entry_there t (Some e) ≡ true → s.transfer.opened ≡ Nothing → Fits t (with_plan s (begun t e))
  unfolding wait_fits count_fits
  begun_fits e h n = record {
    entry_there_lem = h;
    schedule_there_lem = refl;
    frame_there_lem = fits.frame_there_lem;
    wait_fits_lem = le-leb (entry_delay t e) (entry_delay t e) (omega arith);
    pending_fits_lem = fits.pending_fits_lem;
    can_open_lem = rw n (nothing_open t s.message (Some e));
    count_fits_lem = fits.count_fits_lem;
    message_fits_lem = fits.message_fits_lem;
    receptions_fit = fits.receptions_fit;
  }

  -- a state that opens what its entry can open fits
  pub opens_fits : (e : ℕ) (o : Opened) → s.plan.current ≡ Some e → Opens t s.message e o → Fits t (opens_or_silent t bs m s o).state
  unfolding opens_or_silent opening can_open count_fits
  opens_fits e o c w =
      whether (is_open o)
      (λ y. rw y (record {
        entry_there_lem = fits.entry_there_lem;
        schedule_there_lem = fits.schedule_there_lem;
        frame_there_lem = w.frame_there_lem;
        wait_fits_lem = fits.wait_fits_lem;
        pending_fits_lem = fits.pending_fits_lem;
        can_open_lem = rw c w.can_open_lem;
        count_fits_lem = rw y (le-leb 0 (open_length t o) (omega arith));
        message_fits_lem = fits.message_fits_lem;
        receptions_fit = fits.receptions_fit;
      }))
      (λ n. rw n fits)

module _ (t : List ℕ) (ok : RightTable t) (bs m : List ℕ) where
  -- the state that a slot leaves with an entry that is there fits
  pub slot_at_fits : (s : State) (c : Option ℕ) → Fits t s → s.transfer.opened ≡ Nothing → entry_there t c ≡ true → Fits t (slot_at t bs m s c).state
  unfolding slot_at
  slot_at_fits s None fits n h = fits
  slot_at_fits s (Some e) fits n h =
      opens_fits t bs m (with_plan s (begun t e)) (begun_fits t bs m s fits e h n) e (slot_opens t s.pending s.message e) refl
      (slot_opens_lem t ok s.pending s.message e (ltb-true e (entry_count t) h))

  -- the state that a slot leaves fits
  pub slot_fits : (s : State) → Fits t s → Fits t (slot t bs m s).state
  unfolding slot
  slot_fits s fits =
      slot_at_fits (abandoned t s) (entry_due t s.plan.requested s.plan.current) (abandoned_fits t s fits) (abandoned_nothing t s)
      (due_there t ok s.plan.requested s.plan.current fits.schedule_there_lem fits.entry_there_lem)

  -- the state that a tick leaves fits
  pub ticked_fits : (s : State) → Fits t s → Fits t (tick_effect t bs m s).state
  unfolding tick_effect
  ticked_fits s fits = whether (waits s.plan) (λ y. rw y (waited_fits t s fits)) (λ n. rw n (slot_fits s fits))
