-- Laws of a single event: a write closes nothing, what opens starts a slot, what starts a slot closes, what succeeds closes.
use Prim.Native.Nat.{ℕ}
use mathlib.Core.Path.{◌≡◌, refl, sym, ◌∙◌}
use mathlib.Core.Bool.{Bool, true, false, cond, ◌||◌}
use mathlib.Core.List.{List}
use Rattle.cluster.specs.Values.{touches}
use Rattle.transport.proofs.Tests.{whether, or_left, or_right}
use Rattle.master.specs.declared.state.Opened.{Opened}
use Rattle.master.specs.declared.state.Opened.TheVariants.{Nothing, Frame, Request, Response}
use Rattle.master.specs.declared.byte.ByteAnswer.TheVariants as byte
use Rattle.master.specs.Acts.{Act, nothing, wrote, selected, ticked, took, status_read, sending, on_write, on_tick, on_byte}
use Rattle.master.specs.Schedule.{Scheduled, act, is_start, starts}
use Rattle.master.specs.History.{writes, opened_as, opens, is_success, is_end, closes, succeeds, is_transfer, carries}
use Rattle.master.proofs.Tests.{never}
use Rattle.std.specs.Prelude.{Ok, Err}
use Rattle.master.specs.Calls.{ByteResult}

-- a transfer of a frame is open
pub carries_open : (o : Opened) (f : ℕ) → carries o f ≡ true → is_transfer o ≡ true
carries_open Nothing f h = h
carries_open (Frame g) f h = refl
carries_open Request f h = refl
carries_open Response f h = refl

module _ (x : Scheduled) where
  pub starts_closes : starts x ≡ true → closes x ≡ true
  unfolding closes
  starts_closes s = rw s

  pub keeps_slot : closes x ≡ false → starts x ≡ false
  unfolding closes
  keeps_slot c = or_left (starts x) (on_byte (λ b a. is_end a) false (act x)) c

  pub starts_unsent : starts x ≡ true → succeeds x ≡ false
  unfolding succeeds
  starts_unsent = go (act x)
    where
      go : (a : Act) → on_tick (λ m c. is_start x.slot) false a ≡ true → on_byte (λ b c. is_success c) false a ≡ false
      go nothing s = never s
      go (wrote r v) s = never s
      go (selected n) s = never s
      go (ticked m c) s = refl
      go (took b c) s = never s
      go status_read s = never s
      go (sending nad n) s = never s

  pub keeps_unsent : closes x ≡ false → succeeds x ≡ false
  unfolding closes succeeds
  keeps_unsent k = go (act x) (or_right (starts x) (on_byte (λ b a. is_end a) false (act x)) k)
    where
      ends : (a : ByteResult) → is_end a ≡ false → is_success a ≡ false
      ends (Ok byte.More) e = refl
      ends (Ok byte.Success) e = e
      ends (Ok byte.Failure) e = refl
      ends (Ok (byte.Response bs)) e = e
      ends (Err r) e = refl

      go : (a : Act) → on_byte (λ b c. is_end c) false a ≡ false → on_byte (λ b c. is_success c) false a ≡ false
      go nothing e = refl
      go (wrote r v) e = refl
      go (selected n) e = refl
      go (ticked m c) e = refl
      go (took b c) e = ends c e
      go status_read e = refl
      go (sending nad n) e = refl

module _ (t : List ℕ) (x : Scheduled) where
  pub wrote_keeps : (f : ℕ) → writes t x f ≡ true → closes x ≡ false
  unfolding writes closes
  wrote_keeps f = go (act x)
    where
      go : (a : Act) → on_write (λ s v. touches t s f) false a ≡ true
          → (on_tick (λ m c. is_start x.slot) false a || on_byte (λ b c. is_end c) false a) ≡ false
      go nothing w = never w
      go (wrote s v) w = refl
      go (selected n) w = never w
      go (ticked m c) w = never w
      go (took b c) w = never w
      go status_read w = never w
      go (sending nad n) w = never w

  -- what is opened is opened at a slot start
  pub opens_starts : is_transfer (opens t x) ≡ true → starts x ≡ true
  unfolding opens
  opens_starts = go (act x)
    where
      at : (b : Bool) (o : Opened) → is_transfer (cond b o Nothing) ≡ true → b ≡ true
      at true o h = refl
      at false o h = h

      go : (a : Act) → is_transfer (on_tick (λ m c. cond (is_start x.slot) (opened_as t c) Nothing) Nothing a) ≡ true
          → on_tick (λ m c. is_start x.slot) false a ≡ true
      go nothing h = h
      go (wrote s v) h = h
      go (selected n) h = h
      go (ticked m c) h = at (is_start x.slot) (opened_as t c) h
      go (took b c) h = h
      go status_read h = h
      go (sending nad n) h = h

  pub opens_closes : (f : ℕ) → carries (opens t x) f ≡ true → closes x ≡ true
  opens_closes f h = starts_closes x (opens_starts (carries_open (opens t x) f h))

  -- what succeeds is a byte, which opens nothing and closes
  pub success_opens : succeeds x ≡ true → opens t x ≡ Nothing
  unfolding opens succeeds
  success_opens = go (act x)
    where
      go : (a : Act) → on_byte (λ b c. is_success c) false a ≡ true → on_tick (λ m c. cond (is_start x.slot) (opened_as t c) Nothing) Nothing a ≡ Nothing
      go nothing h = never h
      go (wrote s v) h = never h
      go (selected n) h = never h
      go (ticked m c) h = never h
      go (took b c) h = refl
      go status_read h = never h
      go (sending nad n) h = never h

  pub success_closes : succeeds x ≡ true → closes x ≡ true
  success_closes s = whether (closes x) (λ c. c) (λ c. never (sym (keeps_unsent x c) ∙ s))
