-- Closing a transfer: the message and the status after it, and the transfer record that a slot start leaves.
use Prim.Native.Nat.{ℕ}
use mathlib.Core.Path.{◌≡◌, sym, ◌∙◌}
use mathlib.Core.Bool.{true, false}
use mathlib.Core.List.{List, [], ◌∷◌, ◌++◌}
use native.Mathlib.Omega.{arith}
use lib.Dec.{ltb}
use lib.ListN.{length, length-append, replicate}
use borrow.Author.Tests.{lt-ltb}
use Rattle.transport.proofs.Tests.{whether}
use Rattle.master.specs.declared.state.Opened.TheVariants.{Nothing}
use Rattle.master.specs.declared.state.State.{State}
use Rattle.master.specs.Fresh.{no_transfer}
use Rattle.master.specs.Transfers.{format_of, is_open, open_protected}
use Rattle.master.specs.Status.{with_counted}
use Rattle.master.specs.Message.{message_failed}
use Rattle.master.specs.Closing.{failed}
use Rattle.master.specs.Tick.{abandoned}
use Rattle.master.specs.Seq.{Seq, ◌▹◌}
use Rattle.master.specs.Acts.{ticked, took}
use Rattle.master.specs.Schedule.{Scheduled, act, is_start, starts}
use Rattle.master.specs.History.{is_success, is_end, closes, succeeds, open_after, is_transfer, got_by, got_after}
use Rattle.master.specs.Answering.{message_closed, message_after, protected_of, counted_after}
use Rattle.master.proofs.SlotFits.{not_open}
use Rattle.master.proofs.History.Computed.{rewritten_closed}
use Rattle.master.proofs.History.Events.{starts_closes, starts_unsent}
use Rattle.master.proofs.History.Words.{is_transfer_lem, protected_of_lem}
use Rattle.master.proofs.History.StatusOver.{status_over, status_counted}
use Rattle.master.proofs.History.Agrees.{Agrees}
use Rattle.master.specs.Run.{Held}
use Rattle.master.specs.Calls.{TickResult}
use Rattle.master.specs.Calls.{ByteResult}

-- ---- a byte that ends its transfer

module _ (t : List ℕ) (h : Seq Scheduled) (x : Held) (is : Agrees t h x) (y : Scheduled) (b : ℕ) (c : ByteResult) (a : act y ≡ took b c) (e : is_end c ≡ true) where
  pub end_closes : closes y ≡ true
  unfolding closes
  end_closes = rw (a, e)

  pub end_message : message_after t (h ▹ y) ≡ message_closed x.state.transfer.opened (is_success c) x.state.message
  unfolding message_after succeeds
  end_message = rw (end_closes, a, is.message_is, is.transfer.opened_is)

  -- it counts: the byte is one of the response
  pub end_status : is_open x.state.transfer.opened ≡ true
      → with_counted x.state.status (is_success c) (open_protected t x.state.transfer.opened) ≡ status_over (counted_after t (h ▹ y))
  unfolding counted_after got_by succeeds
  end_status o =
      let p : is_transfer (open_after t h) ≡ true = rw (is.transfer.opened_is, is_transfer_lem (open_after t h)) at o in
      let q : is_open (open_after t h) ≡ true = rw is.transfer.opened_is at o in
      let l : ltb 0 (length (got_after h ++ (b ∷ []))) ≡ true = lt-ltb 0 (length (got_after h ++ (b ∷ []))) (omega (arith, length-append (got_after h) (b ∷ []))) in
      rw (end_closes, a, p, l, is.status_is, is.transfer.opened_is, protected_of_lem t (open_after t h) q)
      (sym (status_counted (counted_after t h) (record { protected = protected_of t (open_after t h); success = is_success c })))

-- ---- a slot start

-- the message behind the closing of what is open
pub abandoned_message : (t : List ℕ) (s : State) → (abandoned t s).message ≡ message_failed s.transfer.opened s.message
unfolding abandoned failed
abandoned_message t s = whether (is_open s.transfer.opened) (λ y. rw y) (λ n. rw (n, not_open s.transfer.opened n))

module _ (t : List ℕ) (h : Seq Scheduled) (x : Held) (is : Agrees t h x) where
  -- where nothing is open the record is that of no transfer
  none_open : open_after t h ≡ Nothing → x.state.transfer ≡ no_transfer
  unfolding format_of
  none_open n =
      let g = is.transfer.closed_is n in
      let o : x.state.transfer.opened ≡ Nothing = is.transfer.opened_is ∙ n in
      let k : x.state.transfer.count ≡ 0 = rw g at is.transfer.count_is in
      let b : x.state.transfer.bytes ≡ replicate 9 255 = rw (n, g) at is.transfer.nine_is in
      let w : x.state.transfer.written ≡ false = is.transfer.rewritten_is ∙ rewritten_closed t h n in
      λ i. record { opened = o i; count = k i; bytes = b i; written = w i }

  -- what a slot start leaves of the transfer
  pub abandoned_transfer : (abandoned t x.state).transfer ≡ no_transfer
  unfolding abandoned failed
  abandoned_transfer =
      let o = x.state.transfer.opened in
      whether (is_open o) (λ p. rw p) (λ n. rw n (none_open (sym is.transfer.opened_is ∙ not_open o n)))

  module _ (y : Scheduled) (m : List ℕ) (c : TickResult) (a : act y ≡ ticked m c) (s : is_start y.slot ≡ true) where
    pub start_is : starts y ≡ true
    start_is = rw (a, s)

    -- the message after it
    pub start_message : message_after t (h ▹ y) ≡ message_closed (open_after t h) false (message_after t h)
    unfolding message_after
    start_message = rw (starts_closes y start_is, starts_unsent y start_is)

    -- the status after it: what was open counts where it had a response byte
    pub start_status : (abandoned t x.state).status ≡ status_over (counted_after t (h ▹ y))
    unfolding abandoned failed counted_after got_by
    start_status =
        let o = x.state.transfer.opened in
        let p = is.transfer.opened_is in
        let k = is.transfer.count_is in
        let same = sym (is_transfer_lem o) in
        whether (is_open o)
        (λ q. whether (ltb 0 (length (got_after h)))
        (λ l. rw (q, k, l, starts_closes y start_is, a, ← p, same ∙ q, l, starts_unsent y start_is, is.status_is, protected_of_lem t o q)
        (sym (status_counted (counted_after t h) (record { protected = protected_of t o; success = false }))))
        (λ l. rw (q, k, l, starts_closes y start_is, a, ← p, same ∙ q, l) is.status_is))
        (λ q. rw (q, starts_closes y start_is, a, ← p, same ∙ q) is.status_is)
