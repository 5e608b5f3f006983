-- Part (c): in a transfer of a published frame success is answered exactly at byte length + 1, when the bytes were those at its opening tick.
use Prim.Native.Nat.{ℕ, suc, ◌≤◌, ◌<◌}
use mathlib.Core.Path.{◌≡◌, refl, sym, ap, ◌∙◌}
use mathlib.Core.Logic.{◌↔◌}
use mathlib.Core.Bool.{Bool, true, false}
use mathlib.Core.List.{List, [], ◌∷◌, ◌++◌}
use native.Mathlib.Omega.{arith}
use lib.Dec.{ltb, eqb}
use lib.ListN.{length, get_or, take, length-append}
use lib.Seq.{take-suc, take_all, get_or_at}
use borrow.Author.Tests.{ltb-false, le-ltb, eqb-true, eq-eqb}
use Rattle.cluster.specs.Table.{published}
use Rattle.transport.proofs.Tests.{whether}
use Rattle.master.specs.declared.state.Opened.TheVariants.{Frame}
use Rattle.master.specs.declared.byte.ByteAnswer.TheVariants as byte
use Rattle.master.specs.Transfers.{format_of, open_length, sends, sent_data}
use Rattle.master.specs.Seq.{Seq, ∅, ◌▹◌, ◌⋈◌, Each}
use Rattle.master.specs.Calls.{byte_in}
use Rattle.master.specs.Acts.{Act, nothing, wrote, selected, ticked, took, status_read, sending, on_tick}
use Rattle.master.specs.Schedule.{Slot, Scheduled, act, is_start, starts}
use Rattle.master.specs.History.{opens, closes, open_after, written_bytes, response_of, got_after}
use Rattle.master.specs.Answering.{due_of, due_after}
use Rattle.master.specs.Replies.{sent_reply, byte_reply}
use Rattle.master.specs.Claim.{event}
use Rattle.master.proofs.Tests.{never}
use Rattle.master.proofs.History.Events.{starts_closes, opens_starts}
use Rattle.master.proofs.History.Opening.{open_since}
use Rattle.master.proofs.History.Runs.{Good}
use Rattle.std.specs.Prelude.{Ok}
use Rattle.master.specs.Calls.{ByteResult}

-- the bytes since an opening are those of the events since
got_since : (before : Seq Scheduled) (start : Scheduled) (during : Seq Scheduled) → closes start ≡ true → Each (λ x. closes x ≡ false) during
    → got_after (before ▹ start ⋈ during) ≡ got_after during
unfolding got_after
got_since before start ∅ c q = rw c
got_since before start (during ▹ x) c q = rw (q.1, got_since before start during c q.0)

-- a slot starts at a tick
at_tick : (b : Bool) (r : List ℕ) (a : Act) → on_tick (λ m c. b) false a ≡ true → on_tick (λ m c. r) [] a ≡ r
at_tick b r nothing e = never e
at_tick b r (wrote s v) e = never e
at_tick b r (selected n) e = never e
at_tick b r (ticked m c) e = refl
at_tick b r (took c d) e = never e
at_tick b r status_read e = never e
at_tick b r (sending nad n) e = never e

module _ (t : List ℕ) where
  -- what was due at the opening is due while nothing closes
  due_since : (before : Seq Scheduled) (start : Scheduled) (during : Seq Scheduled) → Each (λ x. closes x ≡ false) during
      → due_after t (before ▹ start ⋈ during) ≡ due_after t (before ▹ start)
  unfolding due_after
  due_since before start ∅ q = refl
  due_since before start (during ▹ x) q = rw q.1 (due_since before start during q.0)

  -- what is due at the opening of a frame: its data as fresh and the accepted writes before left them, and its checksum
  due_opened : (before : Seq Scheduled) (start : Scheduled) (f : ℕ) → starts start ≡ true → opens t start ≡ Frame f
      → due_after t (before ▹ start) ≡ response_of t (written_bytes t before) f
  unfolding due_after due_of response_of sent_data
  due_opened before start f s o = rw (starts_closes start s, o) (at_tick (is_start start.slot) (response_of t (written_bytes t before) f) (act start) s)

-- the answer of a sent byte is success exactly where it is the last one due and all before it were right
module _ (n : ℕ) (due got : List ℕ) (b : ℕ) (long : length due ≡ suc n) (short : length got ≤ n) (matched : got ≡ take (length got) due) where
  last_one : sent_reply n due got b ≡ Ok byte.Success → (length got ≡ n) × (get_or due (length got) 0 ≡ b)
  unfolding sent_reply
  last_one e =
      whether (eqb (get_or due (length got) 0) b)
      (λ p. whether (ltb (length got) n)
      (λ q. let z : (Ok byte.More) ≡ (Ok byte.Success) = rw (p, q) at e in absurd (let y : ◌≡◌ {A = ℕ} 0 1 = cc in omega arith))
      (λ q. (omega (arith, ltb-false (length got) n q), eqb-true (get_or due (length got) 0) b p)))
      (λ p. let z : (Ok byte.Failure) ≡ (Ok byte.Success) = rw p at e in absurd (let y : ◌≡◌ {A = ℕ} 0 1 = cc in omega arith))

  all_due : sent_reply n due got b ≡ Ok byte.Success → got ++ (b ∷ []) ≡ due
  all_due e =
      let w = last_one e in
      let k : length got < length due = omega (arith, w.0) in
      ap (λ (r : List ℕ). r ++ (b ∷ [])) matched
      ∙ rw (← w.1) (sym (take-suc due (length got) 0 k))
      ∙ take_all (suc (length got)) due (omega (arith, w.0))

  due_all : got ++ (b ∷ []) ≡ due → sent_reply n due got b ≡ Ok byte.Success
  unfolding sent_reply
  due_all e =
      let l : length got ≡ n = omega (arith, ap length e, length-append got (b ∷ [])) in
      let g : get_or due (length got) 0 ≡ b = rw (← e) (get_or_at got b [] 0 (length got) refl) in
      rw (g, eq-eqb b b refl, le-ltb (length got) n (omega (arith, l)))

  pub success_iff : (sent_reply n due got b ≡ Ok byte.Success) ↔ (got ++ (b ∷ []) ≡ due)
  success_iff = (all_due, due_all)

-- part (c), at an event of which all is good
pub sent_exactly : (t : List ℕ) (before : Seq Scheduled) (start : Scheduled) (during : Seq Scheduled) (b : ℕ) (r : ByteResult) (s k : Slot) (f : ℕ)
    → Good t (before ▹ start ⋈ during) (event (byte_in b) r s k) → opens t start ≡ Frame f → published t f ≡ true → Each (λ x. closes x ≡ false) during
    → (r ≡ Ok byte.Success) ↔ (got_after during ++ (b ∷ []) ≡ response_of t (written_bytes t before) f)
unfolding byte_reply format_of
sent_exactly t before start during b r s k f good o p q =
    let h = before ▹ start ⋈ during in
    let st = opens_starts t start (rw o) in
    let c : closes start ≡ true = starts_closes start st in
    let op : open_after t h ≡ Frame f = open_since t before start during c q ∙ o in
    let g : got_after h ≡ got_after during = got_since before start during c q in
    let d : due_after t h ≡ response_of t (written_bytes t before) f = due_since t before start during q ∙ due_opened t before start f st o in
    let snd : sends t (open_after t h) ≡ true = rw (op, p) in
    let reply : r ≡ sent_reply (open_length t (Frame f)) (response_of t (written_bytes t before) f) (got_after during) b =
    good.replies ∙ rw (op, p, g, d) in
    rw reply
    (success_iff (open_length t (Frame f)) (response_of t (written_bytes t before) f) (got_after during) b
    (rw (d, op) at (good.due_length snd))
    (rw (g, op) at (good.short (rw op)))
    (rw (g, d) at (good.matched snd)))
