-- Document 01, refusal 3: a state fits a table if and only if the paper's clauses hold, each said without the tests of specs/Fits.
use Prim.Native.Nat.{ℕ, zero, suc, ◌+◌, ◌-◌, ◌*◌, ◌≤◌, ◌<◌}
use mathlib.Core.Path.{◌≡◌, refl}
use mathlib.Core.Logic.{◌↔◌, ◌⊎◌, inl, inr, ⊎_elim}
use mathlib.Core.Bool.{Bool, true, false, not, ◌&&◌}
use mathlib.Core.List.{List, [], ◌∷◌}
use native.Mathlib.Omega.{arith}
use lib.Dec.{eqb, leb, ltb}
use lib.ListN.{get_or}
use borrow.Author.Tests.{ltb-true, lt-ltb, leb-true, le-leb, eqb-true, eq-eqb, not-true}
use Rattle.cluster.specs.Check.{RightTable}
use Rattle.cluster.specs.Table.{frame_count, frame_length, published, member_count, member_list, member_frame}
use Rattle.cluster.specs.Table.{signal_count, placement_count, placement_signal, placement_frame}
use Rattle.cluster.specs.Table.{entry_count, entry_schedule, entry_kind, entry_target, entry_delay, schedule_count}
use Rattle.cluster.specs.Lists.{is_one_of, members}
use Rattle.cluster.proofs.EntryLaws.{schedule_below, schedule_entry}
use Rattle.cluster.proofs.ListLaws.{in_list}
use Rattle.transport.specs.Cutting.{is_length, message_frames}
use Rattle.transport.proofs.CuttingLaws.{frames_one, frames_more}
use Rattle.transport.proofs.Tests.{and_left, and_right, whether, order}
use Rattle.master.specs.declared.state.Plan.{Plan}
use Rattle.master.specs.declared.state.Opened.{Opened}
use Rattle.master.specs.declared.state.Opened.TheVariants.{Nothing, Frame, Request, Response}
use Rattle.master.specs.declared.state.Sending.{Sending}
use Rattle.master.specs.declared.state.Message.{Message}
use Rattle.master.specs.declared.state.Message.TheVariants as message
use Rattle.master.specs.declared.state.State.{State}
use Rattle.master.specs.Received.{last_of, last_fits, received_fits}
use Rattle.master.specs.Transfers.{is_open, format_of}
use Rattle.master.specs.Fits.{entry_there, schedule_there, frame_there, wait_fits, bit_fits, pending_fits, is_sending, entry_opens, can_open, count_fits, message_fits, state_fits}
use Rattle.master.proofs.Admitted.{Fits, fits_clauses, fits_all}
use Rattle.master.proofs.ReceivedLaws.{fits_at, at_fits}
use Rattle.master.proofs.Tests.{and_true, never}
use Rattle.std.specs.Prelude.{Some, None, Option}

-- ---- the clauses

-- an entry is running
abbrev Runs : Plan → ℕ → Type 0
Runs p e = p.current ≡ Some e

-- what an entry can open as frame f: the frame that it names, or a member of the list that it names, "whatever is pending now"
abbrev OpensFrame : List ℕ → ℕ → ℕ → Type 0
OpensFrame t e f =
    ((entry_kind t e ≡ 0) × (entry_target t e ≡ f))
    ⊎ ((entry_kind t e ≡ 1) × ((m : ℕ) × (m < member_count t) × (member_list t m ≡ entry_target t e) × (member_frame t m ≡ f)))

-- a frame is left to send: the first, or one that begins inside the message, behind 5 bytes of the first and 6 of each one since
abbrev FrameLeft : ℕ → ℕ → Type 0
FrameLeft length next = (next ≡ 0) ⊎ ((7 ≤ length) × (5 + 6 * (next - 1) < length))

pub record Clauses (t : List ℕ) (s : State) : Type 0 where
  -- "it names a schedule, entry or frame not there"
  pub schedule : (n : ℕ) → s.plan.requested ≡ Some n → (e : ℕ) × (e < entry_count t) × (entry_schedule t e ≡ n)
  pub entry : (e : ℕ) → Runs s.plan e → e < entry_count t
  pub frame : (f : ℕ) → s.transfer.opened ≡ Frame f → f < frame_count t
  -- "wait above the current delay (0 with no schedule)"
  pub wait : (e : ℕ) → Runs s.plan e → s.plan.wait ≤ entry_delay t e
  pub no_wait : s.plan.current ≡ None → s.plan.wait ≡ 0
  -- "a pending bit of a frame not published"
  pub pending : (f : ℕ) → get_or s.pending f false ≡ true → (f < frame_count t) × (published t f ≡ true)
  -- "an open transfer the current entry cannot open (a list entry can open each member of its list, whatever is pending now; for kind 2 also:
  -- no message being sent)"
  pub opens_frame : (f : ℕ) → s.transfer.opened ≡ Frame f → (e : ℕ) × Runs s.plan e × OpensFrame t e f
  pub opens_request : s.transfer.opened ≡ Request → (e : ℕ) × Runs s.plan e × (entry_kind t e ≡ 2)
  pub request_sends : s.transfer.opened ≡ Request → (x : Sending) × (s.message ≡ message.Sending x)
  pub opens_response : s.transfer.opened ≡ Response → (e : ℕ) × Runs s.plan e × (entry_kind t e ≡ 3)
  -- "or with as many bytes as close it": one more than the frame has, and 9 of a request or response
  pub frame_bytes : (f : ℕ) → s.transfer.opened ≡ Frame f → s.transfer.count < frame_length t f + 1
  pub request_bytes : s.transfer.opened ≡ Request → s.transfer.count < 9
  pub response_bytes : s.transfer.opened ≡ Response → s.transfer.count < 9
  -- "a message being sent with a length not 1..4095 or no frame left to send"
  pub length_low : (x : Sending) → s.message ≡ message.Sending x → 1 ≤ x.length
  pub length_high : (x : Sending) → s.message ≡ message.Sending x → x.length ≤ 4095
  pub frame_left : (x : Sending) → s.message ≡ message.Sending x → FrameLeft x.length x.next
  -- document 02, Req 03: "also a last reception in a published frame or one without the signal"; of the 256 signals that a state keeps
  pub reception : (i k : ℕ) → (get_or s.received i (record { last = None })).last ≡ Some k
      → (i < signal_count t) × (k < placement_count t) × (placement_signal t k ≡ i) × (published t (placement_frame t k) ≡ false)

-- ---- the pending bits

module _ (t : List ℕ) where
  abbrev Published : ℕ → Type 0
  Published f = (f < frame_count t) × (published t f ≡ true)

  bit_true : (f : ℕ) → (bit_fits t f true ≡ true) ↔ Published f
  unfolding bit_fits
  bit_true f = (
    (λ h. (ltb-true f (frame_count t) (and_left (ltb f (frame_count t)) (published t f) h), and_right (ltb f (frame_count t)) (published t f) h)),
    (λ w. rw (lt-ltb f (frame_count t) w.0, w.1)),
  )

  bits_from : (f : ℕ) (bits : List Bool) → pending_fits t f bits ≡ true → (i : ℕ) → get_or bits i false ≡ true → Published (f + i)
  unfolding pending_fits
  bits_from f [] h i e = never e
  bits_from f (bit ∷ bits) h zero e =
      let z : f + 0 ≡ f = omega arith in
      rw z ((bit_true f).0 (rw e at (and_left (bit_fits t f bit) (pending_fits t (suc f) bits) h)))
  bits_from f (bit ∷ bits) h (suc i) e =
      let z : f + suc i ≡ suc f + i = omega arith in
      rw z (bits_from (suc f) bits (and_right (bit_fits t f bit) (pending_fits t (suc f) bits) h) i e)

  bit_fits_lem : (f : ℕ) (bit : Bool) → (bit ≡ true → Published f) → bit_fits t f bit ≡ true
  unfolding bit_fits
  bit_fits_lem f true p = (bit_true f).1 (p refl)
  bit_fits_lem f false p = refl

  from_bits : (f : ℕ) (bits : List Bool) → ((i : ℕ) → get_or bits i false ≡ true → Published (f + i)) → pending_fits t f bits ≡ true
  unfolding pending_fits
  from_bits f [] p = refl
  from_bits f (bit ∷ bits) p =
      let z : f + 0 ≡ f = omega arith in
      and_true (bit_fits t f bit) (pending_fits t (suc f) bits) (bit_fits_lem f bit (λ e. rw z at (p 0 e)))
      (from_bits (suc f) bits (λ i e. let y : f + suc i ≡ suc f + i = omega arith in rw y at (p (suc i) e)))

-- ---- what an entry opens

pub sends_message : (x : Message) → is_sending x ≡ true → (y : Sending) × (x ≡ message.Sending y)
sends_message message.None h = never h
sends_message (message.Sending y) h = (y, refl)
sends_message message.Completed h = never h
sends_message message.Failed h = never h

module _ (t : List ℕ) (x : Message) (e : ℕ) where
  entry_opens_lem : (f : ℕ) → (entry_opens t x e (Frame f) ≡ true) ↔ OpensFrame t e f
  unfolding entry_opens
  entry_opens_lem f = (
    (λ h. whether (eqb (entry_kind t e) 0)
        (λ y. inl (eqb-true (entry_kind t e) 0 y, eqb-true (entry_target t e) f (rw y at h)))
        (λ n.
        let k = rw n at h in
        inr (
          eqb-true (entry_kind t e) 1 (and_left (eqb (entry_kind t e) 1) (is_one_of f (members t (entry_target t e))) k),
          (in_list t (entry_target t e) f).0 (and_right (eqb (entry_kind t e) 1) (is_one_of f (members t (entry_target t e))) k),
        ))),
    ⊎_elim
        (λ w. rw (w.0, eq-eqb (entry_target t e) f w.1))
        (λ w. rw (w.0, (in_list t (entry_target t e) f).1 w.1)),
  )

-- where something is open an entry runs that opens it
runs : (t : List ℕ) (x : Message) (c : Option ℕ) (o : Opened) → is_open o ≡ true → can_open t x c o ≡ true
    → (e : ℕ) × (c ≡ Some e) × (entry_opens t x e o ≡ true)
unfolding can_open
runs t x None o p h = never (rw p at h)
runs t x (Some e) o p h = (e, refl, h)

-- ---- a message being sent

left_to_send : (n k : ℕ) → (k < message_frames n) ↔ FrameLeft n k
left_to_send n k = order n 6
    (λ l. let e = frames_one n l in (λ h. inl (omega arith), ⊎_elim (λ z. omega arith) (λ w. absurd (omega (arith, w.0)))))
    (λ l. let e = frames_more n l in (λ h. inr (omega arith, omega arith), ⊎_elim (λ z. omega arith) (λ w. omega (arith, w.1))))

module _ (y : Sending) where
  sending_clauses : message_fits (message.Sending y) ≡ true → (1 ≤ y.length) × (y.length ≤ 4095) × FrameLeft y.length y.next
  unfolding message_fits
  sending_clauses h =
      let n = y.length in
      let l = and_left (is_length n) (ltb y.next (message_frames n)) h in (
        leb-true 1 n (and_left (leb 1 n) (leb n 4095) l),
        leb-true n 4095 (and_right (leb 1 n) (leb n 4095) l),
        (left_to_send n y.next).0 (ltb-true y.next (message_frames n) (and_right (is_length n) (ltb y.next (message_frames n)) h)),
      )

  clauses_sending : 1 ≤ y.length → y.length ≤ 4095 → FrameLeft y.length y.next → message_fits (message.Sending y) ≡ true
  unfolding message_fits
  clauses_sending a b c =
      rw (le-leb 1 y.length a, le-leb y.length 4095 b, lt-ltb y.next (message_frames y.length) ((left_to_send y.length y.next).1 c))

-- ---- a reception

module _ (t : List ℕ) (i k : ℕ) where
  abbrev Received : Type 0
  Received = (i < signal_count t) × (k < placement_count t) × (placement_signal t k ≡ i) × (published t (placement_frame t k) ≡ false)

  last_clauses : last_fits t i (Some k) ≡ true → Received
  unfolding last_fits
  last_clauses h =
      let a = ltb i (signal_count t) in
      let b = ltb k (placement_count t) in
      let c = eqb (placement_signal t k) i in
      let k2 = and_left (a && b && c) (not (published t (placement_frame t k))) h in
      let k1 = and_left (a && b) c k2 in (
        ltb-true i (signal_count t) (and_left a b k1),
        ltb-true k (placement_count t) (and_right a b k1),
        eqb-true (placement_signal t k) i (and_right (a && b) c k2),
        not-true (published t (placement_frame t k)) (and_right (a && b && c) (not (published t (placement_frame t k))) h),
      )

  clauses_last : Received → last_fits t i (Some k) ≡ true
  unfolding last_fits
  clauses_last w = rw (lt-ltb i (signal_count t) w.0, lt-ltb k (placement_count t) w.1, eq-eqb (placement_signal t k) i w.2, w.3)

-- ---- both directions

module _ (t : List ℕ) (ok : RightTable t) (s : State) where
  abbrev c : Option ℕ
  c = s.plan.current

  abbrev o : Opened
  o = s.transfer.opened

  to_clauses : Fits t s → Clauses t s
  unfolding wait_fits count_fits format_of entry_opens last_of
  to_clauses f =
      record {
        schedule = λ n e. schedule_entry t ok n (ltb-true n (schedule_count t) (rw e at f.schedule_there_lem));
        entry = λ e q. ltb-true e (entry_count t) (rw q at f.entry_there_lem);
        frame = λ g q. ltb-true g (frame_count t) (rw q at f.frame_there_lem);
        wait = λ e q. leb-true s.plan.wait (entry_delay t e) (rw q at f.wait_fits_lem);
        no_wait = λ q. let w = leb-true s.plan.wait 0 (rw q at f.wait_fits_lem) in omega arith;
        pending = λ g e. let z : 0 + g ≡ g = omega arith in rw z at (bits_from t 0 s.pending f.pending_fits_lem g e);
        opens_frame = λ g q. let w = opened (Frame g) q refl in (w.0, w.1, (entry_opens_lem t s.message w.0 g).0 w.2);
        opens_request = λ q. let w = opened Request q refl in (w.0, w.1, request_kind w.0 w.2);
        request_sends = λ q. let w = opened Request q refl in sends_message s.message (request_message w.0 w.2);
        opens_response = λ q. let w = opened Response q refl in (w.0, w.1, response_kind w.0 w.2);
        frame_bytes = λ g q. let w = leb-true _ (frame_length t g) (rw q at f.count_fits_lem) in omega arith;
        request_bytes = λ q. let w : s.transfer.count ≤ 8 = leb-true _ 8 (rw q at f.count_fits_lem) in omega arith;
        response_bytes = λ q. let w : s.transfer.count ≤ 8 = leb-true _ 8 (rw q at f.count_fits_lem) in omega arith;
        length_low = λ y q. (sending_clauses y (rw q at f.message_fits_lem)).0;
        length_high = λ y q. (sending_clauses y (rw q at f.message_fits_lem)).1;
        frame_left = λ y q. (sending_clauses y (rw q at f.message_fits_lem)).2;
        reception = λ i k q. last_clauses t i k (rw q at (fits_last f.receptions_fit i));
      }
    where
      fits_last : received_fits t 0 s.received ≡ true → (i : ℕ) → last_fits t i (last_of s.received i) ≡ true
      fits_last h i = let z : 0 + i ≡ i = omega arith in rw z at (fits_at t 0 i s.received h)

      opened : (p : Opened) → o ≡ p → is_open p ≡ true → (e : ℕ) × (c ≡ Some e) × (entry_opens t s.message e p ≡ true)
      opened p q y = runs t s.message c p y (rw q at f.can_open_lem)

      request_kind : (e : ℕ) → entry_opens t s.message e Request ≡ true → entry_kind t e ≡ 2
      request_kind e h = eqb-true (entry_kind t e) 2 (and_left (eqb (entry_kind t e) 2) (is_sending s.message) h)

      request_message : (e : ℕ) → entry_opens t s.message e Request ≡ true → is_sending s.message ≡ true
      request_message e h = and_right (eqb (entry_kind t e) 2) (is_sending s.message) h

      response_kind : (e : ℕ) → entry_opens t s.message e Response ≡ true → entry_kind t e ≡ 3
      response_kind e h = eqb-true (entry_kind t e) 3 h

  from_clauses : Clauses t s → Fits t s
  unfolding wait_fits can_open entry_opens count_fits format_of message_fits last_fits last_of
  from_clauses w =
      record {
        entry_there_lem = there c refl;
        schedule_there_lem = asked s.plan.requested refl;
        frame_there_lem = frame_there_lem o refl;
        wait_fits_lem = waiting c refl;
        pending_fits_lem = from_bits t 0 s.pending (λ i e. let z : 0 + i ≡ i = omega arith in rw z (w.pending i e));
        can_open_lem = opened o refl;
        count_fits_lem = counted o refl;
        message_fits_lem = sending s.message refl;
        receptions_fit = at_fits t 0 s.received (λ i b. let z : 0 + i ≡ i = omega arith in rw z (received i (last_of s.received i) refl));
      }
    where
      there : (d : Option ℕ) → c ≡ d → entry_there t d ≡ true
      there None q = refl
      there (Some e) q = lt-ltb e (entry_count t) (w.entry e q)

      asked : (r : Option ℕ) → s.plan.requested ≡ r → schedule_there t r ≡ true
      asked None q = refl
      asked (Some n) q =
          let v = w.schedule n q in
          lt-ltb n (schedule_count t) (rw v.2 at (schedule_below t ok v.0 v.1))

      frame_there_lem : (p : Opened) → o ≡ p → frame_there t p ≡ true
      frame_there_lem Nothing q = refl
      frame_there_lem (Frame f) q = lt-ltb f (frame_count t) (w.frame f q)
      frame_there_lem Request q = refl
      frame_there_lem Response q = refl

      waiting : (d : Option ℕ) → c ≡ d → wait_fits t s.plan ≡ true
      waiting None q = rw q (le-leb s.plan.wait 0 (omega (arith, w.no_wait q)))
      waiting (Some e) q = rw q (le-leb s.plan.wait (entry_delay t e) (w.wait e q))

      opened : (p : Opened) → o ≡ p → can_open t s.message c o ≡ true
      opened Nothing q = rw q (nothing c)
        where
          nothing : (d : Option ℕ) → can_open t s.message d Nothing ≡ true
          nothing None = refl
          nothing (Some e) = refl
      opened (Frame f) q = let v = w.opens_frame f q in rw (q, v.1) ((entry_opens_lem t s.message v.0 f).1 v.2)
      opened Request q =
          let v = w.opens_request q in
          let m = w.request_sends q in
          rw (q, v.1, v.2, m.1)
      opened Response q = let v = w.opens_response q in rw (q, v.1, v.2)

      counted : (p : Opened) → o ≡ p → count_fits t s.transfer ≡ true
      counted Nothing q = rw q
      counted (Frame f) q = rw q (le-leb s.transfer.count (frame_length t f) (omega (arith, w.frame_bytes f q)))
      counted Request q = rw q (le-leb s.transfer.count 8 (omega (arith, w.request_bytes q)))
      counted Response q = rw q (le-leb s.transfer.count 8 (omega (arith, w.response_bytes q)))

      received : (i : ℕ) (l : Option ℕ) → last_of s.received i ≡ l → last_fits t i l ≡ true
      received i None q = refl
      received i (Some k) q = clauses_last t i k (w.reception i k q)

      sending : (m : Message) → s.message ≡ m → message_fits m ≡ true
      sending message.None q = refl
      sending (message.Sending y) q = clauses_sending y (w.length_low y q) (w.length_high y q) (w.frame_left y q)
      sending message.Completed q = refl
      sending message.Failed q = refl

  -- the state fits the table if and only if every clause holds
  pub fits_exactly : (state_fits t s ≡ true) ↔ Clauses t s
  fits_exactly = (λ h. to_clauses (fits_clauses t s h), λ w. fits_all t s (from_clauses w))
