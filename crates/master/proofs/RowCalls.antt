-- Each call tests its rows in the order of their numbers: the verdict on it is the lowest row that applies.
use Prim.Native.Nat.{ℕ, ◌*◌, ◌^◌, ◌≤◌, ◌<◌}
use mathlib.Core.Path.{◌≡◌, refl, sym, ◌∙◌}
use mathlib.Core.Logic.{◌⊎◌, inl, inr, ⊎_elim}
use mathlib.Core.Bool.{Bool, true, false, not, beq}
use mathlib.Core.List.{List}
use native.Mathlib.Omega.{arith}
use lib.Dec.{leb, ltb}
use lib.ListN.{length}
use borrow.Author.Tests.{ltb-true, ltb-false, eqb-true, eqb-false, leb-true, leb-false, le-leb}
use Rattle.cluster.specs.Check.{RightTable}
use Rattle.cluster.specs.Table.{signal_count, signal_kind, signal_width, is_array}
use Rattle.cluster.specs.Table.{member_count, member_frame, entry_count, entry_schedule, schedule_count}
use Rattle.cluster.specs.Values.{signal_published, first_placement, value_fits, array_fits}
use Rattle.cluster.specs.Fresh.{array_length}
use Rattle.cluster.proofs.PlacementLaws.{first_there, published_as}
use Rattle.cluster.proofs.SignalLaws.{array_width_whole}
use Rattle.cluster.proofs.FreshLaws.{array_length_lem as array-length-is}
use Rattle.wire.proofs.Tests.{beq_true}
use Rattle.cluster.specs.Lists.{member_of}
use Rattle.cluster.proofs.EntryLaws.{schedule_below, schedule_entry}
use Rattle.cluster.proofs.MemberOf.{member_exactly}
use Rattle.transport.specs.Cutting.{is_length}
use Rattle.transport.proofs.Tests.{and_left, and_right, order}
use Rattle.master.specs.declared.state.Opened.{Opened}
use Rattle.master.specs.declared.state.Opened.TheVariants as opened
use Rattle.master.specs.declared.state.Message.{Message}
use Rattle.master.specs.declared.state.Message.TheVariants as message
use Rattle.master.specs.Transfers.{is_open}
use Rattle.master.specs.Fits.{lent_fits, is_sending}
use Rattle.master.specs.Admit.{buffer_size, admitted}
use Rattle.master.specs.Put.{Value, Put, scalar, array}
use Rattle.master.specs.Write.{is_bytes, fits_signal, writable, write_verdict}
use Rattle.master.specs.Read.{read_verdict}
use Rattle.master.specs.Select.{select_verdict}
use Rattle.master.specs.Tick.{tick_verdict}
use Rattle.master.specs.Byte.{byte_verdict}
use Rattle.master.specs.Message.{send_verdict}
use Rattle.master.specs.Ahead.{ahead_verdict}
use Rattle.master.specs.Calls as call
use Rattle.master.specs.Calls.{Call}
use Rattle.master.specs.Run.{Held}
use Rattle.master.specs.Step.{verdict_of}
use Rattle.master.proofs.FitsExactly.{Clauses}
use Rattle.master.proofs.Tests.{never}
use Rattle.master.proofs.Rows.{lent, Row, table_fault, buffer_size_lem, state_unfit, lent_length}
use Rattle.master.proofs.Rows.{no_signal_to_write, no_signal_to_read, no_array_to_read, no_schedule, no_member, not_published_lem}
use Rattle.master.proofs.Rows.{scalar_into_array, array_into_scalar, scalar_of_array, array_of_scalar, value_too_large, array_length_lem}
use Rattle.master.proofs.Rows.{no_transfer_lem, message_empty, message_too_long, message_sending}
use Rattle.master.proofs.Answered.{then_accepted}
use Rattle.master.proofs.RowTests.{NoneBelow, one_more, skip, all_none, Lowest, tested, not_3, head}
use Rattle.std.specs.Prelude.{Ok}

-- ---- the signal of a write or a read

beq_false : (a b : Bool) → beq a b ≡ false → a ≡ not b
beq_false true true h = h
beq_false true false h = refl
beq_false false true h = refl
beq_false false false h = sym h

module _ (t : List ℕ) (s : ℕ) where
  is_array_lem : is_array t s ≡ true → signal_kind t s ≡ 1
  unfolding is_array
  is_array_lem h = eqb-true (signal_kind t s) 1 h

  no_array : is_array t s ≡ false → ¬ (signal_kind t s ≡ 1)
  unfolding is_array
  no_array h = eqb-false (signal_kind t s) 1 h

  module _ (ok : RightTable t) (h : s < signal_count t) (a : is_array t s ≡ true) (vs : List ℕ) where
    whole_bytes : array_fits t s vs ≡ true → 8 * length vs ≡ signal_width t s
    unfolding array_fits
    whole_bytes f =
        omega (arith, eqb-true (length vs) (array_length t s) f, array-length-is t ok s h a, array_width_whole t ok s h a)

    other_bytes : array_fits t s vs ≡ false → ¬ (8 * length vs ≡ signal_width t s)
    unfolding array_fits
    other_bytes f e = eqb-false (length vs) (array_length t s) f (omega (arith, array-length-is t ok s h a))

module _ (t : List ℕ) (x : Held) (w : Put) where
  abbrev s : ℕ
  s = w.signal

  kind_row : (v : Value) → w.value ≡ v → beq (is_array t s) (is_bytes v) ≡ false → Row t x (call.write w) 6
  kind_row (scalar v) e h = scalar_into_array v e (is_array_lem t s (beq_false (is_array t s) false h))
  kind_row (array vs) e h = array_into_scalar vs e (no_array t s (beq_false (is_array t s) true h))

  no_kind_row : is_array t s ≡ is_bytes w.value → ¬ Row t x (call.write w) 6
  no_kind_row h (scalar_into_array v e k) = no_array t s (h ∙ rw e) k
  no_kind_row h (array_into_scalar vs e n) = n (is_array_lem t s (h ∙ rw e))

  value_row : RightTable t → s < signal_count t → (v : Value) → w.value ≡ v → is_array t s ≡ is_bytes v → fits_signal t s v ≡ false → Row t x (call.write w) 7
  unfolding value_fits
  value_row ok b (scalar v) e k h = value_too_large v e (ltb-false v (2 ^ signal_width t s) h)
  value_row ok b (array vs) e k h = array_length_lem vs e (other_bytes t s ok b k vs h)

  no_value_row : RightTable t → s < signal_count t → is_array t s ≡ is_bytes w.value → fits_signal t s w.value ≡ true → ¬ Row t x (call.write w) 7
  unfolding value_fits
  no_value_row ok b k h (value_too_large v e l) = let m = ltb-true v (2 ^ signal_width t s) (rw e at h) in omega arith
  no_value_row ok b k h (array_length_lem vs e n) = n (whole_bytes t s ok b (k ∙ rw e) vs (rw e at h))

  no_signal_row : s < signal_count t → ¬ Row t x (call.write w) 4
  no_signal_row h (no_signal_to_write l) = omega arith

  no_published_row : RightTable t → signal_published t s ≡ true → ¬ Row t x (call.write w) 5
  no_published_row ok h (not_published_lem k b e n) = never (sym n ∙ sym (published_as t ok s k (record { there = b; is = e })) ∙ h)

  published_row : RightTable t → s < signal_count t → signal_published t s ≡ false → Row t x (call.write w) 5
  unfolding signal_published
  published_row ok b h =
      let o = first_there t ok s b in
      not_published_lem (first_placement t s) o.there o.is h

  high : (k : ℕ) → Row t x (call.write w) k → k < 8
  high k (table_fault r e) = omega arith
  high k (buffer_size_lem l n) = omega arith
  high k (state_unfit n) = omega arith
  high k (no_signal_to_write l) = omega arith
  high k (not_published_lem j b e n) = omega arith
  high k (scalar_into_array v e q) = omega arith
  high k (array_into_scalar vs e q) = omega arith
  high k (value_too_large v e l) = omega arith
  high k (array_length_lem vs e n) = omega arith

  write_lowest : Lowest t x (call.write w) (write_verdict t (length x.bytes) x.state w)
  unfolding writable
  write_lowest = head t x (call.write w) (length x.bytes) _ (λ l. refl) (λ n. never (sym n)) rest
    where
      rest : RightTable t → Clauses t x.state → NoneBelow (Row t x (call.write w)) 3 → Lowest t x (call.write w) (writable t s (is_bytes w.value) (fits_signal t s w.value))
      rest ok cl n2 =
          let n3 = one_more _ 3 n2 (not_3 t x (call.write w) cl (λ m e. absurd (let z : ◌≡◌ {A = ℕ} 0 1 = cc in omega arith))) in
          tested t x _ (ltb s (signal_count t)) 4 _ n3 (λ b. no_signal_to_write (ltb-false s (signal_count t) b)) (λ b.
          let below = ltb-true s (signal_count t) b in
          let n4 = one_more _ 4 n3 (no_signal_row below) in
          tested t x _ (signal_published t s) 5 _ n4 (published_row ok below) (λ p.
          let n5 = one_more _ 5 n4 (no_published_row ok p) in
          tested t x _ (beq (is_array t s) (is_bytes w.value)) 6 _ n5 (kind_row w.value refl) (λ k.
          let same = beq_true (is_array t s) (is_bytes w.value) k in
          let n6 = one_more _ 6 n5 (no_kind_row same) in
          tested t x _ (fits_signal t s w.value) 7 _ n6 (value_row ok below w.value refl same) (λ f.
          all_none _ 8 (one_more _ 7 n6 (no_value_row ok below same f)) high))))

-- ---- the other calls

-- a call that is no tick
abbrev NoTick : Call → Type 0
NoTick c = (m : List ℕ) → ¬ (c ≡ call.tick m)

module _ (t : List ℕ) (x : Held) where
  -- of a call that is no tick, behind 1, 2 and 3
  behind : (c : Call) → NoTick c → Clauses t x.state → NoneBelow (Row t x c) 3 → NoneBelow (Row t x c) 4
  behind c n w h = one_more _ 3 h (not_3 t x c w (λ m e. absurd (n m e)))

  read_rows : (s k : ℕ) → Row t x (call.read s) k → (k < 5) ⊎ (k ≡ 6)
  read_rows s k (table_fault r e) = inl (omega arith)
  read_rows s k (buffer_size_lem l n) = inl (omega arith)
  read_rows s k (state_unfit n) = inl (omega arith)
  read_rows s k (no_signal_to_read l) = inl (omega arith)
  read_rows s k (scalar_of_array e) = inr refl

  -- a read, of a scalar or of an array
  reading : (c : Call) → lent c ≡ true → NoTick c → ((k : ℕ) → Row t x c k → (k < 5) ⊎ (k ≡ 6)) → (s : ℕ) (kind : Bool)
      → (signal_count t ≤ s → Row t x c 4) → (s < signal_count t → ¬ Row t x c 4)
      → (is_array t s ≡ not kind → Row t x c 6) → (is_array t s ≡ kind → ¬ Row t x c 6)
      → Lowest t x c (read_verdict t (length x.bytes) x.state s kind)
  unfolding read_verdict
  reading c l n rows s kind row-4 no-4 row-6 no-6 =
      head t x c (length x.bytes) _ (λ y. refl) (λ y. never (sym y ∙ l)) (λ ok w n2.
      let n3 = behind c n w n2 in
      tested t x _ (ltb s (signal_count t)) 4 _ n3 (λ b. row-4 (ltb-false s (signal_count t) b)) (λ b.
      let n4 = one_more _ 4 n3 (no-4 (ltb-true s (signal_count t) b)) in
      let n5 = skip _ 5 6 n4 (λ k r. ⊎_elim inl (λ e. inr (omega arith)) (rows k r)) in
      tested t x _ (beq (is_array t s) kind) 6 _ n5 (λ k. row-6 (beq_false (is_array t s) kind k)) (λ k.
      let n6 = one_more _ 6 n5 (no-6 (beq_true (is_array t s) kind k)) in
      all_none _ 7 n6 (λ j r. ⊎_elim (λ a. omega arith) (λ e. omega arith) (rows j r)))))

  read_lowest : (s : ℕ) → Lowest t x (call.read s) (read_verdict t (length x.bytes) x.state s false)
  read_lowest s =
      reading (call.read s) refl (λ m e. let z : ◌≡◌ {A = ℕ} 0 1 = cc in omega arith) (read_rows s) s false
      no_signal_to_read not_4 (λ a. scalar_of_array (is_array_lem t s a)) not_6
    where
      not_4 : s < signal_count t → ¬ Row t x (call.read s) 4
      not_4 h (no_signal_to_read l) = omega arith

      not_6 : is_array t s ≡ false → ¬ Row t x (call.read s) 6
      not_6 a (scalar_of_array e) = no_array t s a e

  array_rows : (s k : ℕ) → Row t x (call.read_array s) k → (k < 5) ⊎ (k ≡ 6)
  array_rows s k (table_fault r e) = inl (omega arith)
  array_rows s k (buffer_size_lem l n) = inl (omega arith)
  array_rows s k (state_unfit n) = inl (omega arith)
  array_rows s k (no_array_to_read l) = inl (omega arith)
  array_rows s k (array_of_scalar e) = inr refl

  array_lowest : (s : ℕ) → Lowest t x (call.read_array s) (read_verdict t (length x.bytes) x.state s true)
  array_lowest s =
      reading (call.read_array s) refl (λ m e. let z : ◌≡◌ {A = ℕ} 0 1 = cc in omega arith) (array_rows s) s true
      no_array_to_read not_4 (λ a. array_of_scalar (no_array t s a)) not_6
    where
      not_4 : s < signal_count t → ¬ Row t x (call.read_array s) 4
      not_4 h (no_array_to_read l) = omega arith

      not_6 : is_array t s ≡ true → ¬ Row t x (call.read_array s) 6
      not_6 a (array_of_scalar n) = n (is_array_lem t s a)

  select_lowest : (n : ℕ) → Lowest t x (call.select n) (select_verdict t x.state n)
  unfolding select_verdict
  select_lowest n =
      head t x (call.select n) (buffer_size t) _ (λ l. never l) (λ l. refl) (λ ok w n2.
      let n3 = behind (call.select n) (λ m e. let z : ◌≡◌ {A = ℕ} 0 1 = cc in omega arith) w n2 in
      tested t x _ (ltb n (schedule_count t)) 4 _ n3 (λ b. no_schedule (missing ok (ltb-false n (schedule_count t) b))) (λ b.
      all_none _ 5 (one_more _ 4 n3 (not_4 ok (ltb-true n (schedule_count t) b))) high))
    where
      missing : RightTable t → schedule_count t ≤ n → (e : ℕ) → e < entry_count t → ¬ (entry_schedule t e ≡ n)
      missing ok l e h q = omega (arith, schedule_below t ok e h)

      not_4 : RightTable t → n < schedule_count t → ¬ Row t x (call.select n) 4
      not_4 ok h (no_schedule none_there) = let e = schedule_entry t ok n h in none_there e.0 e.1 e.2

      high : (k : ℕ) → Row t x (call.select n) k → k < 5
      high k (table_fault r e) = omega arith
      high k (buffer_size_lem l q) = omega arith
      high k (state_unfit q) = omega arith
      high k (no_schedule q) = omega arith

  lent_row : (m : List ℕ) (y : Message) → x.state.message ≡ y → lent_fits y (length m) ≡ false → Row t x (call.tick m) 3
  lent_row m message.None e h = never (sym h)
  lent_row m (message.Sending y) e h = lent_length y e (eqb-false (length m) y.length h)
  lent_row m message.Completed e h = never (sym h)
  lent_row m message.Failed e h = never (sym h)

  tick_lowest : (m : List ℕ) → Lowest t x (call.tick m) (tick_verdict t (length x.bytes) (length m) x.state)
  unfolding tick_verdict
  tick_lowest m =
      head t x (call.tick m) (length x.bytes) _ (λ l. refl) (λ n. never (sym n)) (λ ok w n2.
      tested t x _ (lent_fits x.state.message (length m)) 3 _ n2 (lent_row m x.state.message refl) (λ b.
      all_none _ 4 (one_more _ 3 n2 (not_3 t x (call.tick m) w (λ k e. let q : k ≡ m = cc in rw q b))) high))
    where
      high : (k : ℕ) → Row t x (call.tick m) k → k < 4
      high k (table_fault r e) = omega arith
      high k (buffer_size_lem l q) = omega arith
      high k (state_unfit q) = omega arith
      high k (lent_length y e n) = omega arith

  byte_rows : (b k : ℕ) → Row t x (call.byte_in b) k → (k < 4) ⊎ (k ≡ 8)
  byte_rows b k (table_fault r e) = inl (omega arith)
  byte_rows b k (buffer_size_lem l n) = inl (omega arith)
  byte_rows b k (state_unfit n) = inl (omega arith)
  byte_rows b k (no_transfer_lem e) = inr refl

  closed_row : (b : ℕ) (o : Opened) → x.state.transfer.opened ≡ o → is_open o ≡ false → Row t x (call.byte_in b) 8
  closed_row b opened.Nothing e h = no_transfer_lem e
  closed_row b (opened.Frame f) e h = never (sym h)
  closed_row b opened.Request e h = never (sym h)
  closed_row b opened.Response e h = never (sym h)

  byte_lowest : (b : ℕ) → Lowest t x (call.byte_in b) (byte_verdict t (length x.bytes) x.state)
  unfolding byte_verdict
  byte_lowest b =
      head t x (call.byte_in b) (length x.bytes) _ (λ l. refl) (λ n. never (sym n)) (λ ok w n2.
      let n3 = behind (call.byte_in b) (λ m e. let z : ◌≡◌ {A = ℕ} 0 1 = cc in omega arith) w n2 in
      let n7 = skip _ 4 8 n3 (λ k r. ⊎_elim inl (λ e. inr (omega arith)) (byte_rows b k r)) in
      tested t x _ (is_open x.state.transfer.opened) 8 _ n7 (closed_row b x.state.transfer.opened refl) (λ y.
      all_none _ 9 (one_more _ 8 n7 (not_8 y)) (λ j r. ⊎_elim (λ l. omega arith) (λ e. omega arith) (byte_rows b j r))))
    where
      not_8 : is_open x.state.transfer.opened ≡ true → ¬ Row t x (call.byte_in b) 8
      not_8 y (no_transfer_lem e) = never (rw e at y)

  -- a call with no test of its own
  asking_lowest : (c : Call) → lent c ≡ false → NoTick c → ((k : ℕ) → Row t x c k → k < 4) → Lowest t x c (admitted t (buffer_size t) x.state)
  asking_lowest c l n high =
      rw (← then_accepted (admitted t (buffer_size t) x.state))
      (head t x c (buffer_size t) (Ok tt) (λ y. never (sym l ∙ y)) (λ y. refl) (λ ok w n2. all_none _ 4 (behind c n w n2) high))

  status_lowest : Lowest t x call.read_status (admitted t (buffer_size t) x.state)
  status_lowest = asking_lowest call.read_status refl (λ m e. let z : ◌≡◌ {A = ℕ} 0 1 = cc in omega arith) high
    where
      high : (k : ℕ) → Row t x call.read_status k → k < 4
      high k (table_fault r e) = omega arith
      high k (buffer_size_lem l q) = omega arith
      high k (state_unfit q) = omega arith

  message_lowest : Lowest t x call.message_state (admitted t (buffer_size t) x.state)
  message_lowest = asking_lowest call.message_state refl (λ m e. let z : ◌≡◌ {A = ℕ} 0 1 = cc in omega arith) high
    where
      high : (k : ℕ) → Row t x call.message_state k → k < 4
      high k (table_fault r e) = omega arith
      high k (buffer_size_lem l q) = omega arith
      high k (state_unfit q) = omega arith

  send_rows : (nad n k : ℕ) → Row t x (call.send nad n) k → (k < 4) ⊎ ((9 ≤ k) × (k < 11))
  send_rows nad n k (table_fault r e) = inl (omega arith)
  send_rows nad n k (buffer_size_lem l q) = inl (omega arith)
  send_rows nad n k (state_unfit q) = inl (omega arith)
  send_rows nad n k (message_empty e) = inr (omega arith, omega arith)
  send_rows nad n k (message_too_long l) = inr (omega arith, omega arith)
  send_rows nad n k (message_sending y e) = inr (omega arith, omega arith)

  length_row : (nad n : ℕ) → is_length n ≡ false → Row t x (call.send nad n) 9
  length_row nad n h = order 1 n
      (λ l. message_too_long (leb-false n 4095 (rw (le-leb 1 n l) at h)))
      (λ l. message_empty (omega arith))

  send_lowest : (nad n : ℕ) → Lowest t x (call.send nad n) (send_verdict t x.state n)
  unfolding send_verdict
  send_lowest nad n =
      head t x (call.send nad n) (buffer_size t) _ (λ l. never l) (λ l. refl) (λ ok w n2.
      let n3 = behind (call.send nad n) (λ m e. let z : ◌≡◌ {A = ℕ} 0 1 = cc in omega arith) w n2 in
      let n8 = skip _ 4 9 n3 (λ k r. ⊎_elim inl (λ e. inr e.0) (send_rows nad n k r)) in
      tested t x _ (is_length n) 9 _ n8 (length_row nad n) (λ y.
      let n9 = one_more _ 9 n8 (not_9 y) in
      tested t x _ (not (is_sending x.state.message)) 10 _ n9 (λ q. sending_row x.state.message refl q) (λ q.
      all_none _ 11 (one_more _ 10 n9 (not_10 q)) (λ j r. ⊎_elim (λ l. omega arith) (λ e. e.1) (send_rows nad n j r)))))
    where
      not_9 : is_length n ≡ true → ¬ Row t x (call.send nad n) 9
      not_9 h (message_empty e) = omega (arith, leb-true 1 n (and_left (leb 1 n) (leb n 4095) h))
      not_9 h (message_too_long l) = omega (arith, leb-true n 4095 (and_right (leb 1 n) (leb n 4095) h))

      not_10 : not (is_sending x.state.message) ≡ true → ¬ Row t x (call.send nad n) 10
      not_10 h (message_sending y e) = never (rw e at h)

      sending_row : (m : Message) → x.state.message ≡ m → not (is_sending m) ≡ false → Row t x (call.send nad n) 10
      sending_row message.None e h = never (sym h)
      sending_row (message.Sending y) e h = message_sending y e
      sending_row message.Completed e h = never (sym h)
      sending_row message.Failed e h = never (sym h)

  ahead_lowest : (f : ℕ) → Lowest t x (call.number_ahead f) (ahead_verdict t x.state f)
  unfolding ahead_verdict
  ahead_lowest f =
      head t x (call.number_ahead f) (buffer_size t) _ (λ l. never l) (λ l. refl) (λ ok w n2.
      let n3 = behind (call.number_ahead f) (λ m e. let z : ◌≡◌ {A = ℕ} 0 1 = cc in omega arith) w n2 in
      tested t x _ (ltb (member_of t f) (member_count t)) 4 _ n3 (λ b. no_member (missing (ltb-false (member_of t f) (member_count t) b))) (λ b.
      all_none _ 5 (one_more _ 4 n3 (not_4 (ltb-true (member_of t f) (member_count t) b))) high))
    where
      missing : member_count t ≤ member_of t f → (m : ℕ) → m < member_count t → ¬ (member_frame t m ≡ f)
      missing l m h q = let b = (member_exactly t f).1 (m, h, q) in omega arith

      not_4 : member_of t f < member_count t → ¬ Row t x (call.number_ahead f) 4
      not_4 h (no_member none_there) = let e = (member_exactly t f).0 h in none_there e.0 e.1 e.2

      high : (k : ℕ) → Row t x (call.number_ahead f) k → k < 5
      high k (table_fault r e) = omega arith
      high k (buffer_size_lem l q) = omega arith
      high k (state_unfit q) = omega arith
      high k (no_member q) = omega arith

  -- ---- every call

  pub call_lowest : (c : Call) → Lowest t x c (verdict_of t x c)
  unfolding verdict_of
  call_lowest (call.write w) = write_lowest t x w
  call_lowest (call.read s) = read_lowest s
  call_lowest (call.read_array s) = array_lowest s
  call_lowest (call.select n) = select_lowest n
  call_lowest (call.tick m) = tick_lowest m
  call_lowest (call.byte_in b) = byte_lowest b
  call_lowest call.read_status = status_lowest
  call_lowest (call.send nad n) = send_lowest nad n
  call_lowest call.message_state = message_lowest
  call_lowest (call.number_ahead f) = ahead_lowest f
