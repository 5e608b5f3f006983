-- Document 01, "Byte in", of every state that the call accepts, also one that no history has: which answer a byte gets, by the copied bytes, those that came,
-- and the checksum.
use Prim.Native.Nat.{ℕ, ◌≤◌, ◌<◌}
use mathlib.Core.Path.{◌≡◌, refl, sym, ◌∙◌}
use mathlib.Core.Logic.{◌↔◌}
use mathlib.Core.Bool.{true, false}
use mathlib.Core.List.{List}
use native.Mathlib.Omega.{arith}
use borrow.Author.Tests.{eqb-true, eqb-false, eq-eqb, ltb-true, ltb-false}
use lib.Dec.{eqb}
use lib.ListN.{length, get_or, set, take, length-take, length-set}
use lib.Seq.{ext_get_or, get_or-take, get_or-set_same, get_or-set_other}
use Rattle.wire.specs.Checksum.{checksum_byte}
use Rattle.wire.specs.declared.checksum.Model.TheVariants.{Classic}
use Rattle.cluster.specs.Table.{identifier, frame_length, frame_model, published}
use Rattle.transport.proofs.Tests.{whether}
use Rattle.signal.proofs.Inside.{order}
use Rattle.master.specs.declared.state.Opened.{Opened}
use Rattle.master.specs.declared.state.Opened.TheVariants.{Frame, Request, Response}
use Rattle.master.specs.declared.state.State.{State}
use Rattle.master.specs.declared.byte.ByteAnswer.TheVariants as byte
use Rattle.master.specs.Transfers.{format_of, open_length, open_checksum, sends}
use Rattle.master.proofs.Tests.{never}
use Rattle.master.proofs.Verdicts.{byte_count, byte_length_high}
use Rattle.master.specs.Byte.{byte_verdict, byte_of, early, sent_byte, checksum_right, accepted, last_byte, received_byte, byte_effect}
use Rattle.std.specs.Prelude.{Ok}
use Rattle.master.specs.Calls.{ByteResult}

-- ---- the paper's sentences

-- "Sent frames: the byte must equal the copied one; the first difference closes the transfer as failed, the last equal byte as successful.": the nine copied
-- bytes, how many passed before, the data bytes, the byte and the answer
pub record SentSays (copy : List ℕ) (count n b : ℕ) (a : ByteResult) : Type 0 where
  pub more : (a ≡ Ok byte.More) ↔ ((b ≡ get_or copy count 0) × (count < n))
  pub success : (a ≡ Ok byte.Success) ↔ ((b ≡ get_or copy count 0) × (count ≡ n))
  pub failure : (a ≡ Ok byte.Failure) ↔ ¬ (b ≡ get_or copy count 0)

-- "Received frames: after length + 1 bytes a right checksum stores the data and succeeds; a wrong one stores nothing and fails.": what success answers, the
-- data's checksum, how many came before, the data bytes, the byte and the answer
pub record ReceivedSays (well : ByteResult) (sum count n b : ℕ) (a : ByteResult) : Type 0 where
  pub more : (a ≡ Ok byte.More) ↔ (count < n)
  pub success : (a ≡ well) ↔ ((count ≡ n) × (b ≡ sum))
  pub failure : (a ≡ Ok byte.Failure) ↔ ((count ≡ n) × ¬ (b ≡ sum))

module _ (t : List ℕ) (s : State) (bs : List ℕ) (b : ℕ) where
  abbrev copy : List ℕ
  copy = s.transfer.bytes

  abbrev count : ℕ
  count = s.transfer.count

  abbrev o : Opened
  o = s.transfer.opened

  abbrev answer : ByteResult
  answer = (byte_effect t s bs b).given.answer

  -- ---- what the master sends

  taken_failure : sends t s.transfer.opened ≡ true → eqb (get_or s.transfer.bytes s.transfer.count 0) b ≡ false
      → (byte_effect t s bs b).given.answer ≡ Ok byte.Failure
  unfolding byte_effect sent_byte
  taken_failure y e = rw (y, e)

  taken_more : sends t s.transfer.opened ≡ true → eqb (get_or s.transfer.bytes s.transfer.count 0) b ≡ true → early t s.transfer ≡ true
      → (byte_effect t s bs b).given.answer ≡ Ok byte.More
  unfolding byte_effect sent_byte
  taken_more y e z = rw (y, e, z)

  taken_success : sends t s.transfer.opened ≡ true → eqb (get_or s.transfer.bytes s.transfer.count 0) b ≡ true → early t s.transfer ≡ false
      → (byte_effect t s bs b).given.answer ≡ Ok byte.Success
  unfolding byte_effect sent_byte
  taken_success y e z = rw (y, e, z)

  sent_says : sends t o ≡ true → count ≤ open_length t o → SentSays copy count (open_length t o) b answer
  sent_says y l =
      whether (eqb (get_or copy count 0) b)
      (λ e.
      let q = sym (eqb-true (get_or copy count 0) b e) in
      whether (early t s.transfer)
      (λ z. let m = ltb-true count (open_length t o) z in let a : (byte_effect t s bs b).given.answer ≡ (Ok byte.More) = taken_more y e z in rw a (record {
        more = (λ c. (q, m), λ w. refl);
        success = (λ c. let u : ◌≡◌ {A = ℕ} 0 1 = cc in absurd (omega arith), λ w. absurd (omega (arith, w.1)));
        failure = (λ c. let u : ◌≡◌ {A = ℕ} 0 1 = cc in absurd (omega arith), λ w. absurd (w q));
      }))
      (λ z. let m = ltb-false count (open_length t o) z in let a : (byte_effect t s bs b).given.answer ≡ (Ok byte.Success) = taken_success y e z in rw a (record {
        more = (λ c. let u : ◌≡◌ {A = ℕ} 0 1 = cc in absurd (omega arith), λ w. absurd (omega (arith, w.1)));
        success = (λ c. (q, omega arith), λ w. refl);
        failure = (λ c. let u : ◌≡◌ {A = ℕ} 0 1 = cc in absurd (omega arith), λ w. absurd (w q));
      })))
      (λ e. let n = eqb-false (get_or copy count 0) b e in let a : (byte_effect t s bs b).given.answer ≡ (Ok byte.Failure) = taken_failure y e in rw a (record {
        more = (λ c. let u : ◌≡◌ {A = ℕ} 0 1 = cc in absurd (omega arith), λ w. absurd (n (sym w.0)));
        success = (λ c. let u : ◌≡◌ {A = ℕ} 0 1 = cc in absurd (omega arith), λ w. absurd (n (sym w.0)));
        failure = (λ c w. n (sym w), λ w. refl);
      }))

  -- ---- what it receives

  -- the byte stands behind the data that came
  last_there : count < length copy → get_or (set copy count b) count 0 ≡ b
  last_there h = get_or-set_same copy count b 0 h

  data_there : take count (set copy count b) ≡ take count copy
  data_there =
      ext_get_or 0 (take count (set copy count b)) (take count copy)
      (simp (length-take, length-set))
      (λ i h. let l : i < count = omega (arith, simp (length-take) at h) in
      get_or-take count (set copy count b) i 0 l ∙ get_or-set_other copy count i b 0 (λ e. omega arith) ∙ sym (get_or-take count copy i 0 l))

  right_exactly : count < length copy → count ≡ open_length t o
      → (checksum_right t o (set copy count b) ≡ true) ↔ (b ≡ open_checksum t o (take (open_length t o) copy))
  unfolding checksum_right
  right_exactly h q = rw (← q, last_there h, data_there) (eqb-true b (open_checksum t o (take count copy)), eq-eqb b (open_checksum t o (take count copy)))

  received_more : sends t s.transfer.opened ≡ false → early t s.transfer ≡ true → (byte_effect t s bs b).given.answer ≡ Ok byte.More
  unfolding byte_effect received_byte
  received_more y z = rw (y, z)

  received_failure : sends t s.transfer.opened ≡ false → early t s.transfer ≡ false
      → checksum_right t s.transfer.opened (set s.transfer.bytes s.transfer.count b) ≡ false → (byte_effect t s bs b).given.answer ≡ Ok byte.Failure
  unfolding byte_effect received_byte last_byte
  received_failure y z c = rw (y, z, c)

  received_well : sends t s.transfer.opened ≡ false → early t s.transfer ≡ false
      → checksum_right t s.transfer.opened (set s.transfer.bytes s.transfer.count b) ≡ true
      → (byte_effect t s bs b).given.answer ≡ (accepted t s s.transfer.opened (set s.transfer.bytes s.transfer.count b) bs).given.answer
  unfolding byte_effect received_byte last_byte
  received_well y z c = rw (y, z, c)

  -- a success is neither more nor failure
  abbrev Well : ByteResult → Type 0
  Well well = ¬ (well ≡ Ok byte.More) × ¬ (well ≡ Ok byte.Failure)

  received_says : (well : ByteResult) → Well well → (accepted t s o (set copy count b) bs).given.answer ≡ well → sends t o ≡ false → length copy ≡ 9
      → open_length t o ≤ 8 → count ≤ open_length t o → ReceivedSays well (open_checksum t o (take (open_length t o) copy)) count (open_length t o) b answer
  received_says well d is y nine high l =
      whether (early t s.transfer)
      (λ z.
      let m = ltb-true count (open_length t o) z in
      let a : (byte_effect t s bs b).given.answer ≡ (Ok byte.More) = received_more y z in
      rw a (record {
        more = (λ c. m, λ w. refl);
        success = (λ c. absurd (d.0 (sym c)), λ w. absurd (omega (arith, w.0)));
        failure = (λ c. let u : ◌≡◌ {A = ℕ} 0 1 = cc in absurd (omega arith), λ w. absurd (omega (arith, w.0)));
      }))
      (λ z.
      let m = ltb-false count (open_length t o) z in
      let at : count ≡ open_length t o = omega arith in
      let exact = right_exactly (omega arith) at in
      whether (checksum_right t o (set copy count b))
      (λ c.
      let a : (byte_effect t s bs b).given.answer ≡ well = received_well y z c ∙ is in
      rw a (record {
        more = (λ q. absurd (d.0 q), λ w. absurd (omega arith));
        success = (λ q. (at, exact.0 c), λ w. refl);
        failure = (λ q. absurd (d.1 q), λ w. absurd (w.1 (exact.0 c)));
      }))
      (λ c.
      let a : (byte_effect t s bs b).given.answer ≡ (Ok byte.Failure) = received_failure y z c in
      rw a (record {
        more = (λ q. let u : ◌≡◌ {A = ℕ} 0 1 = cc in absurd (omega arith), λ w. absurd (omega arith));
        success = (λ q. absurd (d.1 (sym q)), λ w. never (sym c ∙ exact.1 w.1));
        failure = (λ q. (at, λ e. never (sym c ∙ exact.1 e)), λ w. refl);
      })))

-- ---- every accepted byte

-- what is open decides: a frame with its own length and checksum, a request or response of eight bytes, classic under 60 or 61
pub record ByteSays (t : List ℕ) (s : State) (b : ℕ) (a : ByteResult) : Type 0 where
  pub sent_frame : (f : ℕ) → s.transfer.opened ≡ Frame f → published t f ≡ true
      → SentSays s.transfer.bytes s.transfer.count (frame_length t f) b a
  pub request : s.transfer.opened ≡ Request → SentSays s.transfer.bytes s.transfer.count 8 b a
  pub received_frame : (f : ℕ) → s.transfer.opened ≡ Frame f → published t f ≡ false
      → ReceivedSays (Ok byte.Success) (checksum_byte (identifier t f) (frame_model t f) (take (frame_length t f) s.transfer.bytes))
      s.transfer.count (frame_length t f) b a
  pub response : s.transfer.opened ≡ Response
      → ReceivedSays (Ok (byte.Response (take 8 (set s.transfer.bytes s.transfer.count b)))) (checksum_byte 61 Classic (take 8 s.transfer.bytes)) s.transfer.count 8 b a
  pub any_response : s.transfer.opened ≡ Response → (ys : List ℕ) → a ≡ Ok (byte.Response ys)
      → (s.transfer.count ≡ 8) × (b ≡ checksum_byte 61 Classic (take 8 s.transfer.bytes))

-- whatever bytes a response is said to have, it comes behind the data alone, and for the right checksum
any_says : (well : ByteResult) (sum count n b : ℕ) (a : ByteResult) → ReceivedSays well sum count n b a → count ≤ n → (ys : List ℕ)
    → a ≡ Ok (byte.Response ys) → (count ≡ n) × (b ≡ sum)
any_says well sum count n b a says l ys q =
    order count n
    (λ m. let c : ◌≡◌ {A = ByteResult} (Ok byte.More) (Ok (byte.Response ys)) = sym (says.more.1 m) ∙ q in let u : ◌≡◌ {A = ℕ} 0 1 = cc in absurd (omega arith))
    (λ m. whether (eqb b sum)
    (λ e. (omega (arith, l, m), eqb-true b sum e))
    (λ e. let c : ◌≡◌ {A = ByteResult} (Ok byte.Failure) (Ok (byte.Response ys)) = sym (says.failure.1 (omega (arith, l, m), eqb-false b sum e)) ∙ q in
    let u : ◌≡◌ {A = ℕ} 0 1 = cc in absurd (omega arith)))

module _ (t : List ℕ) (s : State) (bs : List ℕ) (b : ℕ) (nine : length s.transfer.bytes ≡ 9) (h : byte_verdict t (length bs) s ≡ Ok tt) where
  -- the eight data bytes, where the byte is the ninth
  abbrev got : List ℕ
  got = take 8 (set s.transfer.bytes s.transfer.count b)

  effect_exactly : ByteSays t s b (byte_effect t s bs b).given.answer
  unfolding format_of open_checksum accepted
  effect_exactly =
      let low = byte_count t (length bs) s h in
      let high = byte_length_high t (length bs) s h in
      record {
        sent_frame = λ f e p. let l : open_length t s.transfer.opened ≡ frame_length t f = rw e in rw l at (sent_says t s bs b (rw (e, p)) low);
        request = λ e. let l : open_length t s.transfer.opened ≡ 8 = rw e in rw l at (sent_says t s bs b (rw e) low);
        received_frame = λ f e p.
            let l : open_length t s.transfer.opened ≡ frame_length t f = rw e in
            let ds = take (frame_length t f) s.transfer.bytes in
            let c : open_checksum t s.transfer.opened ds ≡ checksum_byte (identifier t f) (frame_model t f) ds = rw e in
            rw (l, c) at (received_says t s bs b (Ok byte.Success) success_well (rw e) (rw (e, p)) nine high low);
        response = λ e.
            let l : open_length t s.transfer.opened ≡ 8 = rw e in
            let c : open_checksum t s.transfer.opened (take 8 s.transfer.bytes) ≡ checksum_byte 61 Classic (take 8 s.transfer.bytes) = rw e in
            rw (l, c) at (received_says t s bs b (Ok (byte.Response got)) response_well (rw e) (rw e) nine high low);
        any_response = λ e ys q.
            let l : open_length t s.transfer.opened ≡ 8 = rw e in
            let c : open_checksum t s.transfer.opened (take 8 s.transfer.bytes) ≡ checksum_byte 61 Classic (take 8 s.transfer.bytes) = rw e in
            any_says _ _ _ _ _ _ (rw (l, c) at (received_says t s bs b (Ok (byte.Response got)) response_well (rw e) (rw e) nine high low)) (omega (arith, low, l)) ys q;
      }
    where
      success_well : ¬ (◌≡◌ {A = ByteResult} (Ok byte.Success) (Ok byte.More)) × ¬ (◌≡◌ {A = ByteResult} (Ok byte.Success) (Ok byte.Failure))
      success_well = ((λ e. let u : ◌≡◌ {A = ℕ} 0 1 = cc in omega arith), λ e. let u : ◌≡◌ {A = ℕ} 0 1 = cc in omega arith)

      response_well : ¬ (◌≡◌ {A = ByteResult} (Ok (byte.Response got)) (Ok byte.More)) × ¬ (◌≡◌ {A = ByteResult} (Ok (byte.Response got)) (Ok byte.Failure))
      response_well = ((λ e. let u : ◌≡◌ {A = ℕ} 0 1 = cc in omega arith), λ e. let u : ◌≡◌ {A = ℕ} 0 1 = cc in omega arith)

  -- an accepted byte, of every state; its nine bytes are nine
  pub byte_exactly : ByteSays t s b (byte_of t s bs b).given.answer
  unfolding byte_of
  byte_exactly = rw h effect_exactly
