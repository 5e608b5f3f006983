-- An entry's longest frame is one that it can open, and no frame that it can open is longer; so its slot holds the longest exactly when every
-- frame that it can open fits.
use Prim.Native.Nat.{ℕ, zero, suc, ◌+◌, ◌*◌, ◌≤◌, ◌<◌}
use mathlib.Core.Path.{◌≡◌, refl, sym, ◌∙◌}
use mathlib.Core.Bool.{true, false, true≢false}
use mathlib.Core.List.{List}
use mathlib.Core.Logic.{◌↔◌}
use native.Mathlib.Decide.{ℕ_discrete}
use native.Mathlib.Nat.{mul-le-mul_right}
use native.Mathlib.Omega.{arith}
use borrow.Author.Tests.{leb-true, le-leb}
use Rattle.wire.proofs.Tests.{whether}
use Rattle.signal.proofs.Inside.{order}
use Rattle.cluster.specs.Check.{RightTable}
use Rattle.cluster.specs.Table.{frame_length, member_count, member_list, member_frame, entry_count, entry_kind, entry_target, entry_delay}
use Rattle.cluster.proofs.EntryLaws.{entry_kind_high, list_target}
use Rattle.cluster.proofs.FrameLaws.{frame_length_low}
use Rattle.cluster.proofs.MemberLaws.{member_frame_below, list_member}
use Rattle.timing.specs.FrameTime.{minimum_bits, maximum_tenths}
use Rattle.timing.specs.InWords.{Opens, its_frame, its_member, the_request, the_response, Fits, Room, NoRoom}
use Rattle.timing.specs.Slots.{slot_holds, longest_member, entry_bytes, entry_holds}
use Rattle.timing.proofs.Steps.{member_in, member_out, frame_bytes, list_bytes, other_bytes}

-- 001's two bounds in numbers
pub minimum_exactly : (n : ℕ) → minimum_bits n ≡ 34 + 10 * (n + 1)
unfolding minimum_bits
minimum_exactly n = refl

pub maximum_exactly : (n : ℕ) → maximum_tenths n ≡ 14 * (34 + 10 * (n + 1))
unfolding maximum_tenths minimum_bits
maximum_exactly n = refl

-- a slot holds a frame exactly when the frame fits it
pub slot_exactly : (tick bit delay n : ℕ) → (slot_holds tick bit delay n ≡ true) ↔ Fits tick bit delay n
unfolding slot_holds maximum_tenths minimum_bits
slot_exactly tick bit delay n = (leb-true _ _, le-leb _ _)

-- a shorter frame fits too
shorter : (tick bit delay k n : ℕ) → k ≤ n → Fits tick bit delay n → Fits tick bit delay k
shorter tick bit delay k n h f =
    let less : 14 * (34 + 10 * (k + 1)) ≤ 14 * (34 + 10 * (n + 1)) = omega arith in
    omega (arith, mul-le-mul_right bit less)

module _ (t : List ℕ) where
  -- no member of a list is longer than its longest one
  longest_bound : (l m k : ℕ) → k < m → member_list t k ≡ l → frame_length t (member_frame t k) ≤ longest_member t l m
  longest_bound l zero k h e = absurd (omega arith)
  longest_bound l (suc m) k h e =
      elim (ℕ_discrete k m) [
        | yes p ↦ let here : member_list t m ≡ l = rw p at e in rw p (omega (arith, member_in t l m here))
        | no p ↦ elim (ℕ_discrete (member_list t m) l) [
          | yes q ↦ omega (arith, member_in t l m q, longest_bound l m k (omega arith) e)
          | no q ↦ omega (arith, member_out t l m q, longest_bound l m k (omega arith) e)
        ]
      ]

  -- a member of list l below m with so many bytes
  abbrev Member : ℕ → ℕ → ℕ → Type 0
  Member l m n = (k : ℕ) × (k < m) × (member_list t k ≡ l) × (n ≡ frame_length t (member_frame t k))

  later : (l m n : ℕ) → Member l m n → Member l (suc m) n
  later l m n w = (w.0, omega (arith, w.1), w.2, w.3)

  -- the longest one is a member
  longest_member_lem : (l m n : ℕ) → n ≡ longest_member t l m → 0 < n → Member l m n
  unfolding longest_member
  longest_member_lem l zero n e h = absurd (omega arith)
  longest_member_lem l (suc m) n e h =
      elim (ℕ_discrete (member_list t m) l) [
        | yes q ↦ order (frame_length t (member_frame t m)) (longest_member t l m)
            (λ b. later l m n (longest_member_lem l m n (omega (arith, e, member_in t l m q)) h))
            (λ b. (m, omega arith, q, omega (arith, e, member_in t l m q)))
        | no q ↦ later l m n (longest_member_lem l m n (e ∙ member_out t l m q) h)
      ]

  -- the kinds of an entry
  kinds : {A : Type 0} (k : ℕ) → k ≤ 3 → (k ≡ 0 → A) → (k ≡ 1 → A) → (k ≡ 2 → A) → (k ≡ 3 → A) → A
  kinds zero h a b c d = a refl
  kinds (suc zero) h a b c d = b refl
  kinds (suc (suc zero)) h a b c d = c refl
  kinds (suc (suc (suc zero))) h a b c d = d refl
  kinds (suc (suc (suc (suc k)))) h a b c d = absurd (omega arith)

  eight : (e k : ℕ) → entry_kind t e ≡ k → 2 ≤ k → entry_bytes t e ≡ 8
  eight e k h b = other_bytes t e (λ q. omega arith) (λ q. omega arith)

  -- no frame that an entry can open is longer than its longest one
  pub opens_bound : (e n : ℕ) → Opens t e n → n ≤ entry_bytes t e
  opens_bound e n (its_frame k) = omega (arith, frame_bytes t e k)
  opens_bound e n (its_member k m h q) = omega (arith, list_bytes t e k, longest_bound (entry_target t e) (member_count t) m h q)
  opens_bound e n (the_request k) = omega (arith, eight e 2 k (omega arith))
  opens_bound e n (the_response k) = omega (arith, eight e 3 k (omega arith))

  module _ (ok : RightTable t) where
    -- the longest member of a list that an entry names has some bytes
    longest_low : (e : ℕ) → e < entry_count t → entry_kind t e ≡ 1 → 0 < longest_member t (entry_target t e) (member_count t)
    longest_low e h k =
        let m = list_member t ok (entry_target t e) (list_target t ok e h k) in
        omega (
          arith,
          longest_bound (entry_target t e) (member_count t) m.0 m.1 m.2,
          frame_length_low t ok (member_frame t m.0) (member_frame_below t ok m.0 m.1),
        )

    -- an entry's longest frame is one that it can open
    pub opens_longest : (e : ℕ) → e < entry_count t → Opens t e (entry_bytes t e)
    opens_longest e h =
        kinds (entry_kind t e) (entry_kind_high t ok e h)
        (λ k. rw (frame_bytes t e k) (its_frame k))
        (λ k.
        let w = longest_member_lem (entry_target t e) (member_count t) _ refl (longest_low e h k) in
        rw (list_bytes t e k, w.3) (its_member k w.0 w.1 w.2))
        (λ k. rw (eight e 2 k (omega arith)) (the_request k))
        (λ k. rw (eight e 3 k (omega arith)) (the_response k))

    module _ (tick bit : ℕ) where
      -- an entry's slot holds its longest frame exactly when every frame that it can open fits
      pub room_exactly : (e : ℕ) → e < entry_count t → (entry_holds t tick bit e ≡ true) ↔ Room t tick bit e
      unfolding entry_holds
      room_exactly e h =
          let slot = slot_exactly tick bit (entry_delay t e) (entry_bytes t e) in (
            (λ holds n o. shorter tick bit (entry_delay t e) n (entry_bytes t e) (opens_bound e n o) (slot.0 holds)),
            (λ room. slot.1 (room (entry_bytes t e) (opens_longest e h))),
          )

      -- and does not exactly when one of them does not fit
      pub no_room_exactly : (e : ℕ) → e < entry_count t → (entry_holds t tick bit e ≡ false) ↔ NoRoom t tick bit e
      unfolding entry_holds
      no_room_exactly e h =
          let slot = slot_exactly tick bit (entry_delay t e) (entry_bytes t e) in (
            (λ short. (entry_bytes t e, opens_longest e h, λ fits. true≢false (sym (slot.1 fits) ∙ short))),
            (λ w. whether (entry_holds t tick bit e) (λ holds. absurd (w.2 ((room_exactly e h).0 holds w.0 w.1))) (λ short. short)),
          )
