-- What the reassembler does at each frame of a message: a single frame, a first frame, a next frame, and the last one.
use Prim.Native.Nat.{ℕ, suc, ◌+◌, ◌-◌, ◌*◌, ◌/◌, ◌%◌, ◌≤◌, ◌<◌}
use mathlib.Core.Path.{◌≡◌, refl, sym, ◌∙◌, ap}
use mathlib.Core.Bool.{true}
use mathlib.Core.List.{List}
use native.Mathlib.Omega.{arith}
use borrow.Author.Tests.{le-ltb, lt-ltb, eq-eqb, ne_eqb}
use lib.ListN.{length, take, drop}
use Rattle.transport.specs.Cutting.{data_bytes, single_frame, first_frame, next_frame}
use Rattle.transport.specs.Reassembly.{Step, step, fits, listens, single, first, next, kind_ignored, kind_step, single_step, first_step, next_step}
use Rattle.transport.specs.Reassembly.{counter_due, continued, reached, bytes_due, Taken}
use Rattle.transport.specs.Exchange.{Between, answer_to, after}
use Rattle.transport.specs.declared.reassembly.Assembly.{Assembly}
use Rattle.std.specs.Prelude.{None, Some, Ok}
use Rattle.transport.specs.Answers.{Answered}
use Rattle.transport.specs.declared.reassembly.Answer.TheVariants.{Started, More, Done}
use Rattle.transport.proofs.Filled.{filled, filled_none, filled_length, filled_on, data_take}
use Rattle.transport.proofs.FitLaws.{fits_exactly}
use Rattle.transport.proofs.KindLaws.{kind_single, kind_first, kind_next}
use Rattle.transport.proofs.StepCases.{never_too_short, early_not_too_short, step_by_kind}

-- the answer to a frame, and what it leaves
pub record Received (x : Between) (f : List ℕ) (a : Answered) (y : Between) : Type 0 where
  pub answered : answer_to x f ≡ a
  pub left : after x f ≡ y

-- a step that brings n bytes of the message behind its first c
abbrev brings : Taken → ℕ → ℕ → List ℕ → Step
brings t c n m = record { taken = t; place = c; bytes = take n (drop c m) }

-- such a step fills the buffer up to e = c + n
received : (x : Between) (f : List ℕ) (t : Taken) (c n e : ℕ) (m b : List ℕ)
    → step x.state f x.buffer ≡ brings t c n m → x.buffer ≡ filled c m b
    → c + n ≡ e → e ≤ length m → length m ≤ length b
    → Received x f t.answer (record { state = t.state; buffer = filled e m b })
unfolding after
received x f t c n e m b s q p h k =
    record {
      answered = ap (λ (r : Step). r.taken.answer) s;
      left = rw (s, q, filled_on m b c n (omega arith) k, p);
    }

-- the open message with next frame i due
abbrev open_at : ℕ → List ℕ → ℕ → Assembly
open_at nad m i = record { nad = nad; length = length m; count = 5 + 6 * i; counter = (1 + i) % 16 }

-- that message is open, and its bytes so far are in the buffer
abbrev pub midway : ℕ → List ℕ → List ℕ → ℕ → Between
midway nad m b i = record { state = Some (open_at nad m i); buffer = filled (5 + 6 * i) m b }

-- the whole message is in the buffer, and none is open
abbrev pub complete : List ℕ → List ℕ → Between
complete m b = record { state = None; buffer = filled (length m) m b }

-- what is answered and handed back at a first frame, where next frame i is due, and at the end
abbrev started : ℕ → List ℕ → Taken
started nad m = record { state = Some (open_at nad m 0); answer = Ok Started }

abbrev more : ℕ → List ℕ → ℕ → Taken
more nad m i = record { state = Some (open_at nad m i); answer = Ok More }

abbrev done : List ℕ → Taken
done m = record { state = None; answer = Ok (Done (length m)) }

-- a state that listens to the NAD, and a buffer that holds the message
module _
    (nad : ℕ)
    (m : List ℕ)
    (x : Between)
    (fit : fits x.state ≡ true)
    (heard : listens x.state nad ≡ true)
    (room : length m ≤ length x.buffer) where
  single_step_lem : 1 ≤ length m → length m ≤ 6 → step x.state (single_frame nad m) x.buffer ≡ brings (done m) 0 (length m) m
  unfolding single_frame kind_ignored kind_step single_step data_bytes
  single_step_lem h k =
      step_by_kind x.state (single_frame nad m) x.buffer single
      (early_not_too_short x.state (single_frame nad m) x.buffer (omega arith)) fit refl heard
      (kind_single (length m) h k)
      (le-ltb (length x.buffer) (length m) room)
      ∙ rw (data_take m 0 6 (length m) k (omega arith))

  -- a single frame answers done and brings the whole message
  pub single_received : 1 ≤ length m → length m ≤ 6 → Received x (single_frame nad m) (Ok (Done (length m))) (complete m x.buffer)
  single_received h k =
      received x (single_frame nad m) (done m) 0 (length m) (length m) m x.buffer
      (single_step_lem h k) (sym (filled_none m x.buffer)) (omega arith) (omega arith) room

  first_step_lem : 7 ≤ length m → length m ≤ 4095 → step x.state (first_frame nad m) x.buffer ≡ brings (started nad m) 0 5 m
  unfolding first_frame kind_ignored kind_step first_step data_bytes
  first_step_lem h k =
      let n : 256 * (16 + length m / 256 - 16) + length m % 256 ≡ length m = omega arith in
      step_by_kind x.state (first_frame nad m) x.buffer first
      (early_not_too_short x.state (first_frame nad m) x.buffer (omega arith)) fit refl heard
      (kind_first (16 + length m / 256) (omega arith) (omega arith))
      (rw (n, le-ltb (length m) 7 h) (le-ltb (length x.buffer) (length m) room))
      ∙ rw (n, data_take m 0 5 5 (omega arith) (omega arith))

  -- a first frame answers started and brings five bytes
  pub first_received : 7 ≤ length m → length m ≤ 4095 → Received x (first_frame nad m) (Ok Started) (midway nad m x.buffer 0)
  first_received h k =
      received x (first_frame nad m) (started nad m) 0 5 5 m x.buffer
      (first_step_lem h k) (sym (filled_none m x.buffer)) (omega arith) (omega arith) room

-- an open message with next frame i due, and a buffer that holds it
module _
    (nad : ℕ)
    (m b : List ℕ)
    (i : ℕ)
    (known : nad ≡ 0 → ⊥)
    (low : 7 ≤ length m)
    (high : length m ≤ 4095)
    (room : length m ≤ length b)
    (below : 5 + 6 * i < length m) where
  -- the reassembler accepts that state
  pub midway_fits : fits (midway nad m b i).state ≡ true
  unfolding fits
  midway_fits =
      (fits_exactly (open_at nad m i)).1
      (record {
        k = i;
        nad_not_0 = known;
        length_low = low;
        length_high = high;
        count_is = refl;
        count_below = below;
        counter_is = refl;
      })

  midway_listens : listens (midway nad m b i).state nad ≡ true
  unfolding listens
  midway_listens = rw (ne_eqb nad 0 known) (eq-eqb nad nad refl)

  next_step_lem : (n : ℕ) → bytes_due (open_at nad m i) ≡ n
      → step (midway nad m b i).state (next_frame nad m i) (midway nad m b i).buffer
      ≡ brings (reached (open_at nad m i) (5 + 6 * i + n)) (5 + 6 * i) n m
  unfolding next_frame kind_ignored kind_step next_step counter_due continued data_bytes bytes_due
  next_step_lem n e =
      step_by_kind (midway nad m b i).state (next_frame nad m i) (midway nad m b i).buffer next
      (never_too_short (midway nad m b i).state (next_frame nad m i) (midway nad m b i).buffer
      (rw (filled_length (5 + 6 * i) m b (omega arith) room) room))
      midway_fits refl midway_listens (kind_next (32 + (1 + i) % 16) (omega arith) (omega arith)) refl
      ∙ rw (eq-eqb (32 + (1 + i) % 16) (32 + (1 + i) % 16) refl, e, data_take m (5 + 6 * i) 6 n (omega arith) (omega arith))

  reached_more : 5 + 6 * suc i < length m → reached (open_at nad m i) (5 + 6 * i + 6) ≡ more nad m (suc i)
  unfolding reached
  reached_more h =
      let c : 5 + 6 * i + 6 ≡ 5 + 6 * suc i = omega arith in
      let d : ((1 + i) % 16 + 1) % 16 ≡ (1 + suc i) % 16 = omega arith in
      rw (c, lt-ltb (5 + 6 * suc i) (length m) h, d)

  -- a next frame that leaves bytes missing answers more and brings six
  pub more_received : 5 + 6 * suc i < length m → Received (midway nad m b i) (next_frame nad m i) (Ok More) (midway nad m b (suc i))
  unfolding bytes_due
  more_received h =
      received (midway nad m b i) (next_frame nad m i) (more nad m (suc i)) (5 + 6 * i) 6 (5 + 6 * suc i) m b
      (next_step_lem 6 (omega arith) ∙ rw (reached_more h)) refl (omega arith) (omega arith) room

  reached_last : (n : ℕ) → 5 + 6 * i + n ≡ length m → reached (open_at nad m i) (5 + 6 * i + n) ≡ done m
  unfolding reached
  reached_last n e = rw (e, le-ltb (length m) (length m) (omega arith))

  -- the last next frame answers done and brings the rest
  pub last_received : length m ≤ 5 + 6 * suc i → Received (midway nad m b i) (next_frame nad m i) (Ok (Done (length m))) (complete m b)
  unfolding bytes_due
  last_received h =
      let n : ℕ = length m - (5 + 6 * i) in
      let e : 5 + 6 * i + n ≡ length m = omega arith in
      received (midway nad m b i) (next_frame nad m i) (done m) (5 + 6 * i) n (length m) m b
      (next_step_lem n (omega arith) ∙ rw (reached_last n e)) refl e (omega arith) room
